use Rattle.std.proofs.Common.{arith}
use Rattle.std.proofs.lemmas.Bool.Decides.{nat_tests}
use Rattle.scanners.proofs.flatbed.Settings.put.Goals as goal

pub returns-in_default-clause-held : goal.returns-in_default-clause-held
returns-in_default-clause-held c = λ a. grind (arith, nat_tests, c.same_points_are_one.ensures.attributes c.args.attribute a)
