use Rattle.std.proofs.Common.{arith}
use Rattle.std.proofs.lemmas.Bool.Decides.{nat_tests}
use Rattle.scanners.proofs.flatbed.FlatbedScanner.set.Goals as goal

pub returns-in-Some-clause-after : goal.returns-in-Some-clause-after
returns-in-Some-clause-after c = record { enabled = λ s f. grind (arith, nat_tests); current = λ p. let h = c.put.ensures.held p.attribute in grind (arith, nat_tests) }
