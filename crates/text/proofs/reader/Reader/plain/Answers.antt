use Rattle.std.proofs.Common.{arith}
use Rattle.std.proofs.lemmas.Bool.Decides.{nat_tests}
use Rattle.text.specs.Machine.{step}
use Rattle.text.proofs.reader.Reader.plain.Goals as goal

pub returns : goal.returns
unfolding step
returns c = c.skip.ensures.runs _ (λ k b m. grind (arith, nat_tests, m))
