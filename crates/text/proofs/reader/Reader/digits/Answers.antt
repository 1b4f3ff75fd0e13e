use Rattle.std.proofs.Common.{rules}
use Rattle.std.proofs.lemmas.Bool.{cond-true}
use Rattle.text.specs.Bytes.{digit}
use Rattle.text.specs.Machine.{step}
use Rattle.text.proofs.reader.Reader.digits.Goals as goal

pub returns : goal.returns
unfolding step
returns c = record { runs = λ p. c.skip.ensures.runs _ (λ k b m. cond-true (digit b) _ _ (search rules)); stops = λ i. let q = c.skip.ensures.stops i in search rules }
