use Rattle.std.proofs.Common.{refl, rules}
use Rattle.text.specs.Bytes.{between}
use Rattle.text.specs.Machine.{step, over}
use Rattle.text.proofs.Steps.{expected}
use Rattle.text.proofs.reader.Reader.continuation.Goals as goal

pub returns : goal.returns
unfolding step over
returns c n = expected _ _ (between c.args.low c.args.high) _ c.expect.ensures (λ b x m. search rules) (λ i k. refl) (λ k. refl)
