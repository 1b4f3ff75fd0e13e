use Rattle.std.proofs.Common.{refl, rules}
use Rattle.text.specs.Bytes.{sign_mark}
use Rattle.text.specs.Machine.{step, over}
use Rattle.text.proofs.Steps.{optional}
use Rattle.text.proofs.reader.Reader.sign.Goals as goal

pub returns : goal.returns
unfolding step over
returns c = optional sign_mark _ c.accept.ensures (λ b x m. search rules) (λ k. refl) (λ k. refl)
