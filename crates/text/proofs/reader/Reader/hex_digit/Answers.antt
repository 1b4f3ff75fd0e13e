use Rattle.std.proofs.Common.{refl, rules}
use Rattle.text.specs.Bytes.{hex_digit}
use Rattle.text.specs.Machine.{step, over}
use Rattle.text.proofs.Steps.{expected}
use Rattle.text.proofs.reader.Reader.hex_digit.Goals as goal

pub returns : goal.returns
unfolding step over
returns c n = expected _ _ hex_digit _ c.expect.ensures (λ b x m. search rules) (λ i k. refl) (λ k. refl)
