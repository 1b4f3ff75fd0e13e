use Rattle.std.proofs.Common.{◌∷◌, refl, rules}
use Rattle.text.specs.Bytes.{digit}
use Rattle.text.specs.Machine.{digits, step, over}
use Rattle.text.proofs.Steps.{stay, then, expected, broke, digits_over}
use Rattle.text.proofs.reader.Reader.some_digits.Goals as goal

pub returns-in_err-expect : goal.returns-in_err-expect
unfolding step over
returns-in_err-expect c p = broke _ _ c.from_residual.ensures.1 stay (expected _ (λ k. digits p ∷ k) digit _ c.in_err-expect.ensures (λ b x m. search rules) (λ i k. refl) (λ k. refl))

pub returns : goal.returns
unfolding step over
returns c p = then (expected _ _ digit _ c.in_ok-expect.ensures (λ b x m. search rules) (λ i k. refl) (λ k. refl)) (then (c.digits.ensures.runs p) (digits_over p c.digits.ensures.stops))
