use Rattle.std.proofs.Common.{refl, rules}
use Rattle.text.specs.Bytes.{exponent_mark}
use Rattle.text.specs.Machine.{exponent, step, over}
use Rattle.text.proofs.Steps.{took, kept, alike, then, then_reads, reads_then}
use Rattle.text.proofs.reader.Reader.exponent.Goals as goal

pub returns-then-accept : goal.returns-then-accept
unfolding step over
returns-then-accept c = then_reads _ _ _ (then (took exponent_mark _ (c.accept.ensures.passed c.if-accept.true) (λ b x m. search rules) (λ k. refl)) c.sign.ensures) (reads_then _ _ _ (c.some_digits.ensures exponent) (alike (λ i k. refl) (λ k. refl)))

pub returns : goal.returns
unfolding step over
returns c = kept exponent_mark _ (c.accept.ensures.left c.if-accept.false) (λ b x m. search rules) (λ k. refl) (λ k. refl)
