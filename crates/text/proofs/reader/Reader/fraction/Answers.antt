use Rattle.std.proofs.Common.{eqb, refl, rules}
use Rattle.text.specs.Machine.{fraction, step, over}
use Rattle.text.proofs.Steps.{took, kept, then_reads}
use Rattle.text.proofs.reader.Reader.fraction.Goals as goal

pub returns-then-accept : goal.returns-then-accept
unfolding step
returns-then-accept c = then_reads _ _ _ (took (λ b. eqb b 46) _ (c.accept.ensures.passed c.if-accept.true) (λ b x m. search rules) (λ k. refl)) (c.some_digits.ensures fraction)

pub returns : goal.returns
unfolding step over
returns c = kept (λ b. eqb b 46) _ (c.accept.ensures.left c.if-accept.false) (λ b x m. search rules) (λ k. refl) (λ k. refl)
