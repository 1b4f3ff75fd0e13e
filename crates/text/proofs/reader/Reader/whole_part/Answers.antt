use Rattle.std.proofs.Common.{eqb, refl, rules}
use Rattle.text.specs.Machine.{whole, step, over}
use Rattle.text.proofs.Steps.{took, kept, then_reads}
use Rattle.text.proofs.reader.Reader.whole_part.Goals as goal

pub returns-then-accept : goal.returns-then-accept
unfolding step
returns-then-accept c = took (λ b. eqb b 48) _ (c.accept.ensures.passed c.if-accept.true) (λ b x m. search rules) (λ k. refl)

pub returns : goal.returns
unfolding step over
returns c = then_reads _ _ _ (kept (λ b. eqb b 48) _ (c.accept.ensures.left c.if-accept.false) (λ b x m. search rules) (λ k. refl) (λ k. refl)) (c.some_digits.ensures whole)
