use Rattle.std.proofs.Common.{eqb, refl, arith, rules}
use Rattle.text.specs.Machine.{step}
use Rattle.text.proofs.Steps.{took, then}
use Rattle.text.proofs.reader.Reader.characters.Goals as goal

pub returns : goal.returns
unfolding step
returns c =
    let p = c.accept.ensures.passed c.loop-self-test.false in
    let i = c.loop-self.invariant.forth in
    (then c.loop-self.invariant (took (λ b. eqb b 34) _ p (λ b x m. search rules) (λ k. refl)), omega (arith, p.next), omega (arith, p.next))
