use Rattle.std.proofs.Common.{eqb, refl, arith, rules}
use Rattle.std.proofs.lemmas.Bool.Decides.{nat_tests}
use Rattle.text.specs.Bytes.{short_escape}
use Rattle.text.specs.Machine.{step, over}
use Rattle.text.proofs.Steps.{byte_on, stayed, misses, expected, then_reads, met}
use Rattle.text.proofs.reader.Reader.escape.Goals as goal

pub returns-then-accept : goal.returns-then-accept
unfolding step
returns-then-accept c = let p = c.accept.ensures.passed c.if-accept.true in then_reads _ _ _ (byte_on p (λ k. let e = met (λ b. eqb b 117) p (λ b x m. search rules) in grind (arith, nat_tests))) c.hex_digits.ensures

pub returns : goal.returns
unfolding step over
returns c =
    let p = c.accept.ensures.left c.if-accept.false in
    then_reads _ _ _ (stayed p.stays) (expected _ _ short_escape _ c.expect.ensures (λ b x m. search rules) (λ i k. let e = misses (λ b. eqb b 117) p (λ b x m. search rules) i in rw e refl) (λ k. refl))
