use Rattle.std.proofs.Common.{◌+◌, eqb, List, ◌∷◌, get_or, drop, ℕ, refl, arith, rules}
use Rattle.text.specs.Machine.{Frame, literal, letters, step, over}
use Rattle.text.specs.Ahead.{ReadsLetters}
use Rattle.text.proofs.Steps.{then, then_halted, expected, same_stack, letters_some, letters_none, broken}
use Rattle.text.proofs.reader.Reader.letters.Goals as goal

-- the literal whose letter at i is next, and what follows that letter
before_letter : List ℕ → ℕ → List Frame → List Frame
before_letter cs i k = literal (get_or cs i 0 ∷ drop (i + 1) cs) ∷ k

pub returns-in_err-expect : goal.returns-in_err-expect
unfolding step over
returns-in_err-expect c =
    broken (ReadsLetters _ _ _) _ c.from_residual.ensures.1 (then_halted (then c.loop-c.invariant.0 (same_stack (λ k. letters_some _ _ k c.loop-c-test.true)))
    (expected (λ k. literal (get_or c.args.rest.now c.loop-c.c-index 0 ∷ drop (c.loop-c.c-index + 1) c.args.rest.now) ∷ k) (λ k. letters (drop (c.loop-c.c-index + 1) c.args.rest.now) k) (λ b. eqb b (get_or c.args.rest.now c.loop-c.c-index 0)) _ c.in_err-expect.ensures (λ b x m. search rules) (λ i k. refl) (λ k. refl)))

pub loop-c-preserved : goal.loop-c-preserved
unfolding step over
loop-c-preserved c =
    let p = c.in_ok-expect.ensures in
    (then c.loop-c.invariant.0 (then (same_stack (λ k. letters_some _ _ k c.loop-c-test.true)) (expected _ _ (λ b. eqb b (get_or c.args.rest.now c.loop-c.c-index 0)) _ p (λ b x m. search rules) (λ i k. refl) (λ k. refl))), omega (arith, p.passed.next))

pub returns : goal.returns
returns c = (then c.loop-c.invariant.0 (same_stack (λ k. letters_none _ _ k c.loop-c-test.false)), omega arith)
