use Rattle.std.proofs.Common.{◌≡◌, ℕ, ◌+◌, ◌-◌, ◌<◌, ◌≤◌, Bool, true, false, eqb, ◌⊎◌, List, [], ◌∷◌, take, drop, refl, ap, ◌∙◌, inl, inr, arith, rules}
use Rattle.std.proofs.lemmas.Bool.Decides.{nat_tests}
use Rattle.text.specs.declared.reader.Reader.{Reader}
use Rattle.text.specs.Bytes.{digit}
use Rattle.text.specs.Machine.{Tape, Frame, value, first, literal, event, says, step, number}
use Rattle.text.specs.Parts.{scalar_length, number_part}
use Rattle.text.specs.Ahead.{here, Inside, Stack, Passed, Onward, NumberRead, ReadsNumber, Answer, Accepts}
use Rattle.text.proofs.Steps.{Answers, met, token, announced, then_passed, passed_halted, broken}
use Rattle.text.proofs.Frames.{number_says, led_by, digit_says, digit_goes}
use Rattle.text.proofs.Extents.{value_end, scalar_some}
use Rattle.text.proofs.reader.Reader.number.Goals as goal

says_minus : (b d : ℕ) (k : List Frame) → eqb b 45 ≡ true → step (value d ∷ k) b ≡ says number (first ∷ k)
unfolding step
says_minus b d k e = grind (arith, nat_tests)

is_digit : (b : ℕ) → (b ≡ 45) ⊎ (digit b ≡ true) → eqb b 45 ≡ false → digit b ≡ true
is_digit b (inl e) n = grind (arith, nat_tests)
is_digit b (inr e) n = e

-- past the minus of a number, if it has one
past_minus : (d : ℕ) {test : Answer} {r s : Reader} (x : Bool) → Accepts test r s x → Answers test (λ b. eqb b 45) → Inside r → (here r ≡ 45) ⊎ (digit (here r) ≡ true) → Passed (λ k. value d ∷ k) (λ k. first ∷ k) (event number r.at) r s
past_minus d true q a i h = let w = q.passed refl in token number _ refl w.inside w.same w.next (λ k. says_minus _ d k (met (λ b. eqb b 45) w a))
past_minus d false q a i h =
    let w = q.left refl in
    let e = is_digit _ h (a _ _ (w.fails i)) in
    rw w.stays (announced number (led_by _) i (λ k. digit_says _ d k e) (λ k. digit_goes _ k e))

number_read : (r s : Reader) → Inside r → (here r ≡ 45) ⊎ (digit (here r) ≡ true) → ((d : ℕ) → Passed (λ k. value d ∷ k) (λ k. k) (event number r.at) r s) → NumberRead r s (take (s.at - r.at) (drop r.at s.text.now))
unfolding number_part
number_read r s h b p =
    let t = drop r.at r.text.now in
    let to : s.at ≡ r.at + scalar_length t = value_end 0 (λ _. refl) (p 0) in
    let n : s.at - r.at ≡ scalar_length t = omega arith in
    let says-number = number_says (here r) b 0 (literal [] ∷ []) in
    let some : 0 < scalar_length t = scalar_some r number says-number.0 h says-number.1 in
    record {
      holds = ap (λ x. take (s.at - r.at) (drop r.at x.now)) (p 0).same ∙ ap (λ m. take m t) n;
      to = to;
      moves = omega arith;
      passed = p;
    }

pub returns-in_err-magnitude : goal.returns-in_err-magnitude
returns-in_err-magnitude c = broken (ReadsNumber _ _) _ c.from_residual.ensures.1 (λ d. passed_halted (λ _. refl) (past_minus d _ c.accept.ensures (λ b x m. search rules) c.requires.inside c.requires.is) c.in_err-magnitude.ensures)

forth : {f g h : Stack} {a : Tape → Tape} {r s u : Reader} → Passed f g a r s → Onward g h s u → r.at ≤ u.at
forth p q = omega (arith, p.forth, q.forth)

pub slice_bounds-result-count : goal.slice_bounds-result-count
slice_bounds-result-count c = forth (past_minus 0 _ c.accept.ensures (λ b x m. search rules) c.requires.inside c.requires.is) c.in_ok-magnitude.ensures

pub slice_bounds-result-start : goal.slice_bounds-result-start
slice_bounds-result-start c = forth (past_minus 0 _ c.accept.ensures (λ b x m. search rules) c.requires.inside c.requires.is) c.in_ok-magnitude.ensures

pub returns : goal.returns
returns c = number_read _ _ c.requires.inside c.requires.is (λ d. then_passed (past_minus d _ c.accept.ensures (λ b x m. search rules) c.requires.inside c.requires.is) c.in_ok-magnitude.ensures)
