use Rattle.std.proofs.Common.{◌≡◌, ℕ, ◌≤◌, eqb, false, List, ◌∷◌, drop, refl, ap, ◌∙◌, arith, rules}
use Rattle.std.proofs.lemmas.Bool.{cond-false}
use Rattle.text.specs.declared.reader.Reader.{Reader}
use Rattle.text.specs.Bytes.{white}
use Rattle.text.specs.Machine.{Frame, value, chars, member, colon, members, says, event, step, over, name}
use Rattle.text.specs.Parts.{string_part}
use Rattle.text.specs.Ahead.{here, Inside, Passed, Onward, StringRead, Quotes, NameCut, NameRead, ReadsName}
use Rattle.text.proofs.Steps.{expected, other_byte, then_left, then_passed, then_halted, passed_halted, broken}
use Rattle.text.proofs.Frames.{skip_member, skip_colon}
use Rattle.text.proofs.reader.Reader.name.Goals as goal

member_quotes : {s : Reader} (d : ℕ) → (Inside s → white (here s) ≡ false) → Quotes name (λ k. member d ∷ k) (λ k. colon d ∷ k) s
unfolding step over
member_quotes {s} d w = record { byte = λ i k. cond-false (white (here s)) _ _ (w i); end = λ i k. refl }

member_string : (d : ℕ) (k : List Frame) → step (member d ∷ k) 34 ≡ says name (chars ∷ colon d ∷ k)
unfolding step
member_string d k = refl

-- up to the colon
to_colon : (r s u v : Reader) (x : List ℕ) (d : ℕ) → Onward (λ k. member d ∷ k) (λ k. member d ∷ k) r s → StringRead s u x → Onward (λ k. colon d ∷ k) (λ k. colon d ∷ k) u v → Passed (λ k. member d ∷ k) (λ k. colon d ∷ k) (event name s.at) r v
to_colon r s u v x d p q w = then_passed p (then_passed (q.passed name (λ k. member d ∷ k) (λ k. colon d ∷ k) (member_string d)) w)

name_read : (r s u v : Reader) (x : List ℕ) → s.text ≡ r.text → r.at ≤ s.at → StringRead s u x → u.at ≤ v.at → ((d : ℕ) → Passed (λ k. member d ∷ k) (λ k. value d ∷ members false d ∷ k) (event name s.at) r v) → NameRead (λ d k. member d ∷ k) r v x s.at
name_read r s u v x t f q h p = record {
  from = f;
  moves = omega (arith, q.moves);
  holds = q.holds ∙ ap (λ y. string_part (drop s.at y.now)) t;
  passed = p;
}

pub returns-in_err-value : goal.returns-in_err-value
returns-in_err-value c =
    broken (ReadsName _ _ _) _ c.from_residual.ensures.1
    (record {
      from = c.blanks.new.self;
      to = λ d. c.blanks.ensures.runs _ (skip_member d);
      solid = c.blanks.ensures.stops;
      cut = NameCut.in_name c.in_err-value.ensures;
      halted = λ d. then_halted (c.blanks.ensures.runs _ (skip_member d)) (c.in_err-value.ensures name _ _ (member_quotes d c.blanks.ensures.stops));
    })

pub returns-in_err-expect : goal.returns-in_err-expect
unfolding step over
returns-in_err-expect c =
    broken (ReadsName _ _ _) _ c.from_residual-in_err-expect.ensures.1
    (record {
      from = c.blanks.new.self;
      to = λ d. c.blanks.ensures.runs _ (skip_member d);
      solid = c.blanks.ensures.stops;
      cut = let w = c.in_err-expect.ensures.left.0 in NameCut.no_colon _ _ c.in_ok-value.ensures (λ f h. then_left (c.blanks-2.ensures.runs f h) w) (other_byte 58 w (λ b x m. search rules));
      halted = λ d. passed_halted (λ _. refl) (to_colon _ _ _ _ _ d (c.blanks.ensures.runs _ (skip_member d)) c.in_ok-value.ensures (c.blanks-2.ensures.runs _ (skip_colon d)))
          (expected _ (λ k. value d ∷ members false d ∷ k) (λ b. eqb b 58) _ c.in_err-expect.ensures (λ b x m. search rules) (λ i k. cond-false _ _ _ (c.blanks-2.ensures.stops i)) (λ k. refl));
    })

pub returns : goal.returns
unfolding step over
returns c =
    let p = c.blanks.ensures.runs _ (skip_member 0) in
    let q = c.blanks-2.ensures.runs _ (skip_colon 0) in
    let w = c.in_ok-expect.ensures.passed in
    name_read _ _ _ _ _ p.same p.forth c.in_ok-value.ensures (omega (arith, q.forth, w.next))
    (λ d. then_passed (to_colon _ _ _ _ _ d (c.blanks.ensures.runs _ (skip_member d)) c.in_ok-value.ensures (c.blanks-2.ensures.runs _ (skip_colon d)))
    (expected _ _ (λ b. eqb b 58) _ c.in_ok-expect.ensures (λ b x m. search rules) (λ i k. cond-false _ _ _ (c.blanks-2.ensures.stops i)) (λ k. refl)))
