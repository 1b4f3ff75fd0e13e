use Rattle.std.proofs.Common.{◌≡◌, ℕ, Bool, true, false, eqb, List, ◌∷◌, length, ◌≤◌, sym, refl, ◌∙◌, inl, inr, arith, rules}
use Rattle.std.proofs.lemmas.Bool.{cond-false}
use Rattle.std.proofs.lemmas.Bool.Decides.{nat_tests}
use Rattle.text.specs.declared.reader.Reader.{Reader}
use Rattle.text.specs.Bytes.{white}
use Rattle.text.specs.Machine.{Frame, value, entries, says, step, over, end_array}
use Rattle.text.specs.Ahead.{here, Inside, Separated, ReadsEntry, Answer, ByteLeft}
use Rattle.text.proofs.Steps.{Answers, met, solid, neither, then_left, token, then, then_passed, then_halted, bad_end, no_comma, comma_fails, broken}
use Rattle.text.proofs.Frames.{skip_entries}
use Rattle.text.proofs.reader.Reader.entry.Goals as goal

closing : (f : Bool) (d b : ℕ) (k : List Frame) → eqb b 93 ≡ true → step (entries f d ∷ k) b ≡ says end_array k
unfolding step
closing true d b k e = grind (arith, nat_tests)
closing false d b k e = grind (arith, nat_tests)

-- a comma before a value, or none before the first
separated : (f : Bool) (d : ℕ) {r s : Reader} {test : Answer} → (Inside r → white (here r) ≡ false) → ByteLeft test r s → Answers test (λ b. eqb b 93) → Separated f (λ k. entries f d ∷ k) (λ k. value d ∷ entries false d ∷ k) s
unfolding step over
separated true d w q a = (λ i k. neither (λ b. eqb b 93) _ _ _ w q a i ∙ sym (cond-false _ _ _ (solid q.stays w i)), λ k. refl)
separated false d w q a = (λ i k. neither (λ b. eqb b 93) _ _ _ w q a i, λ k. refl)

pub returns-then-accept : goal.returns-then-accept
returns-then-accept c = let w = c.accept.ensures.passed c.if-accept.true in (c.blanks.new.self.at, w.next, λ d. then_passed (c.blanks.ensures.runs _ (skip_entries c.args.first d)) (token end_array _ refl w.inside w.same w.next (λ k. closing c.args.first d _ k (met (λ b. eqb b 93) w (λ b x m. search rules)))))

-- the text ends where an entry or the bracket must stand
pub returns-in_default : goal.returns-in_default
unfolding over
returns-in_default c =
    let w = c.accept.ensures.left c.if-accept.false in
    let over : length c.accept.new.self.text.now ≤ c.accept.new.self.at = omega arith in
    record {
      early = inl (record { blank = λ f h. rw w.stays (c.blanks.ensures.runs f h); over = over; fault = c.forbidden.ensures });
      halted = λ d. then_halted (then_left (c.blanks.ensures.runs _ (skip_entries c.args.first d)) w) (bad_end over c.forbidden.ensures (λ k. refl));
    }

pub returns-in_err-comma : goal.returns-in_err-comma
returns-in_err-comma c =
    let w = c.accept.ensures.left c.if-accept.false in
    broken (ReadsEntry _ _ _) _ c.from_residual.ensures.1
    (record {
      early = inr (comma_fails 93 c.args.first c.blanks.ensures.runs w (λ b x m. search rules) c.in_err-comma.ensures);
      halted = λ d. then_halted (then_left (c.blanks.ensures.runs _ (skip_entries c.args.first d)) w) (no_comma c.args.first _ (separated c.args.first d c.blanks.ensures.stops w (λ b x m. search rules)) c.in_err-comma.ensures);
    })

pub returns : goal.returns
returns c =
    let w = c.accept.ensures.left c.if-accept.false in
    (λ f. rw (c.in_ok-comma.ensures.0 f) (omega arith), λ d. then (then_left (c.blanks.ensures.runs _ (skip_entries c.args.first d)) w) (c.in_ok-comma.ensures.1 _ _ (separated c.args.first d c.blanks.ensures.stops w (λ b x m. search rules))))
