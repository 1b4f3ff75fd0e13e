use Rattle.std.proofs.Common.{◌≡◌, ℕ, ◌+◌, ◌-◌, ◌≤◌, true, eqb, List, ◌∷◌, take, drop, sym, refl, ap, ◌∙◌, arith, rules}
use Rattle.std.proofs.lemmas.Bool.{cond-false}
use Rattle.std.proofs.lemmas.Bool.Decides.{nat_tests}
use Rattle.std.proofs.lemmas.List.{drop-drop}
use Rattle.text.specs.declared.reader.Reader.{Reader}
use Rattle.text.specs.declared.fault.TextFault.{TextFault}
use Rattle.text.specs.Machine.{Kind, Frame, value, chars, says, event, step, string}
use Rattle.text.specs.Parts.{scalar_length, string_part}
use Rattle.text.specs.Ahead.{here, Stack, Passed, Onward, Halted, StringRead, Quotes, ReadsString, Answer, ByteRead}
use Rattle.text.proofs.Steps.{met, refused, token, then_passed, passed_halted, broken, on, on_halted}
use Rattle.text.proofs.Extents.{value_end}
use Rattle.text.proofs.reader.Reader.string.Goals as goal

module _ {test : Answer} {r u : Reader} (w : ByteRead test r u) (quote : here r ≡ 34) where
  string_passed : {s : Reader} → Onward (λ k. chars ∷ k) (λ k. k) u s → (n : Kind) (f g : Stack) → ((k : List Frame) → step (f k) 34 ≡ says n (chars ∷ g k)) → Passed f g (event n r.at) r s
  string_passed p n f g e = then_passed (token n _ refl w.inside w.same w.next (λ k. rw quote (e k))) (on g p)

  string_read : (s : Reader) (q : ℕ) → Onward (λ k. chars ∷ k) (λ k. k) u s → s.at ≡ q + 1 → u.at ≤ q → StringRead r s (take (q - u.at) (drop u.at s.text.now))
  unfolding string_part step
  string_read s q p e h =
      let t = drop r.at r.text.now in
      let to : s.at ≡ r.at + scalar_length t = value_end 0 (λ _. refl) (string_passed p string (λ k. value 0 ∷ k) (λ k. k) (λ k. refl)) in
      let n : q - (r.at + 1) ≡ scalar_length t - 2 = omega (arith, w.next) in
      record {
        holds = rw w.next (ap (λ x. take (q - (r.at + 1)) (drop (r.at + 1) x.now)) (p.same ∙ w.same) ∙ ap (λ m. take m (drop (r.at + 1) r.text.now)) n ∙ ap (take (scalar_length t - 2)) (sym (drop-drop 1 r.at r.text.now)));
        to = to;
        moves = omega (arith, w.next);
        passed = string_passed p;
      }

  string_halted : {s : Reader} {e : TextFault} → Halted (λ k. chars ∷ k) u s e → (n : Kind) (f g : Stack) → Quotes n f g r → Halted f r s e
  string_halted p n f g q = passed_halted (λ _. refl) (token n _ refl w.inside w.same w.next (λ k. q.byte w.inside k ∙ rw quote refl)) (on_halted g p)

a_quote : (b : ℕ) → eqb b 34 ≡ true → b ≡ 34
a_quote b e = grind (arith, nat_tests)

pub returns-in_err-expect : goal.returns-in_err-expect
returns-in_err-expect c =
    broken (ReadsString _ _) _ c.from_residual.ensures.1
    (λ n f g q. let w = c.in_err-expect.ensures.left in refused (λ b. eqb b 34) w.0 w.1 (λ b x m. search rules) (λ i m k. q.byte i k ∙ cond-false _ _ _ m) q.end)

pub returns-in_err-quote : goal.returns-in_err-quote
returns-in_err-quote c = broken (ReadsString _ _) _ c.from_residual-in_err-quote.ensures.1 (let w = c.in_ok-expect.ensures.passed in string_halted w (a_quote _ (met (λ b. eqb b 34) w (λ b x m. search rules))) c.in_err-quote.ensures)

pub slice_bounds-result-count : goal.slice_bounds-result-count
slice_bounds-result-count c = c.in_ok-quote.ensures.2

pub slice_bounds-result-start : goal.slice_bounds-result-start
slice_bounds-result-start c = c.in_ok-quote.ensures.2

pub returns : goal.returns
returns c = let w = c.in_ok-expect.ensures.passed in let p = c.in_ok-quote.ensures in string_read w (a_quote _ (met (λ b. eqb b 34) w (λ b x m. search rules))) _ _ p.0 p.1 p.2
