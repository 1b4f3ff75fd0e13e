use Rattle.std.proofs.Common.{◌≡◌, ℕ, Bool, true, false, eqb, List, ◌∷◌, drop, sym, refl, ap, ◌∙◌, inl, inr, arith, rules}
use Rattle.std.proofs.lemmas.Bool.{cond-false}
use Rattle.std.proofs.lemmas.Bool.Decides.{nat_tests}
use Rattle.text.specs.declared.reader.Reader.{Reader}
use Rattle.text.specs.declared.fault.TextFault.{TextFault}
use Rattle.text.specs.Bytes.{white}
use Rattle.text.specs.Machine.{Frame, member, members, says, step, over, end_object}
use Rattle.text.specs.Parts.{string_part}
use Rattle.text.specs.Ahead.{here, Inside, Onward, Separated, NameRead, NameFails, MemberFails, ReadsMember, Answer, ByteLeft}
use Rattle.text.proofs.Steps.{Answers, met, solid, neither, then_left, token, then, then_passed, then_halted, no_comma, comma_fails, broken}
use Rattle.text.proofs.Frames.{skip_members}
use Rattle.text.proofs.reader.Reader.member.Goals as goal

closing : (f : Bool) (d b : ℕ) (k : List Frame) → eqb b 125 ≡ true → step (members f d ∷ k) b ≡ says end_object k
unfolding step
closing true d b k e = grind (arith, nat_tests)
closing false d b k e = grind (arith, nat_tests)

-- a comma before a name, or none before the first
separated : (f : Bool) (d : ℕ) {r s : Reader} {test : Answer} → (Inside r → white (here r) ≡ false) → ByteLeft test r s → Answers test (λ b. eqb b 125) → Separated f (λ k. members f d ∷ k) (λ k. member d ∷ k) s
unfolding step over
separated true d w q a = (λ i k. neither (λ b. eqb b 125) _ _ _ w q a i ∙ sym (cond-false _ _ _ (solid q.stays w i)), λ k. refl)
separated false d w q a = (λ i k. neither (λ b. eqb b 125) _ _ _ w q a i, λ k. refl)

-- a name that was read after a first part of the way
then_name : (f : Bool) (r s u : Reader) (x : List ℕ) (i : ℕ) → ((d : ℕ) → Onward (λ k. members f d ∷ k) (λ k. member d ∷ k) r s) → NameRead (λ d k. member d ∷ k) s u x i → NameRead (λ d k. members f d ∷ k) r u x i
then_name f r s u x i p q = record {
  from = omega (arith, (p 0).forth, q.from);
  moves = omega (arith, (p 0).forth, q.moves);
  holds = q.holds ∙ ap (λ y. string_part (drop i y.now)) (p 0).same;
  passed = λ d. then_passed (p d) (q.passed d);
}

-- the same for a name at fault
then_name_fails : (f : Bool) {r s u : Reader} {e : TextFault} → ((d : ℕ) → Onward (λ k. members f d ∷ k) (λ k. member d ∷ k) r s) → NameFails (λ d k. member d ∷ k) s u e → MemberFails f r u e
then_name_fails f p q = record {
  early = inr (record { from = q.from; to = λ d. then (p d) (q.to d); solid = q.solid; cut = q.cut; halted = λ d. then_halted (p d) (q.halted d) });
  halted = λ d. then_halted (p d) (q.halted d);
}

pub returns-then-accept : goal.returns-then-accept
returns-then-accept c = let w = c.accept.ensures.passed c.if-accept.true in (w.next, λ d. then_passed (c.blanks.ensures.runs _ (skip_members c.args.first d)) (token end_object _ refl w.inside w.same w.next (λ k. closing c.args.first d _ k (met (λ b. eqb b 125) w (λ b x m. search rules)))))

pub returns-in_err-comma : goal.returns-in_err-comma
returns-in_err-comma c =
    let w = c.accept.ensures.left c.if-accept.false in
    broken (ReadsMember _ _ _) _ c.from_residual.ensures.1
    (record {
      early = inl (comma_fails 125 c.args.first c.blanks.ensures.runs w (λ b x m. search rules) c.in_err-comma.ensures);
      halted = λ d. then_halted (then_left (c.blanks.ensures.runs _ (skip_members c.args.first d)) w) (no_comma c.args.first _ (separated c.args.first d c.blanks.ensures.stops w (λ b x m. search rules)) c.in_err-comma.ensures);
    })

pub returns-in_err-name : goal.returns-in_err-name
returns-in_err-name c =
    let w = c.accept.ensures.left c.if-accept.false in
    broken (ReadsMember _ _ _) _ c.from_residual-in_err-name.ensures.1
    (then_name_fails c.args.first (λ d. then (then_left (c.blanks.ensures.runs _ (skip_members c.args.first d)) w) (c.in_ok-comma.ensures.1 _ _ (separated c.args.first d c.blanks.ensures.stops w (λ b x m. search rules)))) c.in_err-name.ensures)

pub returns : goal.returns
returns c =
    let w = c.accept.ensures.left c.if-accept.false in
    then_name c.args.first _ _ _ _ _ (λ d. then (then_left (c.blanks.ensures.runs _ (skip_members c.args.first d)) w) (c.in_ok-comma.ensures.1 _ _ (separated c.args.first d c.blanks.ensures.stops w (λ b x m. search rules)))) c.in_ok-name.ensures
