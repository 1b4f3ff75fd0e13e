-- A list of one call, which submits a text, comes to one turn, and that answers the text.
use Rattle.std.proofs.Common.{◌≡◌, ℕ, List, [], ◌∷◌, ◌++◌, length, Result, refl, sym, ap, ◌∙◌, subst}
use Rattle.scanner.specs.Meaning.{Catalogue}
use Rattle.session.specs.declared.fault.SubmitFault.{SubmitFault}
use Rattle.session.specs.declared.runs.Answer.TheVariants.{Submitted}
use Rattle.session.specs.declared.runs.Call.{Call}
use Rattle.session.specs.declared.runs.Turn.{Turn}
use Rattle.session.specs.Answered.{EachAnswered}
use Rattle.session.specs.History.{asked_by, asked, submit}
use Rattle.session.specs.Submissions.{submitted_by}
use Rattle.session.specs.Promise.{TextAnswered}
use Rattle.answers.specs.Opening.{drawn, FirstText, drew, first_drew}

pub record OneTurn (k : Catalogue) (text : List ℕ) (room : ℕ) (ts : List Turn) : Type 0 where
  pub turn : Turn
  pub whole : ts ≡ turn ∷ []
  pub first : FirstText k text room turn (first_drew ts)

module _ (k : Catalogue) (text : List ℕ) (room : ℕ) where
  -- the text as the call has it
  as_asked : (x : List ℕ) (n : ℕ) (r : Result (Unit {0}) SubmitFault) → x ≡ text → n ≡ room → TextAnswered k (drawn x n r) → TextAnswered k (drawn text room r)
  as_asked x n r p q a = subst (λ m. TextAnswered k (drawn text m r)) q (subst (λ z. TextAnswered k (drawn z n r)) p a)

  first_text : (t : Turn) (r : Result (Unit {0}) SubmitFault) → asked t ≡ submit text room → t.answer ≡ Submitted r → TextAnswered k (drawn text room r) → FirstText k text room t (drew t.answer)
  first_text t r q y a =
      subst (FirstText k text room t) (sym (ap drew y))
      (record { submits = ap (λ z. submitted_by z t.answer) q ∙ ap (submitted_by (submit text room)) y; answered = a })

  one_turn : (c : Call) (ts : List Turn) → asked_by c ≡ submit text room → EachAnswered k [] (c ∷ []) ts → OneTurn k text room ts
  one_turn c [] s e = absurd e
  one_turn c (t ∷ (u ∷ us)) s e = absurd e.1
  one_turn (Call.Submit x table) (t ∷ []) s e =
      let same_text : x.now ≡ text = cc in
      let same_room : length table.now ≡ room = cc in
      let a = e.0.answered in
      record { turn = t; whole = refl; first = first_text t a.0 (e.0.asked_so ∙ s) a.1 (as_asked x.now (length table.now) a.0 same_text same_room a.2) }
  one_turn Call.Restart (t ∷ []) s e = absurd (cc)
  one_turn (Call.Reply buffer) (t ∷ []) s e = absurd (cc)
  one_turn (Call.Setting p) (t ∷ []) s e = absurd (cc)
  one_turn (Call.Enabled o f) (t ∷ []) s e = absurd (cc)

  pub first_turn : (c : Call) (none cs : List Call) (ts : List Turn) → none ≡ [] → cs ≡ none ++ c ∷ [] → asked_by c ≡ submit text room → EachAnswered k [] cs ts → OneTurn k text room ts
  first_turn c none cs ts empty is s e = one_turn c ts s (subst (λ l. EachAnswered k [] l ts) (is ∙ ap (λ l. l ++ c ∷ []) empty) e)
