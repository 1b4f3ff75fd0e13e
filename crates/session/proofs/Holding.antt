-- One turn more leaves the scanner holding, and the session keeping, the plan of the chosen stream.
use Rattle.std.proofs.Common.{◌≡◌, ℕ, true, false, ◌⊎◌, List, [], ◌∷◌, ◌++◌, Ok, Err, Result, sym, refl, ap, ◌∙◌, subst, inl, inr}
use Rattle.table.specs.declared.fault.TableFault.{TableFault}
use Rattle.table.specs.ComesTo.{ComesTo}
use Rattle.table.specs.Places.{outside}
use Rattle.table.specs.Task.{ActionObject}
use Rattle.scanner.specs.declared.plan.Item.{Item}
use Rattle.scanner.specs.Meaning.{Catalogue, State}
use Rattle.scanner.specs.Plan.{InForce}
use Rattle.negotiation.specs.Plans.{default_items}
use Rattle.negotiation.specs.Met.{Stream, default_stream, plan_of, SaysWhatIs}
use Rattle.negotiation.specs.Verdicts.{Outcome, unchanged, planned, rejected, OneVerdict}
use Rattle.session.specs.declared.fault.SubmitFault.{SubmitFault}
use Rattle.session.specs.declared.fault.SubmitFault.TheVariants.{Table, Rejected}
use Rattle.session.specs.declared.runs.Answer.TheVariants.{Submitted}
use Rattle.session.specs.declared.runs.Turn.{Turn}
use Rattle.session.specs.History.{asked, submit, is_restart}
use Rattle.session.specs.Submissions.{submitted_in, Adds, AllAccepted}
use Rattle.session.specs.Submitted.{Submitted as SubmittedTo, Tells, Draws}
use Rattle.session.specs.Promise.{Chosen, HoldsChosen, KeepsChosen}
use Rattle.session.proofs.Chosen.{accepted_in, chosen_opening, chosen_restart, chosen_kept, chosen_new}

module _ (k : Catalogue) where
  pub holds_opening : (st : State) → InForce k (default_items k) st → HoldsChosen k [] st
  holds_opening st f = record { stream = default_stream; chosen = chosen_opening k; in_force = f }

  pub keeps_opening : (xs : List Item) → xs ≡ default_items k → KeepsChosen k [] xs
  keeps_opening xs e = record { stream = default_stream; chosen = chosen_opening k; is = e }

  pub holds_restart : (h : List Turn) (t : Turn) (new : State) → is_restart (asked t) ≡ true → InForce k (default_items k) new → HoldsChosen k (h ++ t ∷ []) new
  holds_restart h t new r f = record { stream = default_stream; chosen = chosen_restart k h t r; in_force = f }

  pub keeps_restart : (h : List Turn) (t : Turn) (xs : List Item) → is_restart (asked t) ≡ true → xs ≡ default_items k → KeepsChosen k (h ++ t ∷ []) xs
  keeps_restart h t xs r e = record { stream = default_stream; chosen = chosen_restart k h t r; is = e }

  -- a question or a reply
  module _ (h : List Turn) (t : Turn) (quiet : is_restart (asked t) ≡ false) (nothing : AllAccepted (submitted_in t) []) where
    pub holds_asking : (st : State) → HoldsChosen k h st → HoldsChosen k (h ++ t ∷ []) st
    holds_asking st p = record { stream = p.stream; chosen = chosen_kept k h t quiet [] nothing p.stream p.chosen tt; in_force = p.in_force }

    pub keeps_asking : (xs : List Item) → KeepsChosen k h xs → KeepsChosen k (h ++ t ∷ []) xs
    keeps_asking xs p = record { stream = p.stream; chosen = chosen_kept k h t quiet [] nothing p.stream p.chosen tt; is = p.is }

  -- A submitted text leaves the chosen stream and the kept plan as they were, or chooses a stream and keeps its plan.
  abbrev Chooses : List Turn → Turn → List Item → List Item → Type 0
  Chooses h t xs ys = ((ys ≡ xs) × ((s : Stream) → Chosen k h s → Chosen k (h ++ t ∷ []) s)) ⊎ ((u : Stream) × (ys ≡ plan_of k u) × ((s : Stream) → Chosen k h s → Chosen k (h ++ t ∷ []) u))

  module _ (says : SaysWhatIs k) (h : List Turn) (t : Turn) (text : List ℕ) (room : ℕ) (q : asked t ≡ submit text room) (xs ys : List Item) (r : Result (Unit {0}) SubmitFault) (y : t.answer ≡ Submitted r) (unmoved : (e : SubmitFault) → r ≡ Err e → ys ≡ xs) where
    quiet : is_restart (asked t) ≡ false
    quiet = ap is_restart q

    brings : (acts : List ActionObject) → Adds (record { text = text; room = room; answer = r }) acts → AllAccepted (submitted_in t) acts
    brings acts a = accepted_in t text room r acts q y a

    refused : (e : SubmitFault) → r ≡ Err e → Chooses h t xs ys
    refused e z = inl (unmoved e z, λ s c. chosen_kept k h t quiet [] (brings [] (inr (e, z, refl))) s c tt)

    by_outcome : (acts : List ActionObject) → ComesTo text room (Ok acts) → (o : Outcome) → OneVerdict k outside acts o → Tells o xs ys r → Chooses h t xs ys
    by_outcome acts v unchanged d z = inl (z.1, λ s c. chosen_kept k h t quiet acts (brings acts (inl (z.0, v))) s c ((says.outcome acts unchanged).0 d).0)
    by_outcome acts v (planned b zs) d z =
        let m = (says.outcome acts (planned b zs)).0 d in
        inr (m.met.0, z.1 ∙ m.met.2, λ s c. chosen_new k h t quiet acts (brings acts (inl (z.0, v))) s c m.action m.met.0 m.last m.met.1)
    by_outcome acts v (rejected f) d z = refused (Rejected f) z

    by_result : (x : Result (List ActionObject) TableFault) → ComesTo text room x → Draws k x xs ys r → Chooses h t xs ys
    by_result (Ok acts) v s = by_outcome acts v s.0 s.1 s.2
    by_result (Err e) v s = refused (Table e) s

    pub chooses : SubmittedTo k text room xs ys r → Chooses h t xs ys
    chooses s = by_result s.0 s.1 s.2

  keeps_by : (h : List Turn) (t : Turn) (xs ys : List Item) → Chooses h t xs ys → KeepsChosen k h xs → KeepsChosen k (h ++ t ∷ []) ys
  keeps_by h t xs ys (inl c) p = record { stream = p.stream; chosen = c.1 p.stream p.chosen; is = c.0 ∙ p.is }
  keeps_by h t xs ys (inr c) p = record { stream = c.0; chosen = c.2 p.stream p.chosen; is = c.1 }

  holds_by : (h : List Turn) (t : Turn) (xs ys : List Item) (old new : State) → InForce k ys new → (ys ≡ xs → new ≡ old) → Chooses h t xs ys → HoldsChosen k h old → HoldsChosen k (h ++ t ∷ []) new
  holds_by h t xs ys old new f same (inl c) p = record { stream = p.stream; chosen = c.1 p.stream p.chosen; in_force = subst (InForce k (plan_of k p.stream)) (sym (same c.0)) p.in_force }
  holds_by h t xs ys old new f same (inr c) p = record { stream = c.0; chosen = c.2 p.stream p.chosen; in_force = subst (λ l. InForce k l new) c.1 f }

  module _ (says : SaysWhatIs k) (h : List Turn) (t : Turn) (text : List ℕ) (room : ℕ) (q : asked t ≡ submit text room) (xs ys : List Item) (r : Result (Unit {0}) SubmitFault) (y : t.answer ≡ Submitted r) (unmoved : (e : SubmitFault) → r ≡ Err e → ys ≡ xs) (s : SubmittedTo k text room xs ys r) where
    pub keeps_submit : KeepsChosen k h xs → KeepsChosen k (h ++ t ∷ []) ys
    keeps_submit p = keeps_by h t xs ys (chooses says h t text room q xs ys r y unmoved s) p

    -- the scanner's state is that of the kept plan
    pub holds_submit : (old new : State) → InForce k ys new → (ys ≡ xs → new ≡ old) → HoldsChosen k h old → HoldsChosen k (h ++ t ∷ []) new
    holds_submit old new f same p = holds_by h t xs ys old new f same (chooses says h t text room q xs ys r y unmoved s) p
