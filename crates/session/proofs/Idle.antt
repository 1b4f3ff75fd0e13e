-- A task without a configure action comes to no plan.
use Rattle.std.proofs.Common.{◌≡◌, ℕ, List, [], ◌∷◌, ◌++◌, Ok, Err, sym, ap, ◌∙◌, subst, inl, inr}
use Rattle.std.proofs.lemmas.List.{append-nil}
use Rattle.std.specs.List.{AllByRecursion}
use Rattle.table.specs.declared.place.Place.{Place}
use Rattle.table.specs.ComesTo.{ComesTo}
use Rattle.table.specs.Laws.{ComeToOne}
use Rattle.table.specs.Places.{outside}
use Rattle.table.specs.Task.{ActionObject}
use Rattle.scanner.specs.declared.plan.Item.{Item}
use Rattle.scanner.specs.Meaning.{Catalogue}
use Rattle.negotiation.specs.declared.settle.ByStream.{ByStream}
use Rattle.negotiation.specs.Met.{IsConfigure, IsOther, NoConfigure, SaysWhatIs}
use Rattle.negotiation.specs.Tellings.{in_room}
use Rattle.negotiation.specs.Verdicts.{Outcome, unchanged, planned, rejected, OneVerdict}
use Rattle.session.specs.declared.fault.SubmitFault.{SubmitFault}
use Rattle.session.specs.Submissions.{Submission, IsTask, Adds, AllAccepted}
use Rattle.session.proofs.Tasks.{all_at, one_task}

other_configures : (a : ActionObject) → IsOther a → IsConfigure a → ⊥
other_configures a o c = let e : ◌≡◌ _ _ = sym c ∙ o in absurd (cc)

no_plan : (k : Catalogue) → SaysWhatIs k → (acts : List ActionObject) → NoConfigure acts → (o : Outcome) → OneVerdict k outside acts o → (b : ByStream) (new : List Item) → planned b new ≡ in_room o → ⊥
no_plan k says acts n unchanged d b new e = absurd (cc)
no_plan k says acts n (rejected r) d b new e = absurd (cc)
no_plan k says acts n (planned c xs) d b new e =
    let l = ((says.outcome acts (planned c xs)).0 d).last in
    let a = ((says.outcome acts (planned c xs)).0 d).action in
    other_configures a (all_at IsOther l.before a l.after (subst (AllByRecursion IsOther) l.split n)) l.configure

-- so the task that was found in a text is not told as configured where the text's task is without such an action
pub not_configured : ComeToOne → (k : Catalogue) → SaysWhatIs k → (t : List ℕ) (room rows : ℕ) (p : Place) (acts found : List ActionObject) (o : Outcome) (b : ByStream) (new : List Item) → rows ≡ room → p ≡ outside → ComesTo t room (Ok acts) → ComesTo t rows (Ok found) → NoConfigure acts → OneVerdict k p found o → planned b new ≡ in_room o → ⊥
not_configured come k says t room rows p acts found o b new r q asked read n d e =
    let same = one_task come t room acts found asked (subst (λ m. ComesTo t m (Ok found)) r read) in
    no_plan k says found (subst NoConfigure same n) o (subst (λ x. OneVerdict k x found o) q d) b new e

-- what a turn without a configure action adds comes of a refused text, or of a task without such an action
pub added_idle : (s : Submission) (acts : List ActionObject) (P : Type 0) → AllAccepted (s ∷ []) acts → NoConfigure acts → ((own : List ActionObject) → IsTask s own → NoConfigure own → P) → ((e : SubmitFault) → s.answer ≡ Err e → P) → P
added_idle s acts P h n task refused = by h.2
  where
    none : h.1 ≡ []
    none = h.3

    same : acts ≡ h.0
    same = h.4 ∙ (ap (λ z. h.0 ++ z) none ∙ append-nil h.0)

    by : Adds s h.0 → P
    by (inl a) = task h.0 a.1 (subst NoConfigure same n)
    by (inr a) = refused a.0 a.1
