-- A fold in any state is one over the visits that the events make: what keeps them all loses nothing.
use Rattle.std.proofs.Common.{◌≡◌, ℕ, suc, Bool, true, false, List, [], ◌∷◌, sym, refl, ap, ◌∙◌}
use Rattle.text.specs.Machine.{Tape, good, fault, event, tape, end_object, end_array}
use Rattle.text.specs.Canonical.{Plain, Fields, Items, word, integer, object_of, array_of, no_field, a_field, no_item, an_item, written, past_fields, past_items}
use Rattle.text.specs.ReadsBack.{Folding, fold_tape, fold_value, fold_fields, fold_items, FoldsBack, Visit}

keep : Folding (List Visit)
keep a vs x i = record { from = a; kind = x; offset = i } ∷ vs

module _ {S : Type 0} (on : Folding S) (s : S) where
  -- the state after these visits, the latest first
  unfoldable after_all : List Visit → S
  after_all [] = s
  after_all (v ∷ vs) = on v.from (after_all vs) v.kind v.offset

  tape_kept : (t : List ℕ) (vs : List Visit) (u : Tape) → fold_tape on t (after_all vs) u ≡ after_all (fold_tape keep t vs u)
  unfolding fold_tape after_all keep
  tape_kept t vs good = refl
  tape_kept t vs (fault e) = refl
  tape_kept t vs (event x i u) = tape_kept t (keep _ vs x i) u

  mutual
    unfolding fold_value fold_fields fold_items after_all keep

    value_kept : (v : Plain) (r : List ℕ) (i : ℕ) (vs : List Visit) → fold_value on v r i (after_all vs) ≡ after_all (fold_value keep v r i vs)
    value_kept (word cs) r i vs = refl
    value_kept (integer z) r i vs = refl
    value_kept (object_of fs) r i vs = ap (λ z. on (125 ∷ r) z end_object (past_fields true fs (suc i))) (fields_kept true fs r (suc i) _)
    value_kept (array_of xs) r i vs = ap (λ z. on (93 ∷ r) z end_array (past_items true xs (suc i))) (items_kept true xs r (suc i) _)

    fields_kept : (f : Bool) (fs : Fields) (r : List ℕ) (i : ℕ) (vs : List Visit) → fold_fields on f fs r i (after_all vs) ≡ after_all (fold_fields keep f fs r i vs)
    fields_kept true no_field r i vs = refl
    fields_kept false no_field r i vs = refl
    fields_kept true (a_field n v fs) r i vs = ap (fold_fields on false fs r _) (value_kept v _ _ _) ∙ fields_kept false fs r _ _
    fields_kept false (a_field n v fs) r i vs = ap (fold_fields on false fs r _) (value_kept v _ _ _) ∙ fields_kept false fs r _ _

    items_kept : (f : Bool) (xs : Items) (r : List ℕ) (i : ℕ) (vs : List Visit) → fold_items on f xs r i (after_all vs) ≡ after_all (fold_items keep f xs r i vs)
    items_kept true no_item r i vs = refl
    items_kept false no_item r i vs = refl
    items_kept true (an_item x xs) r i vs = ap (fold_items on false xs r _) (value_kept x _ _ _) ∙ items_kept false xs r _ _
    items_kept false (an_item x xs) r i vs = ap (fold_items on false xs r _) (value_kept x _ _ _) ∙ items_kept false xs r _ _

-- so the law for the visits is one for any state
pub folded : FoldsBack (List Visit) → (S : Type 0) → FoldsBack S
unfolding after_all
folded visits S on s v w = tape_kept on s (written v) [] (tape (written v)) ∙ ap (after_all on s) (visits keep [] v w) ∙ sym (value_kept on s v [] 0 [])
