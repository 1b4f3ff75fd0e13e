-- The loop along the values of an attribute, and what becomes of the attribute by their choice.
use Rattle.std.proofs.Common.{◌≡◌, ℕ, ◌+◌, ◌<◌, true, false, List, [], ◌∷◌, ◌++◌, length, get_or, drop, Some, None, Ok, Option, Result, sym, refl, ap, ◌∙◌, append-nil}
use Rattle.std.specs.Result.{is_err}
use Rattle.std.specs.Prelude.{is_some}
use Rattle.text.specs.declared.token.Placed.{Placed}
use Rattle.names.specs.declared.kinds.Value.{Value}
use Rattle.table.specs.declared.exception.Exception.{Exception}
use Rattle.table.specs.declared.place.Place.{Place}
use Rattle.table.specs.declared.record.Head.{Head}
use Rattle.table.specs.declared.record.Record.{Record}
use Rattle.table.specs.Views.{values_in}
use Rattle.scanner.specs.declared.plan.Item.{Item}
use Rattle.scanner.specs.declared.point.Point.{Point}
use Rattle.scanner.specs.Meaning.{Catalogue}
use Rattle.negotiation.specs.declared.inspect.Choice.{Choice}
use Rattle.negotiation.specs.declared.inspect.Choice.TheVariants.{Unset, Taken, Closed}
use Rattle.negotiation.specs.declared.trouble.Trouble.{Trouble}
use Rattle.negotiation.specs.Words.{value_meant}
use Rattle.negotiation.specs.Choices.{picking, closing, chosen_from}
use Rattle.negotiation.specs.Troubles.{choice_troubles, untaken_trouble}
use Rattle.negotiation.specs.Plans.{line_of, fitted}
use Rattle.negotiation.specs.Endings.{decide}
use Rattle.negotiation.specs.Tellings.{Noted, Went}
use Rattle.negotiation.proofs.Rooms.{fit_again}
use Rattle.negotiation.proofs.Steps.{step_at}
use Rattle.negotiation.proofs.Objects.{BreaksOff, fine}

closing_some : (x : Option (Placed Exception)) (a b : Choice) → is_some x ≡ true → closing x a b ≡ a
closing_some (Some y) a b e = refl
closing_some None a b e = absurd (cc)

-- one value more
module _ (k : Catalogue) (p : Point) (last : Choice) (xs : List Record) (i : ℕ) (d : Record) (h : Head) (w : Placed (Option Value)) where
  value_here : i < length xs → get_or xs i d ≡ Record.Value h w → chosen_from k p last (values_in (drop i xs)) ≡ picking (value_meant k p w.value) (closing h.exception (Closed h w.value) (chosen_from k p (Closed h w.value) (values_in (drop (i + 1) xs))))
  value_here l e = step_at (λ rs. chosen_from k p last (values_in rs)) xs i d (Record.Value h w) l e

  pub value_taken : {v : Value} → i < length xs → get_or xs i d ≡ Record.Value h w → value_meant k p w.value ≡ Some v → chosen_from k p last (values_in (drop i xs)) ≡ Taken v
  value_taken l e o = value_here l e ∙ ap (λ y. picking y (closing h.exception (Closed h w.value) (chosen_from k p (Closed h w.value) (values_in (drop (i + 1) xs))))) o

  refused : i < length xs → get_or xs i d ≡ Record.Value h w → value_meant k p w.value ≡ None → chosen_from k p last (values_in (drop i xs)) ≡ closing h.exception (Closed h w.value) (chosen_from k p (Closed h w.value) (values_in (drop (i + 1) xs)))
  refused l e o = value_here l e ∙ ap (λ y. picking y (closing h.exception (Closed h w.value) (chosen_from k p (Closed h w.value) (values_in (drop (i + 1) xs))))) o

  pub value_closes : is_some h.exception ≡ true → i < length xs → get_or xs i d ≡ Record.Value h w → value_meant k p w.value ≡ None → Closed h w.value ≡ chosen_from k p last (values_in (drop i xs))
  value_closes x l e o = sym (refused l e o ∙ closing_some h.exception _ _ x)

-- what becomes of an attribute by the choice
pub taken_went : {c : Choice} (x : Point) (v : Value) (q : Place) (f : Exception) {old mid new : List Item} → c ≡ Taken v → mid ≡ old → new ≡ fitted (mid ++ Item.Line x v ∷ []) → Went (choice_troubles q f c) (line_of x c) old new (Ok tt)
taken_went {c} x v q f {old} {mid} {new} e m n = record {
  decided = ap (λ z. decide (choice_troubles q f z)) e;
  added = λ _. ap fitted n ∙ fit_again _ ∙ ap (λ (l : List Item). fitted (l ++ Item.Line x v ∷ [])) m ∙ ap (λ z. fitted (old ++ line_of x z)) (sym e);
}

pub closed_went : {c : Choice} (x : Point) (h : Head) {v : Option Value} (q : Place) (f : Exception) {old new : List Item} {r : Result (Unit {0}) Trouble} → c ≡ Closed h v → new ≡ old → is_err r ≡ false → Noted (untaken_trouble q f h ∷ []) r → Went (choice_troubles q f c) (line_of x c) old new (Ok tt)
closed_went {c} x h {v} q f {old} {new} {r} e m b n = record {
  decided = ap (λ z. decide (choice_troubles q f z)) e ∙ n.decided ∙ fine r b;
  added = λ _. ap fitted (m ∙ sym (append-nil old)) ∙ ap (λ z. fitted (old ++ line_of x z)) (sym e);
}

pub unset_went : {c : Choice} (x : Point) (q : Place) (f : Exception) {old new : List Item} → c ≡ Unset → new ≡ old → Went (choice_troubles q f c) (line_of x c) old new (Ok tt)
unset_went {c} x q f {old} {new} e m = record {
  decided = ap (λ z. decide (choice_troubles q f z)) e;
  added = λ _. ap fitted (m ∙ sym (append-nil old)) ∙ ap (λ z. fitted (old ++ line_of x z)) (sym e);
}

pub closed_breaks : {c : Choice} (h : Head) {v : Option Value} (q : Place) (f : Exception) {r : Result (Unit {0}) Trouble} → c ≡ Closed h v → is_err r ≡ true → Noted (untaken_trouble q f h ∷ []) r → BreaksOff (choice_troubles q f c) r
closed_breaks {c} h {v} q f {r} e b n = record { failed = b; decided = ap (λ z. decide (choice_troubles q f z)) e ∙ n.decided }
