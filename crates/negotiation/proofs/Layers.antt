-- Loops inside loops, each along the parts of one level, left at the deciding trouble.
use Rattle.std.proofs.Common.{◌≡◌, ℕ, ◌+◌, ◌<◌, ◌≤◌, List, ◌∷◌, ◌++◌, length, get_or, drop, Ok, Option, Result, sym, refl, ap, ◌∙◌, append-nil}
use Rattle.std.proofs.lemmas.List.{at_drop_all}
use Rattle.text.specs.declared.token.Placed.{Placed}
use Rattle.names.specs.declared.kinds.Source.{Source}
use Rattle.names.specs.declared.kinds.PixelFormat.{PixelFormat}
use Rattle.names.specs.declared.kinds.Attribute.{Attribute}
use Rattle.names.specs.declared.kinds.Value.{Value}
use Rattle.table.specs.declared.exception.Exception.{Exception}
use Rattle.table.specs.declared.level.Level.{Level}
use Rattle.table.specs.declared.place.Place.{Place}
use Rattle.table.specs.declared.record.Head.{Head}
use Rattle.table.specs.declared.record.Record.{Record}
use Rattle.table.specs.declared.record.Wanted.{Wanted}
use Rattle.table.specs.Places.{entered}
use Rattle.table.specs.Views.{values_in, attributes_in, formats_in, sources_in}
use Rattle.scanner.specs.declared.plan.Item.{Item}
use Rattle.scanner.specs.Meaning.{Catalogue}
use Rattle.negotiation.proofs.LevelParts.{Role, Part, Outside}
use Rattle.negotiation.specs.declared.trouble.Trouble.{Trouble}
use Rattle.negotiation.specs.Exceptions.{in_force}
use Rattle.negotiation.specs.Words.{point_meant, format_meant, source_meant}
use Rattle.negotiation.specs.Choices.{chosen}
use Rattle.negotiation.specs.Troubles.{object_troubles, choice_troubles, trouble_at, attributes_troubles, formats_troubles, sources_troubles}
use Rattle.negotiation.proofs.LevelParts.{troubles_here, part_troubles, Listed, source_role, format_role, attribute_role, sources_listed, formats_listed, attributes_listed, sources_troubles_append, sources_items_append, formats_troubles_append, formats_items_append, attributes_troubles_append, attributes_items_append}
use Rattle.negotiation.specs.Plans.{within, line_of, fitted, or_else, home_pair, attributes_items, formats_items, sources_items}
use Rattle.negotiation.specs.Endings.{decide}
use Rattle.negotiation.specs.Tellings.{Went}
use Rattle.negotiation.proofs.Goings.{went_like, went_part}
use Rattle.negotiation.proofs.Onwards.{Along, listed_at, along_past, along_stop}
use Rattle.negotiation.proofs.Objects.{BreaksOff, more_decided}

-- the parts of a level: their troubles and items, by what is inside each
pub record Layer {W N : Type 0} (role : Record → Role W) (l : Level) (e : Exception) (meant : W → Option N) (ts : List Record → N → Place → Exception → List Trouble) (xs : List Record → N → List Item) (T : Place → List Record → List Trouble) (X : List Record → List Item) : Type 0 where
  pub troubles : (p : Place) → Listed role (λ h w rs. part_troubles l p e h (meant w) (ts rs)) (T p)
  pub items : Listed role (λ h w rs. within (meant w) (xs rs)) X

-- what a loop knows of the part that it is at
pub record At {W N : Type 0} (role : Record → Role W) (l : Level) (e : Exception) (meant : W → Option N) (start : List Record) (i : ℕ) (d : Record) (at : Place) (h : Head) (w : W) (vs : List Record) (q : Place) (f : Exception) (o : Option N) : Type 0 where
  pub here : i < length start
  pub is : role (get_or start i d) ≡ Part h w
  pub rest : vs ≡ drop (i + 1) start
  pub path : q ≡ entered at l h.index
  pub force : f ≡ in_force h.exception e
  pub word : o ≡ meant w

module _ {W N : Type 0} {role : Record → Role W} {l : Level} {e : Exception} {meant : W → Option N} {ts : List Record → N → Place → Exception → List Trouble} {xs : List Record → N → List Item} {T : Place → List Record → List Trouble} {X : List Record → List Item} (y : Layer role l e meant ts xs T X) {start : List Record} {i : ℕ} {home at : Place} {old new : List Item} where
  pub loop_left : (d : Record) → Along (T home) X start i home at old new → i < length start → role (get_or start i d) ≡ Outside → Went (T home start) (X start) old new (Ok tt)
  loop_left d a h r = along_stop y.troubles y.items d a h (sym r)

  pub loop_ended : Along (T home) X start i home at old new → length start ≤ i → Went (T home start) (X start) old new (Ok tt)
  loop_ended a h = record {
    decided = sym a.passed ∙ ap decide (at_drop_all (T home) start i h ∙ (y.troubles home).none);
    added = λ _. ap fitted (sym (append-nil new)) ∙ ap (λ (l : List Item). fitted (new ++ l)) (sym (at_drop_all X start i h ∙ y.items.none)) ∙ a.added;
  }

  pub loop_on : {d : Record} {h : Head} {w : W} {vs : List Record} {q : Place} {at' : Place} {f : Exception} {o : Option N} {newer : List Item} → Along (T home) X start i home at old new → At role l e meant start i d at h w vs q f o → at' ≡ at → Went (object_troubles h.unknown (trouble_at q h f) o (λ x. ts vs x q f)) (within o (xs vs)) new newer (Ok tt) → Along (T home) X start (i + 1) home at' old newer
  loop_on {d} {h} {w} {vs} {q} {at'} {f} {o} {newer} a t p g =
      along_past y.troubles y.items d a t.here (sym t.is) t.rest p
      (went_like _ _ _ _ _ _ _ (λ j. part_troubles l at e h (t.word j) (ts vs)) (λ j. within (t.word j) (xs vs)) (went_part at e h o (ts vs) refl t.path t.force g))

  pub part_breaks : {d : Record} {h : Head} {w : W} {vs : List Record} {q : Place} {f : Exception} {o : Option N} {r : Result (Unit {0}) Trouble} → Along (T home) X start i home at old new → At role l e meant start i d at h w vs q f o → BreaksOff (object_troubles h.unknown (trouble_at q h f) o (λ x. ts vs x q f)) r → BreaksOff (T home start) r
  part_breaks {d} {h} {w} {vs} {q} {f} {o} {r} a t g =
      let rest = drop (i + 1) start in
      let same : object_troubles h.unknown (trouble_at q h f) o (λ x. ts vs x q f) ≡ part_troubles l home e h (meant w) (ts rest) =
      ap (λ z. troubles_here z f h o (ts vs)) t.path ∙ (λ j. troubles_here (entered (a.place j) l h.index) (t.force j) h (t.word j) (ts (t.rest j))) in
      record {
        failed = g.failed;
        decided = sym a.passed ∙ ap decide (listed_at (y.troubles home) start i d (Part h w) t.here (sym t.is)) ∙ more_decided (part_troubles l home e h (meant w) (ts rest)) (T home rest) r g.failed (ap decide (sym same) ∙ g.decided);
      }

pub part_at : {W N : Type 0} {role : Record → Role W} {l : Level} {e : Exception} {meant : W → Option N} {start : List Record} {i : ℕ} {d : Record} {at : Place} {h : Head} {w : W} {vs : List Record} {q : Place} {f : Exception} {o : Option N} → i < length start → role (get_or start i d) ≡ Part h w → vs ≡ drop (i + 1) start → q ≡ entered at l h.index → f ≡ in_force h.exception e → o ≡ meant w → At role l e meant start i d at h w vs q f o
part_at a b c x y z = record { here = a; is = b; rest = c; path = x; force = y; word = z }

module _ (k : Catalogue) where
  pub attributes_layer : (s : Source) (f : PixelFormat) (e : Exception) → Layer attribute_role Level.Attribute e (λ w. point_meant k s f w.value) (λ rs x p e. choice_troubles p e (chosen k x (values_in rs))) (λ rs x. line_of x (chosen k x (values_in rs))) (λ p rs. attributes_troubles k s f p e (attributes_in rs)) (λ rs. attributes_items k s f (attributes_in rs))
  attributes_layer s f e = record { troubles = λ p. attributes_listed (attributes_troubles_append k s f p e); items = attributes_listed (attributes_items_append k s f) }

  pub formats_layer : (s : Source) (e : Exception) → Layer format_role Level.PixelFormat e (format_meant k s) (λ rs x p e. attributes_troubles k s x p e (attributes_in rs)) (λ rs x. Item.Pair s x ∷ attributes_items k s x (attributes_in rs)) (λ p rs. formats_troubles k s p e (formats_in rs)) (λ rs. formats_items k s (formats_in rs))
  formats_layer s e = record { troubles = λ p. formats_listed (formats_troubles_append k s p e); items = formats_listed (formats_items_append k s) }

  pub sources_layer : (e : Exception) → Layer source_role Level.Source e (source_meant k) (λ rs x p e. formats_troubles k x p e (formats_in rs)) (λ rs x. Item.Source x ∷ or_else (home_pair k x) (formats_items k x (formats_in rs))) (λ p rs. sources_troubles k p e (sources_in rs)) (λ rs. sources_items k (sources_in rs))
  sources_layer e = record { troubles = λ p. sources_listed (sources_troubles_append k p e); items = sources_listed (sources_items_append k) }

-- records that are not named in a match
pub attribute_outside : (r : Record) → ((h : Head) (w : Placed (Option Attribute)) → r ≡ Record.Attribute h w → ⊥) → ((h : Head) (w : Placed (Option Value)) → r ≡ Record.Value h w → ⊥) → attribute_role r ≡ Outside
attribute_outside Record.Vacant a v = refl
attribute_outside (Record.Action h w n) a v = refl
attribute_outside (Record.Stream h) a v = refl
attribute_outside (Record.Source h w) a v = refl
attribute_outside (Record.PixelFormat h w) a v = refl
attribute_outside (Record.Attribute h w) a v = absurd (a h w refl)
attribute_outside (Record.Value h w) a v = absurd (v h w refl)

pub format_outside : (r : Record) → ((h : Head) (w : Option (Placed (Wanted PixelFormat))) → r ≡ Record.PixelFormat h w → ⊥) → ((h : Head) (w : Placed (Option Attribute)) → r ≡ Record.Attribute h w → ⊥) → ((h : Head) (w : Placed (Option Value)) → r ≡ Record.Value h w → ⊥) → format_role r ≡ Outside
format_outside Record.Vacant f a v = refl
format_outside (Record.Action h w n) f a v = refl
format_outside (Record.Stream h) f a v = refl
format_outside (Record.Source h w) f a v = refl
format_outside (Record.PixelFormat h w) f a v = absurd (f h w refl)
format_outside (Record.Attribute h w) f a v = absurd (a h w refl)
format_outside (Record.Value h w) f a v = absurd (v h w refl)
