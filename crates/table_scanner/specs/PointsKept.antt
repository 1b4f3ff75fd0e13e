-- A table keeps to its points.
use Rattle.std.specs.Prelude.{◌≡◌, Bool, true, false, cond, ◌&&◌, ◌||◌, List, [], ◌∷◌, is_some, Some, None, Option, refl}
use Rattle.std.specs.List.{list_any}
use Rattle.std.specs.Option.{unwrap_or}
use Rattle.std.proofs.Common.{sym, ap, ◌∙◌, inl, inr}
use Rattle.std.proofs.lemmas.Bool.{and_parts, or_cases, or_left, or_right, cases_Bool, cond-false}
use Rattle.names.specs.declared.kinds.Source.{Source}
use Rattle.names.specs.declared.kinds.PixelFormat.{PixelFormat}
use Rattle.names.specs.declared.kinds.Value.{Value}
use Rattle.scanner.specs.declared.point.Point.{Point}
use Rattle.scanner.specs.Meaning.{KeepsToPoints}
use Rattle.table_scanner.specs.declared.entry.Pair.{Pair}
use Rattle.table_scanner.specs.declared.entry.Setting.{Setting}
use Rattle.table_scanner.specs.declared.entry.Offer.{Offer}
use Rattle.table_scanner.specs.Lookup.{found}
use Rattle.table_scanner.specs.Entries.{of_source, is_pair, at_point, pair_there, looked_up, listed_catalogue, listed_state}

-- something is found exactly where some entry meets the test
pub found_any : {X Y : Type 0} (test : X → Bool) (part : X → Y) (xs : List X) → is_some (found test part xs) ≡ list_any test xs
found_any test part [] = refl
found_any test part (x ∷ xs) = elim (test x) as (λ b. is_some (cond b (Some (part x)) (found test part xs)) ≡ (b || list_any test xs)) [ true ↦ refl | false ↦ found_any test part xs ]

behind : {Y : Type 0} (b there : Bool) (o : Option Y) → is_some o ≡ there → is_some (cond b o None) ≡ (b && there)
behind true there o h = h
behind false there o h = refl

-- something is looked up exactly where the pair and the setting are there
pub looked_any : {Y : Type 0} (part : Setting → Y) (pairs : List Pair) (settings : List Setting) (p : Point) → is_some (looked_up part pairs settings p) ≡ (pair_there pairs p && list_any (at_point p) settings)
looked_any part pairs settings p = behind (pair_there pairs p) _ _ (found_any (at_point p) part settings)

-- where a value is offered, its pair and its point are there
pub pair_of_value : (pairs : List Pair) (settings : List Setting) (offers : List Offer) (home : Source) (p : Point) (v : Value) → (listed_catalogue pairs settings offers home).offers_value p v ≡ true → pair_there pairs p ≡ true
pair_of_value pairs settings offers home p v h = (and_parts (pair_there pairs p) _ (sym (looked_any (λ x. x.initial) pairs settings p) ∙ (and_parts _ _ h).0)).0

pub point_there : (pairs : List Pair) (settings : List Setting) (offers : List Offer) (home : Source) (p : Point) (v : Value) → (listed_catalogue pairs settings offers home).offers_value p v ≡ true → list_any (at_point p) settings ≡ true
point_there pairs settings offers home p v h = (and_parts (pair_there pairs p) _ (sym (looked_any (λ x. x.initial) pairs settings p) ∙ (and_parts _ _ h).0)).1

-- a pair is one of its source
source_there : (s : Source) (f : PixelFormat) (xs : List Pair) → list_any (is_pair s f) xs ≡ true → list_any (of_source s) xs ≡ true
source_there s f [] h = h
source_there s f (x ∷ xs) h =
    elim (or_cases (is_pair s f x) _ h) [ inl y ↦ or_left _ _ (and_parts (of_source s x) _ y).0 | inr r ↦ or_right _ _ (source_there s f xs r) ]

-- a pair that is enabled is there
enabled_there : (s : Source) (f : PixelFormat) (xs : List Pair) → unwrap_or (found (is_pair s f) (λ x. x.enabled) xs) false ≡ true → list_any (is_pair s f) xs ≡ true
enabled_there s f [] h = h
enabled_there s f (x ∷ xs) h =
    elim (cases_Bool (is_pair s f x)) [
      | inl y ↦ or_left _ _ y
      | inr n ↦ or_right _ _ (enabled_there s f xs (ap (λ o. unwrap_or o false) (sym (cond-false (is_pair s f x) (Some x.enabled) _ n)) ∙ h))
    ]

pub keeps_to_points : (pairs : List Pair) (settings : List Setting) (offers : List Offer) (home : Source) → KeepsToPoints (listed_catalogue pairs settings offers home) (listed_state pairs settings)
keeps_to_points pairs settings offers home =
    record {
      formats = λ s f h. source_there s f pairs h;
      attributes = λ p h. (and_parts (pair_there pairs p) _ (sym (looked_any (λ x. x.initial) pairs settings p) ∙ h)).0;
      values = λ p v h. (and_parts _ _ h).0;
      enabled = λ s f h. enabled_there s f pairs h;
      current = λ p. looked_any (λ x. x.current) pairs settings p ∙ sym (looked_any (λ x. x.initial) pairs settings p);
    }
