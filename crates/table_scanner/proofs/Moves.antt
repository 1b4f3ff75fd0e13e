-- What enable, set and reset leave of the lists.
use Rattle.std.specs.Prelude.{◌≡◌, ℕ, ◌<◌, Bool, true, false, cond, ◌&&◌, List, [], ◌∷◌, map, length, Some, vec_items, Vec, slice_index_or, slice_set, refl}
use Rattle.std.proofs.Common.{sym, ap, subst, ◌∙◌, inl, inr}
use Rattle.std.specs.Vec.{with_items}
use Rattle.std.specs.List.{list_any}
use Rattle.std.specs.Option.{unwrap_or}
use Rattle.std.proofs.lemmas.List.{get_or_read, get_or_default, length-map, with_items_is}
use Rattle.std.proofs.lemmas.Bool.{and_parts, cases_Bool, cond-true, cond-false}
use Rattle.names.specs.declared.kinds.Source.{Source}
use Rattle.names.specs.declared.kinds.PixelFormat.{PixelFormat}
use Rattle.names.specs.declared.kinds.Value.{Value}
use Rattle.names.specs.Same.{same_source, same_format}
use Rattle.scanner.specs.declared.point.Point.{Point}
use Rattle.scanner.specs.Meaning.{same_point}
use Rattle.scanner.specs.SamePoint.{SameIsOne}
use Rattle.scanners.specs.Search.{FirstOf, NoneBefore}
use Rattle.table_scanner.specs.declared.entry.Pair.{Pair}
use Rattle.table_scanner.specs.declared.entry.Setting.{Setting}
use Rattle.table_scanner.specs.Lookup.{found}
use Rattle.table_scanner.specs.Entries.{of_source, is_pair, at_point, off}
use Rattle.table_scanner.proofs.Lookups.{found_at, found_set, found_set_off, found_set_at, any_set, value_or}

-- what the search found, read off
pub part_some : {X Y : Type 0} (test : X → Bool) (part : X → Y) (xs : List X) (i : ℕ) (x : X) → FirstOf test xs (Some i) → x ≡ slice_index_or xs i x → Some (part x) ≡ found test part xs
part_some test part xs i x h read = ap (λ z. Some (part z)) read ∙ sym (found_at test part xs i x h.0 h.1 h.2)

-- y is put in the place i, where x was
module _ {X : Type 0} (xs : List X) (i : ℕ) (x y : X) (l : i < length xs) (read : x ≡ slice_index_or xs i x) where
  was : (d : X) → x ≡ slice_index_or xs i d
  was d = get_or_read xs i x l read d

  pub any_put : (test : X → Bool) → test y ≡ test x → list_any test (slice_set xs i y) ≡ list_any test xs
  any_put test t = any_set test (λ z. z) xs i y (λ d. t ∙ ap test (was d))

  pub found_kept : {Y : Type 0} (test : X → Bool) (part : X → Y) → test y ≡ test x → part y ≡ part x → found test part (slice_set xs i y) ≡ found test part xs
  found_kept test part t p = found_set test part xs i y (λ d. t ∙ ap test (was d)) (λ d. p ∙ ap part (was d))

  pub found_put : {Y : Type 0} (test : X → Bool) (part : X → Y) → test y ≡ test x → (test y ≡ true → NoneBefore test xs i) → found test part (slice_set xs i y) ≡ cond (test y) (Some (part y)) (found test part xs)
  found_put test part t none =
      elim (cases_Bool (test y)) [
        | inl meets ↦ found_set_at test part xs i y l meets (none meets) ∙ sym (cond-true _ _ _ meets)
        | inr fails ↦ found_set_off test part xs i y fails (λ d. sym (ap test (was d)) ∙ sym t ∙ fails) ∙ sym (cond-false _ _ _ fails)
      ]

-- the source and the format of the pair that the search found
pair_at : (one : SameIsOne) (xs ys : List Pair) (i : ℕ) (s : Source) (f : PixelFormat) (x : Pair) → ys ≡ xs → FirstOf (is_pair s f) ys (Some i) → x ≡ slice_index_or xs i x → (x.source ≡ s) × (x.format ≡ f)
pair_at one xs ys i s f x e h read =
    let meets : is_pair s f x ≡ true = ap (is_pair s f) read ∙ (subst (λ zs. FirstOf (is_pair s f) zs (Some i)) e h).1 x in
    let both = and_parts _ _ meets in
    (one.sources x.source s both.0, one.formats x.format f both.1)

-- the pair that the search found is switched on or off
module _ (one : SameIsOne) (xs ys : List Pair) (i : ℕ) (s : Source) (f : PixelFormat) (was_there : Pair) (b : Bool) (e : ys ≡ xs) (h : FirstOf (is_pair s f) ys (Some i)) (was_read : was_there ≡ slice_index_or xs i was_there) where
  abbrev y : Pair
  y = record { source = was_there.source; format = was_there.format; enabled = b }

  source_is : y.source ≡ s
  source_is = (pair_at one xs ys i s f was_there e h was_read).0

  format_is : y.format ≡ f
  format_is = (pair_at one xs ys i s f was_there e h was_read).1

  here : FirstOf (is_pair s f) xs (Some i)
  here = subst (λ zs. FirstOf (is_pair s f) zs (Some i)) e h

  abbrev x : Pair
  x = slice_index_or xs i y

  read : x ≡ slice_index_or xs i x
  read = get_or_default xs i y x here.0

  at : (x.source ≡ s) × (x.format ≡ f)
  at = pair_at one xs ys i s f x e h read

  same_pair : (a : Source) (g : PixelFormat) → is_pair a g y ≡ is_pair a g x
  same_pair a g = λ j. same_source ((source_is ∙ sym at.0) j) a && same_format ((format_is ∙ sym at.1) j) g

  -- whether it is enabled plays no part in which sources there are
  pub sources_kept : (a : Source) → list_any (of_source a) (slice_set xs i y) ≡ list_any (of_source a) xs
  sources_kept a = any_put xs i x y here.0 read (of_source a) (ap (λ z. same_source z a) (source_is ∙ sym at.0))

  pub on_formats : (a : Source) (g : PixelFormat) → list_any (is_pair a g) (slice_set xs i y) ≡ list_any (is_pair a g) xs
  on_formats a g = any_put xs i x y here.0 read (is_pair a g) (same_pair a g)

  pub on_homes : (a : Source) → found (of_source a) (λ z. z.format) (slice_set xs i y) ≡ found (of_source a) (λ z. z.format) xs
  on_homes a = found_kept xs i x y here.0 read (of_source a) (λ z. z.format) (ap (λ z. same_source z a) (source_is ∙ sym at.0)) (format_is ∙ sym at.1)

  none_before : (a : Source) (g : PixelFormat) → is_pair a g y ≡ true → NoneBefore (is_pair a g) xs i
  none_before a g meets =
      let both = and_parts _ _ meets in
      let q : s ≡ a = sym source_is ∙ one.sources y.source a both.0 in
      let r : f ≡ g = sym format_is ∙ one.formats y.format g both.1 in
      subst (λ z. NoneBefore (is_pair z g) xs i) q (subst (λ z. NoneBefore (is_pair s z) xs i) r here.2)

  pub on_switches : (a : Source) (g : PixelFormat) → unwrap_or (found (is_pair a g) (λ z. z.enabled) (slice_set xs i y)) false ≡ cond (same_source s a && same_format f g) y.enabled (unwrap_or (found (is_pair a g) (λ z. z.enabled) xs) false)
  on_switches a g =
      ap (λ o. unwrap_or o false) (found_put xs i x y here.0 read (is_pair a g) (λ z. z.enabled) (same_pair a g) (none_before a g))
      ∙ value_or (is_pair a g y) y.enabled false (found (is_pair a g) (λ z. z.enabled) xs)
      ∙ (λ j. cond (same_source (source_is j) a && same_format (format_is j) g) y.enabled (unwrap_or (found (is_pair a g) (λ z. z.enabled) xs) false))

-- the setting at the place i takes a value
module _ (one : SameIsOne) (xs ys : List Setting) (i : ℕ) (p : Point) (v : Value) (x : Setting) (e : ys ≡ xs) (h : FirstOf (at_point p) ys (Some i)) (read : x ≡ slice_index_or xs i x) where
  abbrev taken : Setting
  taken = record { point = x.point; initial = x.initial; current = v }

  stands : FirstOf (at_point p) xs (Some i)
  stands = subst (λ zs. FirstOf (at_point p) zs (Some i)) e h

  at_place : x.point ≡ p
  at_place = one.points x.point p (ap (at_point p) read ∙ stands.1 x)

  pub taken_points : (q : Point) → list_any (at_point q) (slice_set xs i taken) ≡ list_any (at_point q) xs
  taken_points q = any_put xs i x taken stands.0 read (at_point q) refl

  pub taken_initial : (q : Point) → found (at_point q) (λ z. z.initial) (slice_set xs i taken) ≡ found (at_point q) (λ z. z.initial) xs
  taken_initial q = found_kept xs i x taken stands.0 read (at_point q) (λ z. z.initial) refl refl

  pub taken_current : (q : Point) → found (at_point q) (λ z. z.current) (slice_set xs i taken) ≡ cond (same_point p q) (Some v) (found (at_point q) (λ z. z.current) xs)
  taken_current q =
      found_put xs i x taken stands.0 read (at_point q) (λ z. z.current) refl (λ y. subst (λ z. NoneBefore (at_point z) xs i) (sym at_place ∙ one.points x.point q y) stands.2)
      ∙ (λ j. cond (same_point (at_place j) q) (Some v) (found (at_point q) (λ z. z.current) xs))

-- all pairs are switched off
pub off_switches : (s : Source) (f : PixelFormat) (xs : List Pair) → unwrap_or (found (is_pair s f) (λ x. x.enabled) (map off xs)) false ≡ false
off_switches s f [] = refl
off_switches s f (x ∷ xs) = elim (is_pair s f x) as (λ b. unwrap_or (cond b (Some false) (found (is_pair s f) (λ x. x.enabled) (map off xs))) false ≡ false) [ true ↦ refl | false ↦ off_switches s f xs ]

-- a Vec whose entries were mapped in place
pub refilled_map : {X Z : Type 0} (g : X → X) (v : Vec X Z) (ws : List X) → ws ≡ map g (vec_items v) → vec_items (with_items v ws) ≡ map g (vec_items v)
refilled_map g v ws e = with_items_is v ws (ap length e ∙ length-map (vec_items v) g ∙ sym v.ok.0) ∙ e
