-- What is found in a list, and in the list after an entry was added, replaced or mapped.
use Rattle.std.specs.Prelude.{◌≡◌, ℕ, zero, suc, ◌<◌, Bool, true, false, cond, ◌||◌, List, [], ◌∷◌, ◌++◌, map, length, is_some, Some, None, Option, slice_index_or, slice_set, refl}
use Rattle.std.proofs.Common.{sym, ap, ◌∙◌, inl, inr, arith}
use Rattle.std.specs.List.{list_any}
use Rattle.std.specs.Option.{unwrap_or, option_map}
use Rattle.std.proofs.lemmas.List.Folds.{list_any-append}
use Rattle.std.proofs.Math.Bool.{or-false}
use Rattle.std.proofs.lemmas.Bool.{cond-true, cond-false, cases_Bool, or_parts, both_ways}
use Rattle.scanners.specs.Search.{NoneBefore}
use Rattle.table_scanner.specs.Lookup.{found}
use Rattle.table_scanner.specs.PointsKept.{found_any}

pub value_or : {X : Type 0} (b : Bool) (x d : X) (o : Option X) → unwrap_or (cond b (Some x) o) d ≡ cond b x (unwrap_or o d)
value_or true x d o = refl
value_or false x d o = refl

-- one entry more at the end
pub any_push : {X : Type 0} (test : X → Bool) (xs : List X) (y : X) → list_any test (xs ++ y ∷ []) ≡ (list_any test xs || test y)
any_push test xs y = list_any-append test xs (y ∷ []) ∙ ap (λ b. list_any test xs || b) (or-false (test y))

-- a value that is put at a point whose pair is there
pub looked_put : {X : Type 0} (pair here : Bool) (x : X) (o : Option X) → (here ≡ true → pair ≡ true) → cond pair (cond here (Some x) o) None ≡ cond here (Some x) (cond pair o None)
looked_put true true x o h = refl
looked_put true false x o h = refl
looked_put false true x o h = absurd (both_ways false refl (h refl))
looked_put false false x o h = refl

module _ {X Y : Type 0} (test : X → Bool) (part : X → Y) where
  pub found_none : (xs : List X) → NoneBefore test xs (length xs) → found test part xs ≡ None
  found_none [] none = refl
  found_none (x ∷ xs) none = cond-false _ _ _ (none 0 x (omega arith)) ∙ found_none xs (λ k d l. none (suc k) d (omega arith))

  pub found_at : (xs : List X) (i : ℕ) (d : X) → i < length xs → ((e : X) → test (slice_index_or xs i e) ≡ true) → NoneBefore test xs i → found test part xs ≡ Some (part (slice_index_or xs i d))
  found_at [] i d l here none = absurd (omega arith)
  found_at (x ∷ xs) zero d l here none = cond-true _ _ _ (here x)
  found_at (x ∷ xs) (suc i) d l here none =
      cond-false _ _ _ (none 0 x (omega arith)) ∙ found_at xs i d (omega arith) here (λ k e b. none (suc k) e (omega arith))

  -- a part of the first entry that meets the test
  found_part : (xs : List X) → found test part xs ≡ option_map part (found test (λ x. x) xs)
  found_part [] = refl
  found_part (x ∷ xs) = elim (test x) as (λ b. cond b (Some (part x)) (found test part xs) ≡ option_map part (cond b (Some x) (found test (λ x. x) xs))) [ true ↦ refl | false ↦ found_part xs ]

  pub part_found : (xs ys : List X) (o : Option X) → ys ≡ xs → o ≡ found test (λ x. x) ys → option_map part o ≡ found test part xs
  part_found xs ys o e h = ap (option_map part) (h ∙ ap (found test (λ x. x)) e) ∙ sym (found_part xs)

  -- one entry more
  pub found_push : (xs : List X) (y : X) → found test part (xs ++ y ∷ []) ≡ cond (list_any test xs) (found test part xs) (cond (test y) (Some (part y)) None)
  found_push [] y = refl
  found_push (x ∷ xs) y =
      elim (test x) as (λ b. cond b (Some (part x)) (found test part (xs ++ y ∷ [])) ≡ cond (b || list_any test xs) (cond b (Some (part x)) (found test part xs)) (cond (test y) (Some (part y)) None)) [
        | true ↦ refl
        | false ↦ found_push xs y
      ]

  -- an entry in the place of another that says the same
  pub found_set : (xs : List X) (i : ℕ) (y : X) → ((d : X) → test y ≡ test (slice_index_or xs i d)) → ((d : X) → part y ≡ part (slice_index_or xs i d)) → found test part (slice_set xs i y) ≡ found test part xs
  found_set [] i y t p = refl
  found_set (x ∷ xs) zero y t p = λ j. cond (t x j) (Some (p x j)) (found test part xs)
  found_set (x ∷ xs) (suc i) y t p = ap (cond (test x) (Some (part x))) (found_set xs i y t p)

  -- an entry in the place of another, where neither meets the test
  pub found_set_off : (xs : List X) (i : ℕ) (y : X) → test y ≡ false → ((d : X) → test (slice_index_or xs i d) ≡ false) → found test part (slice_set xs i y) ≡ found test part xs
  found_set_off [] i y fails was = refl
  found_set_off (x ∷ xs) zero y fails was = cond-false _ _ _ fails ∙ sym (cond-false _ _ _ (was x))
  found_set_off (x ∷ xs) (suc i) y fails was = ap (cond (test x) (Some (part x))) (found_set_off xs i y fails was)

  -- an entry in the place of the first that meets the test
  pub found_set_at : (xs : List X) (i : ℕ) (y : X) → i < length xs → test y ≡ true → NoneBefore test xs i → found test part (slice_set xs i y) ≡ Some (part y)
  found_set_at [] i y l meets none = absurd (omega arith)
  found_set_at (x ∷ xs) zero y l meets none = cond-true _ _ _ meets
  found_set_at (x ∷ xs) (suc i) y l meets none =
      cond-false _ _ _ (none 0 x (omega arith)) ∙ found_set_at xs i y (omega arith) meets (λ k d b. none (suc k) d (omega arith))

  pub any_set : (xs : List X) (i : ℕ) (y : X) → ((d : X) → test y ≡ test (slice_index_or xs i d)) → list_any test (slice_set xs i y) ≡ list_any test xs
  any_set [] i y t = refl
  any_set (x ∷ xs) zero y t = ap (λ b. b || list_any test xs) (t x)
  any_set (x ∷ xs) (suc i) y t = ap (λ b. test x || b) (any_set xs i y t)

  -- entries that are changed in what the test does not look at
  pub found_map : (g : X → X) → ((x : X) → test (g x) ≡ test x) → (xs : List X) → found test part (map g xs) ≡ found test (λ x. part (g x)) xs
  found_map g same [] = refl
  found_map g same (x ∷ xs) = λ j. cond (same x j) (Some (part (g x))) (found_map g same xs j)

  pub any_map : (g : X → X) → ((x : X) → test (g x) ≡ test x) → (xs : List X) → list_any test (map g xs) ≡ list_any test xs
  any_map g same [] = refl
  any_map g same (x ∷ xs) = λ j. same x j || any_map g same xs j

  pub found_off : (xs : List X) → list_any test xs ≡ false → found test part xs ≡ None
  found_off [] h = refl
  found_off (x ∷ xs) h = cond-false _ _ _ (or_parts (test x) (list_any test xs) h).0 ∙ found_off xs (or_parts (test x) (list_any test xs) h).1

  found_old_off : (xs : List X) (y : X) → test y ≡ false → found test part (xs ++ y ∷ []) ≡ found test part xs
  found_old_off xs y n =
      elim (cases_Bool (list_any test xs)) [
        | inl h ↦ found_push xs y ∙ cond-true _ _ _ h
        | inr h ↦ found_push xs y ∙ cond-false _ _ _ h ∙ cond-false _ _ _ n ∙ sym (found_off xs h)
      ]

  -- one entry more: with a key that is new, and with one that was there
  pub found_new : (xs : List X) (y : X) → (test y ≡ true → list_any test xs ≡ false) → found test part (xs ++ y ∷ []) ≡ cond (test y) (Some (part y)) (found test part xs)
  found_new xs y new =
      elim (cases_Bool (test y)) [
        | inl t ↦ found_push xs y ∙ cond-false _ _ _ (new t) ∙ cond-true _ _ _ t ∙ sym (cond-true _ _ _ t)
        | inr n ↦ found_old_off xs y n ∙ sym (cond-false _ _ _ n)
      ]

  pub found_old : (xs : List X) (y : X) → (test y ≡ true → list_any test xs ≡ true) → found test part (xs ++ y ∷ []) ≡ found test part xs
  found_old xs y old =
      elim (cases_Bool (test y)) [ inl t ↦ found_push xs y ∙ cond-true _ _ _ (old t) | inr n ↦ found_old_off xs y n ]

  pub any_old : (xs : List X) (y : X) → (test y ≡ true → list_any test xs ≡ true) → list_any test (xs ++ y ∷ []) ≡ list_any test xs
  any_old xs y old = sym (found_any test part (xs ++ y ∷ [])) ∙ ap is_some (found_old xs y old) ∙ found_any test part xs
