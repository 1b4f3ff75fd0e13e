-- The search finds something exactly where some entry meets the test.
use Rattle.std.proofs.Common.{◌≡◌, ℕ, zero, suc, ◌<◌, Bool, true, false, List, [], ◌∷◌, length, get_or, is_some, Some, None, Option, sym, refl, arith}
use Rattle.std.specs.List.{list_any}
use Rattle.std.proofs.lemmas.Bool.{or_from, or_left, or_right}
use Rattle.scanners.specs.Search.{NoneBefore, FirstOf}

none_any : {X : Type 0} (test : X → Bool) (xs : List X) → NoneBefore test xs (length xs) → list_any test xs ≡ false
none_any test [] h = refl
none_any test (x ∷ xs) h = or_from (test x) _ (h 0 x (omega arith)) (none_any test xs (λ k d l. h (suc k) d (omega arith)))

some_any : {X : Type 0} (test : X → Bool) (xs : List X) (i : ℕ) → i < length xs → ((d : X) → test (get_or xs i d) ≡ true) → list_any test xs ≡ true
some_any test [] i l h = absurd (omega arith)
some_any test (x ∷ xs) zero l h = or_left (test x) _ (h x)
some_any test (x ∷ xs) (suc i) l h = or_right (test x) _ (some_any test xs i (omega arith) h)

pub first_any : {X : Type 0} (test : X → Bool) (xs : List X) (r : Option ℕ) → FirstOf test xs r → is_some r ≡ list_any test xs
first_any test xs None h = sym (none_any test xs h)
first_any test xs (Some i) h = sym (some_any test xs i h.0 h.1)
