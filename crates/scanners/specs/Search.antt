-- The first entry of a list that meets a test.
use Rattle.std.specs.Prelude.{◌≡◌, ℕ, ◌<◌, Bool, true, false, List, length, Option, MatchOption, slice_index_or}

-- every entry before the place n fails the test
abbrev pub NoneBefore : {X : Type 0} → (X → Bool) → List X → ℕ → Type 0
NoneBefore {X} test xs n = (k : ℕ) (d : X) → k < n → test (slice_index_or xs k d) ≡ false

-- the answer is the place of the first entry that meets the test, or none where every entry fails it
abbrev pub FirstOf : {X : Type 0} → (X → Bool) → List X → Option ℕ → Type 0
FirstOf {X} test xs found =
    MatchOption found (NoneBefore test xs (length xs)) (λ i. (i < length xs) × ((d : X) → test (slice_index_or xs i d) ≡ true) × NoneBefore test xs i)
