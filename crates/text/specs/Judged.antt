-- What becomes of a text, said by the grammar alone.
use Rattle.std.specs.Prelude.{ℕ, suc, ◌<◌, ◌≤◌, List, ◌++◌, length, take, Ok, Err, Result}
use Rattle.text.specs.declared.fault.TextFault.{TextFault}
use Rattle.text.specs.declared.fault.TextFault.TheVariants.{Forbidden, TooDeep, TooLong}
use Rattle.text.specs.Grammar.{Text}
use Rattle.text.specs.Limits.{most_bytes, most_levels}

-- the byte at i, or the end there, is forbidden: some text within the limit of levels begins with what stands before it,
-- and no text, of any number of levels, begins with that and the byte, or ends there
pub record ForbiddenAt (t : List ℕ) (i : ℕ) : Type 0 where
  pub within : i ≤ length t
  pub before : (u : List ℕ) × Text most_levels (take i t ++ u)
  pub byte : i < length t → (d : ℕ) (u : List ℕ) → Text d (take (suc i) t ++ u) → ⊥
  pub none : (d : ℕ) → Text d t → ⊥

-- the byte at i opens a level too many: some text within the limit of levels begins with what stands before it; with the
-- byte too there begins a text of one level more, and none within the limit
pub record TooDeepAt (t : List ℕ) (i : ℕ) : Type 0 where
  pub within : i < length t
  pub before : (u : List ℕ) × Text most_levels (take i t ++ u)
  pub deeper : (u : List ℕ) × Text (suc most_levels) (take (suc i) t ++ u)
  pub refused : (u : List ℕ) → Text most_levels (take (suc i) t ++ u) → ⊥

-- a text is read if it is not too long and the grammar has it within the limit of levels; else it has one fault
abbrev pub Judged : List ℕ → Result (Unit {0}) TextFault → Type 0
Judged t (Ok x) = (length t ≤ most_bytes) × Text most_levels t
Judged t (Err (Forbidden i)) = (length t ≤ most_bytes) × ForbiddenAt t i
Judged t (Err (TooDeep i)) = (length t ≤ most_bytes) × TooDeepAt t i
Judged t (Err TooLong) = most_bytes < length t
