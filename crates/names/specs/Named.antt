-- What the members of a kind, their table of letters and the three ways to look one up have to do with one another.
use Rattle.std.specs.Prelude.{◌≡◌, ℕ, suc, List, length, Option}
use Rattle.names.specs.Names.{name_at, names_of}
use Rattle.names.specs.Numbers.{numbered}
use Rattle.names.specs.Vocabulary.{listed}

pub record NamedLaws {K : Type 0} (letters starts : List ℕ) (all : List K) (first : K) (code : K → ℕ) (name : K → List ℕ) (spelled : List ℕ → Option K) (by_number : ℕ → Option K) : Type 0 where
  -- each member has a name
  pub as_many : length starts ≡ suc (length all)
  -- the name of a member stands at its place
  pub named : (k : K) → name k ≡ name_at letters starts (code k)
  -- a string names the member at the place of the first name that it is spelled as
  pub looked_up : (x : List ℕ) → spelled x ≡ listed all first (names_of letters starts) x
  -- numbers count from 1
  pub counted : (n : ℕ) → by_number n ≡ numbered all n
