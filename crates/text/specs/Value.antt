-- The JSON value that a text writes, and the order of its tokens.
use Rattle.std.specs.Prelude.{◌≡◌, ℕ, suc, ◌<◌, ◌≤◌, List, length, Ok}
use Rattle.text.specs.Machine.{good, tape, outcome}
use Rattle.text.specs.Tree.{Json, Members, Entries, scalar, object, array, no_member, one_member, no_entry, one_entry, events, Proper}

-- the value that a text writes: the events of its tokens, one after another, are those of the text
pub record ValueOf (t : List ℕ) (v : Json) : Type 0 where
  pub proper : Proper v
  pub tokens : tape t ≡ events v good

-- the tokens of a value stand in the order of their events, from the offset a on and before the offset b
unfoldable mutual
  pub InOrder : ℕ → Json → ℕ → Type 0
  InOrder a (scalar x i) b = (a ≤ i) × (i < b)
  InOrder a (object i ms j) b = (a ≤ i) × MembersInOrder (suc i) ms j × (j < b)
  InOrder a (array i vs j) b = (a ≤ i) × EntriesInOrder (suc i) vs j × (j < b)

  pub MembersInOrder : ℕ → Members → ℕ → Type 0
  MembersInOrder a no_member b = a ≤ b
  MembersInOrder a (one_member i v ms) b = (a ≤ i) × ((c : ℕ) × InOrder (suc i) v c × MembersInOrder c ms b)

  pub EntriesInOrder : ℕ → Entries → ℕ → Type 0
  EntriesInOrder a no_entry b = a ≤ b
  EntriesInOrder a (one_entry v vs) b = (c : ℕ) × InOrder a v c × EntriesInOrder c vs b

-- a text without faults writes a value, no text writes two, and the tokens of a text's value stand in order within it
pub record Written (t : List ℕ) : Type 0 where
  pub some : outcome t ≡ Ok tt → (v : Json) × ValueOf t v
  pub one : (v w : Json) → ValueOf t v → ValueOf t w → v ≡ w
  pub ordered : (v : Json) → ValueOf t v → InOrder 0 v (length t)

-- this holds of every text
abbrev pub WritesOne : Type 0
WritesOne = (t : List ℕ) → Written t
