-- How a task is read off a JSON value: what its tokens say, and its members by their names.
use Rattle.std.specs.Prelude.{◌≡◌, ℕ, suc, List, drop, Some, Option}
use Rattle.text.specs.Machine.{Kind, begin_object, begin_array}
use Rattle.text.specs.Tree.{Json, Members, Entries, scalar, object, array, one_member, one_entry}
use Rattle.text.specs.Strings.{stands}
use Rattle.text.specs.Parts.{string_part}
use Rattle.table.specs.declared.keys.Key.{Key}
use Rattle.table.specs.Words.{key_spelled}

-- the kind of the first token of a value
abbrev pub first_kind : Json → Kind
first_kind (scalar x i) = x
first_kind (object i ms j) = begin_object
first_kind (array i vs j) = begin_array

-- where it stands
abbrev pub starts : Json → ℕ
starts (scalar x i) = i
starts (object i ms j) = i
starts (array i vs j) = i

-- what the string at i stands for
abbrev pub said : List ℕ → ℕ → List ℕ
said t i = stands (string_part (drop i t))

-- the member name that the string at i spells, or none
abbrev pub key_of : List ℕ → ℕ → Option Key
key_of t i = key_spelled (said t i)

-- there is a member whose name stands at k, with the value v
pub data Has : Members → ℕ → Json → Type 0 where
  first : {k : ℕ} {v : Json} {ms : Members} → Has (one_member k v ms) k v
  later : {i k : ℕ} {w v : Json} {ms : Members} → Has ms k v → Has (one_member i w ms) k v

-- and it has this name
abbrev pub Named : List ℕ → Key → Members → ℕ → Json → Type 0
Named t key ms k v = Has ms k v × (key_of t k ≡ Some key)

-- the member whose name stands at k has the name key, and one before it has it too
pub data Again (t : List ℕ) (key : Key) : Members → ℕ → Type 0 where
  again : {i k : ℕ} {w v : Json} {ms : Members} → key_of t i ≡ Some key → Named t key ms k v → Again t key (one_member i w ms) k
  further : {i k : ℕ} {w : Json} {ms : Members} → Again t key ms k → Again t key (one_member i w ms) k

-- the entry of an array with n before it
pub data Entry : Entries → ℕ → Json → Type 0 where
  front : {v : Json} {vs : Entries} → Entry (one_entry v vs) 0 v
  behind : {v w : Json} {vs : Entries} {n : ℕ} → Entry vs n v → Entry (one_entry w vs) (suc n) v
