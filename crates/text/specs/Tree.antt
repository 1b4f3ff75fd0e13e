-- A JSON value by the offsets of its tokens.
use Rattle.std.specs.Prelude.{ℕ}
use Rattle.text.specs.Machine.{Kind, Tape, event, begin_object, end_object, begin_array, end_array, name, string, number, literal_true, literal_false, literal_null}

mutual
  -- a scalar of a kind at its offset; an object or an array with the offsets of its two brackets
  pub data Json : Type 0 where
    scalar : Kind → ℕ → Json
    object : ℕ → Members → ℕ → Json
    array : ℕ → Entries → ℕ → Json

  -- the offset of a name, the member's value, and the members after it
  pub data Members : Type 0 where
    no_member : Members
    one_member : ℕ → Json → Members → Members

  -- an entry and the entries after it
  pub data Entries : Type 0 where
    no_entry : Entries
    one_entry : Json → Entries → Entries

-- the events of a value, with the tape that follows
unfoldable mutual
  pub events : Json → Tape → Tape
  events (scalar x i) t = event x i t
  events (object i ms j) t = event begin_object i (member_events ms (event end_object j t))
  events (array i vs j) t = event begin_array i (entry_events vs (event end_array j t))

  pub member_events : Members → Tape → Tape
  member_events no_member t = t
  member_events (one_member i v ms) t = event name i (events v (member_events ms t))

  pub entry_events : Entries → Tape → Tape
  entry_events no_entry t = t
  entry_events (one_entry v vs) t = events v (entry_events vs t)

-- the kinds that a scalar may have: no bracket and no name
abbrev pub Scalar : Kind → Type 0
Scalar begin_object = ⊥
Scalar end_object = ⊥
Scalar begin_array = ⊥
Scalar end_array = ⊥
Scalar name = ⊥
Scalar string = Unit {0}
Scalar number = Unit {0}
Scalar literal_true = Unit {0}
Scalar literal_false = Unit {0}
Scalar literal_null = Unit {0}

-- every scalar in a value has a kind of its own
unfoldable mutual
  pub Proper : Json → Type 0
  Proper (scalar x i) = Scalar x
  Proper (object i ms j) = ProperMembers ms
  Proper (array i vs j) = ProperEntries vs

  pub ProperMembers : Members → Type 0
  ProperMembers no_member = Unit {0}
  ProperMembers (one_member i v ms) = Proper v × ProperMembers ms

  pub ProperEntries : Entries → Type 0
  ProperEntries no_entry = Unit {0}
  ProperEntries (one_entry v vs) = Proper v × ProperEntries vs
