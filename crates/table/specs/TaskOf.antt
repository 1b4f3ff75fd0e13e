-- The task that a JSON value writes, read off its members by their names. Each object, word and exception has the offset
-- at which it stands in the text, and says what the text says there.
use Rattle.std.specs.Prelude.{ℕ, ◌+◌, Bool, true, false, ◌||◌, List, [], ◌∷◌, drop, Some, None, Option, ◌==◌}
use Rattle.std.specs.Option.{option_map}
use Rattle.text.specs.declared.token.Placed.{Placed}
use Rattle.text.specs.Tree.{Json, Members, Entries, scalar, object, array, no_member, one_member, no_entry, one_entry}
use Rattle.names.specs.Vocabulary.{source_spelled, format_spelled, attribute_spelled}
use Rattle.table.specs.declared.keys.Key.{Key}
use Rattle.table.specs.declared.level.Level.{Level}
use Rattle.table.specs.declared.exception.Exception.{Exception}
use Rattle.table.specs.declared.record.Head.{Head}
use Rattle.table.specs.Levels.{key_code, known, absent_weight}
use Rattle.table.specs.Words.{exception_spelled, foreign, verb_spelled, wanted_or, value_meaning}
use Rattle.table.specs.Drafts.{placed, value_in}
use Rattle.table.specs.Members.{first_kind, starts, said, key_of}
use Rattle.table.specs.Task.{ValueObject, AttributeObject, FormatObject, SourceObject, StreamObject, ActionObject}

-- a name that spells this key
abbrev pub is_key : Option Key → Key → Bool
is_key None key = false
is_key (Some x) key = key_code x == key_code key

-- the value of a member, if it has the name that is looked for
abbrev pub value_if : Bool → Json → Option Json
value_if true v = Some v
value_if false v = None

abbrev pub or_else : {X : Type 0} → Option X → Option X → Option X
or_else None o = o
or_else (Some x) o = Some x

-- the value of the last member of this name; a task without broken rules has no other
unfoldable pub named : List ℕ → Key → Members → Option Json
named t key no_member = None
named t key (one_member k v ms) = or_else (named t key ms) (value_if (is_key (key_of t k) key) v)

-- what a value says, at its offset
abbrev pub word_at : {X : Type 0} → (Json → X) → Option Json → Option (Placed X)
word_at f None = None
word_at f (Some v) = Some (placed (f v) (starts v))

-- the same of a word that an object must have; without it the object would be none
abbrev pub word_or_none : {X : Type 0} → (Json → Option X) → Option Json → Placed (Option X)
word_or_none f None = placed None 0
word_or_none f (Some v) = placed (f v) (starts v)

-- the exception that a value names, at its offset
abbrev pub exception_at : List ℕ → Option Json → Option (Placed Exception)
exception_at t None = None
exception_at t (Some v) = option_map (λ e. placed e (starts v)) (exception_spelled (said t (starts v)))

-- there is no name that the level knows
abbrev pub unknown_name : Option Key → Bool
unknown_name None = true
unknown_name (Some key) = false

-- some member has such a name
unfoldable pub unknown_in : List ℕ → Level → Members → Bool
unknown_in t l no_member = false
unknown_in t l (one_member k v ms) = unknown_name (known l (key_of t k)) || unknown_in t l ms

-- an object is for another vendor
abbrev pub foreign_at : List ℕ → Option Json → Bool
foreign_at t None = false
foreign_at t (Some v) = foreign (said t (starts v))

abbrev pub skipped : List ℕ → Members → Bool
skipped t ms = foreign_at t (named t Key.Vendor ms)

-- what every object has: the n-th of its array, with its brace at i
abbrev pub head_at : List ℕ → Level → ℕ → ℕ → Members → Head
head_at t l n i ms = record { index = n; offset = i; exception = exception_at t (named t Key.Exception ms); unknown = unknown_in t l ms }

-- the entries of an array, none where there is no array
abbrev pub entries_of : Option Json → Entries
entries_of None = no_entry
entries_of (Some (scalar x i)) = no_entry
entries_of (Some (object i ms j)) = no_entry
entries_of (Some (array i vs j)) = vs

abbrev pub entries_named : List ℕ → Key → Members → Entries
entries_named t key ms = entries_of (named t key ms)

-- how many entries there are
unfoldable pub count : Entries → ℕ
count no_entry = 0
count (one_entry v vs) = count vs + 1

-- one more object, unless it is skipped
abbrev pub unless : {X : Type 0} → Bool → X → List X → List X
unless true x xs = xs
unless false x xs = x ∷ xs

abbrev pub object_before : {X : Type 0} → List ℕ → (ℕ → ℕ → Members → X) → ℕ → Json → List X → List X
object_before t make n (scalar x i) xs = xs
object_before t make n (object i ms j) xs = unless (skipped t ms) (make n i ms) xs
object_before t make n (array i vs j) xs = xs

-- the objects of an array that are not skipped, in order, where n entries came before
unfoldable pub objects_from : {X : Type 0} → List ℕ → (ℕ → ℕ → Members → X) → ℕ → Entries → List X
objects_from t make n no_entry = []
objects_from t make n (one_entry v vs) = object_before t make n v (objects_from t make (n + 1) vs)

abbrev pub objects_named : {X : Type 0} → List ℕ → (ℕ → ℕ → Members → X) → Key → Members → List X
objects_named t make key ms = objects_from t make 0 (entries_named t key ms)

-- the objects of each level, the n-th of its array with its brace at i
abbrev pub value_at : List ℕ → ℕ → ℕ → Members → ValueObject
value_at t n i ms = record {
  head = head_at t Level.Value n i ms;
  word = word_or_none (λ v. value_in (value_meaning (first_kind v) (drop (starts v) t))) (named t Key.Value ms);
}

abbrev pub attribute_at : List ℕ → ℕ → ℕ → Members → AttributeObject
attribute_at t n i ms = record {
  head = head_at t Level.Attribute n i ms;
  word = word_or_none (λ v. attribute_spelled (said t (starts v))) (named t Key.Attribute ms);
  parts = objects_named t (value_at t) Key.Values ms;
}

abbrev pub format_at : List ℕ → ℕ → ℕ → Members → FormatObject
format_at t n i ms = record {
  head = head_at t Level.PixelFormat n i ms;
  word = word_at (λ v. wanted_or (said t (starts v)) (format_spelled (said t (starts v)))) (named t Key.PixelFormat ms);
  parts = objects_named t (attribute_at t) Key.Attributes ms;
}

abbrev pub source_at : List ℕ → ℕ → ℕ → Members → SourceObject
source_at t n i ms = record {
  head = head_at t Level.Source n i ms;
  word = word_at (λ v. wanted_or (said t (starts v)) (source_spelled (said t (starts v)))) (named t Key.Source ms);
  parts = objects_named t (format_at t) Key.PixelFormats ms;
}

abbrev pub stream_at : List ℕ → ℕ → ℕ → Members → StreamObject
stream_at t n i ms = record {
  head = head_at t Level.Stream n i ms;
  parts = objects_named t (source_at t) Key.Sources ms;
}

abbrev pub action_at : List ℕ → ℕ → ℕ → Members → ActionObject
action_at t n i ms = record {
  head = head_at t Level.Action n i ms;
  word = word_at (λ v. verb_spelled (said t (starts v))) (named t Key.Action ms);
  entries = count (entries_named t Key.Streams ms);
  parts = objects_named t (stream_at t) Key.Streams ms;
}

abbrev pub members_of : Json → Members
members_of (scalar x i) = no_member
members_of (object i ms j) = ms
members_of (array i vs j) = no_member

-- the task that a value writes
abbrev pub task_of : List ℕ → Json → List ActionObject
task_of t v = objects_named t (action_at t) Key.Actions (members_of v)

-- the weight of the objects of an array, skipped ones too
abbrev pub weight_before : (Members → ℕ) → Json → ℕ
weight_before f (scalar x i) = 0
weight_before f (object i ms j) = f ms
weight_before f (array i vs j) = 0

unfoldable pub weight_from : (Members → ℕ) → Entries → ℕ
weight_from f no_entry = 0
weight_from f (one_entry v vs) = weight_before f v + weight_from f vs

abbrev pub weight_named : List ℕ → (Members → ℕ) → Key → Members → ℕ
weight_named t f key ms = weight_from f (entries_named t key ms)

-- what the default parts weigh, which stand in where there are none
abbrev pub default_parts : {X : Type 0} → Level → List X → ℕ
default_parts l [] = absent_weight l
default_parts l (x ∷ xs) = 0

-- the weight of an object of each level
abbrev pub value_weight : List ℕ → Members → ℕ
value_weight t ms = 1

abbrev pub attribute_weight : List ℕ → Members → ℕ
attribute_weight t ms = 1 + weight_named t (value_weight t) Key.Values ms

abbrev pub format_weight : List ℕ → Members → ℕ
format_weight t ms = 1 + weight_named t (attribute_weight t) Key.Attributes ms

abbrev pub source_weight : List ℕ → Members → ℕ
source_weight t ms = 1 + weight_named t (format_weight t) Key.PixelFormats ms + default_parts Level.Source (objects_named t (format_at t) Key.PixelFormats ms)

abbrev pub stream_weight : List ℕ → Members → ℕ
stream_weight t ms = 1 + weight_named t (source_weight t) Key.Sources ms + default_parts Level.Stream (objects_named t (source_at t) Key.Sources ms)

abbrev pub action_weight : List ℕ → Members → ℕ
action_weight t ms = 1 + weight_named t (stream_weight t) Key.Streams ms + default_parts Level.Action (objects_named t (stream_at t) Key.Streams ms)

-- the weight of the task that a value writes
abbrev pub weight_of : List ℕ → Json → ℕ
weight_of t v = weight_named t (action_weight t) Key.Actions (members_of v)
