-- An object of which some members were read: what each member does to it, and what it comes to at its end.
use Rattle.std.specs.Prelude.{ℕ, Bool, true, false, List, replicate, Some, None, Option, slice_index_or, slice_set}
use Rattle.std.specs.Option.{option_map}
use Rattle.text.specs.declared.token.Placed.{Placed}
use Rattle.names.specs.declared.kinds.Source.{Source}
use Rattle.names.specs.declared.kinds.PixelFormat.{PixelFormat}
use Rattle.names.specs.declared.kinds.Attribute.{Attribute}
use Rattle.names.specs.declared.kinds.Value.{Value}
use Rattle.table.specs.declared.keys.Key.{Key}
use Rattle.table.specs.declared.level.Level.{Level}
use Rattle.table.specs.declared.exception.Exception.{Exception}
use Rattle.table.specs.declared.record.Verb.{Verb}
use Rattle.table.specs.declared.record.Wanted.{Wanted}
use Rattle.table.specs.declared.record.Head.{Head}
use Rattle.table.specs.declared.record.Record.{Record}
use Rattle.table.specs.declared.meaning.Meaning.{Meaning}
use Rattle.table.specs.declared.draft.Draft.{Draft}
use Rattle.table.specs.Levels.{key_code, allows}
use Rattle.table.specs.Words.{exception_spelled, foreign, word_meaning}

-- a value at an offset
abbrev pub placed : {A : Type 0} → A → ℕ → Placed A
placed x i = record { value = x; offset = i }

-- an object of a level whose brace stands at i, the n-th of its array, before its first member
abbrev pub fresh : Level → ℕ → ℕ → Draft
fresh l n i = record {
  level = l;
  head = record { index = n; offset = i; exception = None; unknown = false };
  seen = replicate 15 false;
  word = None;
  skipped = false;
  entries = 0;
}

-- it had the member already
abbrev pub seen_before : Key → Draft → Bool
seen_before key d = slice_index_or d.seen (key_code key) false

-- the member came
abbrev pub noted : Key → Draft → Draft
noted key d = record { level = d.level; head = d.head; seen = slice_set d.seen (key_code key) true; word = d.word; skipped = d.skipped; entries = d.entries }

-- it has a member that its level does not know
abbrev pub with_unknown : Draft → Draft
with_unknown d = record {
  level = d.level;
  head = record { index = d.head.index; offset = d.head.offset; exception = d.head.exception; unknown = true };
  seen = d.seen;
  word = d.word;
  skipped = d.skipped;
  entries = d.entries;
}

-- its own exception, written at i
abbrev pub with_exception : Exception → ℕ → Draft → Draft
with_exception e i d = record {
  level = d.level;
  head = record { index = d.head.index; offset = d.head.offset; exception = Some (placed e i); unknown = d.head.unknown };
  seen = d.seen;
  word = d.word;
  skipped = d.skipped;
  entries = d.entries;
}

-- the member called like its level, written at i
abbrev pub with_word : Meaning → ℕ → Draft → Draft
with_word m i d = record { level = d.level; head = d.head; seen = d.seen; word = Some (placed m i); skipped = d.skipped; entries = d.entries }

-- whether it is for another vendor
abbrev pub with_skipped : Bool → Draft → Draft
with_skipped b d = record { level = d.level; head = d.head; seen = d.seen; word = d.word; skipped = b; entries = d.entries }

-- how many entries its array has
abbrev pub with_entries : ℕ → Draft → Draft
with_entries n d = record { level = d.level; head = d.head; seen = d.seen; word = d.word; skipped = d.skipped; entries = n }

-- an exception word that is allowed, or not
abbrev pub excepting : Bool → Exception → ℕ → Draft → Option Draft
excepting true e i d = Some (with_exception e i d)
excepting false e i d = None

abbrev pub excepted : Option Exception → ℕ → Draft → Option Draft
excepted None i d = None
excepted (Some e) i d = excepting (allows d.level e) e i d

-- the string of a known member, written at i, that stands for x; none where it is an exception that is not allowed
unfoldable pub taken : List ℕ → Key → ℕ → Draft → Option Draft
taken x Key.Comment i d = Some d
taken x Key.Name i d = Some d
taken x Key.Vendor i d = Some (with_skipped (foreign x) d)
taken x Key.Exception i d = excepted (exception_spelled x) i d
taken x Key.Actions i d = Some (with_word (word_meaning d.level x) i d)
taken x Key.Streams i d = Some (with_word (word_meaning d.level x) i d)
taken x Key.Sources i d = Some (with_word (word_meaning d.level x) i d)
taken x Key.PixelFormats i d = Some (with_word (word_meaning d.level x) i d)
taken x Key.Attributes i d = Some (with_word (word_meaning d.level x) i d)
taken x Key.Values i d = Some (with_word (word_meaning d.level x) i d)
taken x Key.Action i d = Some (with_word (word_meaning d.level x) i d)
taken x Key.Source i d = Some (with_word (word_meaning d.level x) i d)
taken x Key.PixelFormat i d = Some (with_word (word_meaning d.level x) i d)
taken x Key.Attribute i d = Some (with_word (word_meaning d.level x) i d)
taken x Key.Value i d = Some (with_word (word_meaning d.level x) i d)

-- the parts of a meaning
abbrev pub verb_said : Meaning → Option Verb
verb_said (Meaning.Verb v) = Some v
verb_said (Meaning.Source w) = None
verb_said (Meaning.PixelFormat w) = None
verb_said (Meaning.Attribute a) = None
verb_said (Meaning.Value v) = None

abbrev pub source_said : Meaning → Option (Wanted Source)
source_said (Meaning.Verb v) = None
source_said (Meaning.Source w) = Some w
source_said (Meaning.PixelFormat w) = None
source_said (Meaning.Attribute a) = None
source_said (Meaning.Value v) = None

abbrev pub format_said : Meaning → Option (Wanted PixelFormat)
format_said (Meaning.Verb v) = None
format_said (Meaning.Source w) = None
format_said (Meaning.PixelFormat w) = Some w
format_said (Meaning.Attribute a) = None
format_said (Meaning.Value v) = None

-- a part of the word that came, at the word's offset
abbrev pub in_word : {T : Type 0} → (Meaning → Option T) → Option (Placed Meaning) → Option (Placed T)
in_word part None = None
in_word part (Some p) = option_map (λ v. placed v p.offset) (part p.value)

abbrev pub verb_in : Option (Placed Meaning) → Option (Placed Verb)
verb_in = in_word verb_said

abbrev pub source_in : Option (Placed Meaning) → Option (Placed (Wanted Source))
source_in = in_word source_said

abbrev pub format_in : Option (Placed Meaning) → Option (Placed (Wanted PixelFormat))
format_in = in_word format_said

abbrev pub attribute_in : Meaning → Option Attribute
attribute_in (Meaning.Verb v) = None
attribute_in (Meaning.Source w) = None
attribute_in (Meaning.PixelFormat w) = None
attribute_in (Meaning.Attribute a) = a
attribute_in (Meaning.Value v) = None

abbrev pub value_in : Meaning → Option Value
value_in (Meaning.Verb v) = None
value_in (Meaning.Source w) = None
value_in (Meaning.PixelFormat w) = None
value_in (Meaning.Attribute a) = None
value_in (Meaning.Value v) = v

-- an attribute or a value object without the member called like it has no record
abbrev pub attribute_record : Head → Option (Placed Meaning) → Option Record
attribute_record h None = None
attribute_record h (Some p) = Some (Record.Attribute h (placed (attribute_in p.value) p.offset))

abbrev pub value_record : Head → Option (Placed Meaning) → Option Record
value_record h None = None
value_record h (Some p) = Some (Record.Value h (placed (value_in p.value) p.offset))

-- the record of an object; the task itself has none to speak of
abbrev pub record_at : Level → Draft → Option Record
record_at Level.Task d = Some Record.Vacant
record_at Level.Action d = Some (Record.Action d.head (verb_in d.word) d.entries)
record_at Level.Stream d = Some (Record.Stream d.head)
record_at Level.Source d = Some (Record.Source d.head (source_in d.word))
record_at Level.PixelFormat d = Some (Record.PixelFormat d.head (format_in d.word))
record_at Level.Attribute d = attribute_record d.head d.word
record_at Level.Value d = value_record d.head d.word

abbrev pub record_of : Draft → Option Record
record_of d = record_at d.level d
