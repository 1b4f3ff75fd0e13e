-- What strings say: the names of members, exceptions, the vendor, and the words of objects.
use Rattle.std.specs.Prelude.{◌≡◌, ℕ, Bool, true, false, not, List, [], ◌∷◌, map, Some, None, codes, Option, refl}
use Rattle.std.specs.Option.{option_map}
use Rattle.text.specs.Strings.{stands, lowered, matching}
use Rattle.text.specs.Numbers.{integer_of}
use Rattle.text.specs.Parts.{string_part, number_part}
use Rattle.text.specs.Machine.{Kind, begin_object, end_object, begin_array, end_array, name, string, number, literal_true, literal_false, literal_null}
use Rattle.names.specs.declared.kinds.Value.{Value}
use Rattle.names.specs.Names.{name_at, names_of, distinct}
use Rattle.names.specs.Numbers.{numbered}
use Rattle.names.specs.Named.{NamedLaws}
use Rattle.names.specs.Vocabulary.{listed, source_spelled, format_spelled, attribute_spelled, word_spelled}
use Rattle.table.specs.declared.keys.Key.{Key}
use Rattle.table.specs.declared.level.Level.{Level}
use Rattle.table.specs.Levels.{key_code}
use Rattle.table.specs.declared.exception.Exception.{Exception}
use Rattle.table.specs.declared.record.Verb.{Verb}
use Rattle.table.specs.declared.record.Wanted.{Wanted}
use Rattle.table.specs.declared.meaning.Meaning.{Meaning}

-- the member names, in the order of their list
abbrev pub keys : List Key
keys = Key.Actions ∷ Key.Streams ∷ Key.Sources ∷ Key.PixelFormats ∷ Key.Attributes ∷ Key.Values ∷ Key.Comment ∷ Key.Exception ∷ Key.Vendor ∷ Key.Name ∷ Key.Action ∷ Key.Source ∷ Key.PixelFormat ∷ Key.Attribute ∷ Key.Value ∷ []

-- the letters of their names, end to end, and where each starts
unfoldable pub key_letters : List ℕ
key_letters = codes "actionsstreamssourcespixelFormatsattributesvaluescommentexceptionvendornameactionsourcepixelFormatattributevalue"

unfoldable pub key_starts : List ℕ
key_starts = 0 ∷ 7 ∷ 14 ∷ 21 ∷ 33 ∷ 43 ∷ 49 ∷ 56 ∷ 65 ∷ 71 ∷ 75 ∷ 81 ∷ 87 ∷ 98 ∷ 107 ∷ 112 ∷ []

unfoldable pub key_names : List (List ℕ)
key_names = names_of key_letters key_starts

-- the name of one of them
abbrev pub key_name : Key → List ℕ
key_name k = name_at key_letters key_starts (key_code k)

-- the member name that is spelled so
unfoldable pub key_spelled : List ℕ → Option Key
key_spelled = listed keys Key.Actions key_names

pub key_laws : NamedLaws key_letters key_starts keys Key.Actions key_code key_name key_spelled (numbered keys)
unfolding key_starts key_names key_spelled
key_laws = record { as_many = refl; named = λ k. refl; looked_up = λ x. refl; counted = λ n. refl }

-- no two member names are the same
abbrev pub KeysApart : Type 0
KeysApart = distinct key_names ≡ true

-- a choice by a test
abbrev pub either : {A : Type 0} → Bool → A → A → A
either true a b = a
either false a b = b

-- the exception that is spelled so
unfoldable pub exception_spelled : List ℕ → Option Exception
exception_spelled x =
    either (matching false x (codes "fail")) (Some Exception.Fail)
    (either (matching false x (codes "ignore")) (Some Exception.Ignore)
    (either (matching false x (codes "nextStream")) (Some Exception.NextStream) None))

-- the vendor whose objects are not skipped
unfoldable pub vendor : List ℕ
vendor = codes "211a1e90-11e1-11e5-9493-1697f925ec7b"

-- whether a string names another vendor, letter case aside
unfoldable pub foreign : List ℕ → Bool
foreign x = not (matching false (map lowered x) (map lowered vendor))

-- what an action asks for
abbrev pub verb_spelled : List ℕ → Verb
verb_spelled x = either (matching false x (codes "configure")) Verb.Configure Verb.Other

-- what a word wants, of a kind of names
abbrev pub wanted : {K : Type 0} → Option K → Wanted K
wanted (Some k) = Wanted.Named k
wanted None = Wanted.Unknown

abbrev pub wanted_or : {K : Type 0} → List ℕ → Option K → Wanted K
wanted_or x o = either (matching false x (codes "any")) Wanted.Any (wanted o)

-- what the word of an object says, by the object's level; the other levels have no word
unfoldable pub word_meaning : Level → List ℕ → Meaning
word_meaning Level.Task x = Meaning.Value None
word_meaning Level.Action x = Meaning.Verb (verb_spelled x)
word_meaning Level.Stream x = Meaning.Value None
word_meaning Level.Source x = Meaning.Source (wanted_or x (source_spelled x))
word_meaning Level.PixelFormat x = Meaning.PixelFormat (wanted_or x (format_spelled x))
word_meaning Level.Attribute x = Meaning.Attribute (attribute_spelled x)
word_meaning Level.Value x = Meaning.Value None

-- what a value member says whose token of this kind begins the text: a value word, a number, or something that is offered nowhere
unfoldable pub value_meaning : Kind → List ℕ → Meaning
value_meaning string t = Meaning.Value (option_map Value.Word (word_spelled (stands (string_part t))))
value_meaning number t = Meaning.Value (option_map Value.Number (integer_of (number_part t)))
value_meaning begin_object t = Meaning.Value None
value_meaning end_object t = Meaning.Value None
value_meaning begin_array t = Meaning.Value None
value_meaning end_array t = Meaning.Value None
value_meaning name t = Meaning.Value None
value_meaning literal_true t = Meaning.Value None
value_meaning literal_false t = Meaning.Value None
value_meaning literal_null t = Meaning.Value None
