-- The parts of a text that tokens hold, said by the grammar.
use Rattle.std.specs.Prelude.{◌≡◌, ℕ, List, ◌∷◌, ◌++◌}
use Rattle.text.specs.Grammar.{Value, is_false, is_null, is_true, is_object, is_array, is_number, is_string, Object, object_none, object_some, Members, members_end, members_more, Member, member, Array, array_none, array_some, Entries, entries_end, entries_more, Text, text}
use Rattle.text.specs.Parts.{string_part, number_part}

-- the text t is a string, and then u: the part of the string is what lies between its quotes
abbrev pub BetweenQuotes : List ℕ → List ℕ → Type 0
BetweenQuotes t u = t ≡ 34 ∷ (string_part t ++ 34 ∷ u)

-- the text t is a number, and then u: the part of the number is all of it
abbrev pub AllOfNumber : List ℕ → List ℕ → Type 0
AllOfNumber t u = t ≡ number_part t ++ u

-- so it is for each string, name and number of a derivation
unfoldable mutual
  pub ValueParts : {d : ℕ} {t u : List ℕ} → Value d t u → Type 0
  ValueParts is_false = Unit {0}
  ValueParts is_null = Unit {0}
  ValueParts is_true = Unit {0}
  ValueParts (is_object m o) = ObjectParts o
  ValueParts (is_array m o) = ArrayParts o
  ValueParts (is_number {t = x} {u = y} n) = AllOfNumber x y
  ValueParts (is_string {t = x} {u = y} s) = BetweenQuotes x y

  pub ObjectParts : {d : ℕ} {t u : List ℕ} → Object d t u → Type 0
  ObjectParts (object_none m) = Unit {0}
  ObjectParts (object_some m ms) = MemberParts m × MembersParts ms

  pub MembersParts : {d : ℕ} {t u : List ℕ} → Members d t u → Type 0
  MembersParts (members_end m) = Unit {0}
  MembersParts (members_more c m ms) = MemberParts m × MembersParts ms

  pub MemberParts : {d : ℕ} {t u : List ℕ} → Member d t u → Type 0
  MemberParts (member {t = x} {a = y} s c v) = BetweenQuotes x y × ValueParts v

  pub ArrayParts : {d : ℕ} {t u : List ℕ} → Array d t u → Type 0
  ArrayParts (array_none m) = Unit {0}
  ArrayParts (array_some v es) = ValueParts v × EntriesParts es

  pub EntriesParts : {d : ℕ} {t u : List ℕ} → Entries d t u → Type 0
  EntriesParts (entries_end m) = Unit {0}
  EntriesParts (entries_more c v es) = ValueParts v × EntriesParts es

-- of a whole text
abbrev pub TextParts : {d : ℕ} {t : List ℕ} → Text d t → Type 0
TextParts (text w v y) = ValueParts v

-- however the grammar has a text, with any number of levels
abbrev pub PartsOfGrammar : Type 0
PartsOfGrammar = (d : ℕ) (t : List ℕ) (g : Text d t) → TextParts g
