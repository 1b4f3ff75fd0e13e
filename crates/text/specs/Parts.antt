-- The part of a text that a scalar token takes up, as a function of the text from the token on.
use Rattle.std.specs.Prelude.{ℕ, suc, ◌-◌, List, [], ◌∷◌, take, drop}
use Rattle.text.specs.Machine.{Frame, value, literal, go, says, forbidden, too_deep, step}

-- how many bytes go on from the stack
unfoldable pub extent : List ℕ → List Frame → ℕ
extent [] k = 0
extent (b ∷ bs) k = elim (step k b) [ go l ↦ suc (extent bs l) | says x l ↦ suc (extent bs l) | forbidden ↦ 0 | too_deep ↦ 0 ]

-- the length of the value that begins the text, with white space before it: the bytes that go on as a value that may open
-- d levels and after which nothing may come
unfoldable pub value_length : ℕ → List ℕ → ℕ
value_length d t = extent t (value d ∷ literal [] ∷ [])

-- the length of the scalar that begins the text
abbrev pub scalar_length : List ℕ → ℕ
scalar_length t = value_length 0 t

-- what lies between the quotes of the string that begins the text
unfoldable pub string_part : List ℕ → List ℕ
string_part t = take (scalar_length t - 2) (drop 1 t)

-- the number that begins the text
unfoldable pub number_part : List ℕ → List ℕ
number_part t = take (scalar_length t) t
