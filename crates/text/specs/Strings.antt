-- What the bytes between a string's quotes stand for.
use Rattle.std.specs.Prelude.{◌≡◌, ℕ, ◌+◌, ◌-◌, ◌*◌, ◌%◌, Bool, true, false, cond, ◌&&◌, List, [], ◌∷◌, Some, None, Option, ◌==◌, nat_le}
use Rattle.text.specs.declared.string.Mode.{Mode}
use Rattle.text.specs.declared.string.Mode.TheVariants.{Plain, Backslash, Hex}
use Rattle.text.specs.Bytes.{between}

-- the value of a hexadecimal digit
abbrev pub hex_value : ℕ → ℕ
hex_value b = cond (between 48 57 b) (b - 48) (cond (between 65 70 b) (b - 55) (cond (between 97 102 b) (b - 87) 0))

-- a backslash and this letter: \b \f \n \r \t, and any other letter itself
abbrev pub plain_escape : ℕ → ℕ
plain_escape b = cond (b == 98) 8 (cond (b == 102) 12 (cond (b == 110) 10 (cond (b == 114) 13 (cond (b == 116) 9 b))))

-- the unit of an escaped number: an ASCII character is its byte, and any other lies 256 above its number, apart from every byte
abbrev pub unit : ℕ → ℕ
unit n = cond (nat_le n 127) n (n + 256)

-- the unit that a byte completes, if it completes one
abbrev pub adds : Mode → ℕ → Option ℕ
adds Plain b = cond (b == 92) None (Some b)
adds Backslash b = cond (b == 117) None (Some (plain_escape b))
adds (Hex left v) b = cond (left == 0) (Some (unit ((v % 4096) * 16 + hex_value b))) None

-- how the string goes on after a byte
abbrev pub goes : Mode → ℕ → Mode
goes Plain b = cond (b == 92) Backslash Plain
goes Backslash b = cond (b == 117) (Hex 3 0) Plain
goes (Hex left v) b = cond (left == 0) Plain (Hex (left - 1) ((v % 4096) * 16 + hex_value b))

-- one more unit, or none
abbrev pub before : Option ℕ → List ℕ → List ℕ
before None us = us
before (Some u) us = u ∷ us

-- the units of a string: each byte that stands as it is, and each escape
unfoldable pub units : Mode → List ℕ → List ℕ
units m [] = []
units m (b ∷ bs) = before (adds m b) (units (goes m b) bs)

-- an escaped high surrogate, D800 to DBFF
abbrev pub high : ℕ → Bool
high u = between 55552 56575 u

-- an escaped low surrogate, DC00 to DFFF
abbrev pub low : ℕ → Bool
low u = between 56576 57599 u

-- the one character of a surrogate pair
abbrev pub pair : ℕ → ℕ → ℕ
pair u v = (u - 55552) * 1024 + (v - 56576) + 65536 + 256

-- a unit before others: with a low surrogate after it, a high surrogate is one character
abbrev pub joined : ℕ → List ℕ → List ℕ
joined u [] = u ∷ []
joined u (v ∷ vs) = cond (high u && low v) (pair u v ∷ vs) (u ∷ v ∷ vs)

-- units with each surrogate pair as one; a lone surrogate is itself
unfoldable pub paired : List ℕ → List ℕ
paired [] = []
paired (u ∷ us) = joined u (paired us)

-- what a string stands for
abbrev pub stands : List ℕ → List ℕ
stands raw = paired (units Plain raw)

-- an ASCII letter in lower case, any other unit as it is
abbrev pub lowered : ℕ → ℕ
lowered u = cond (between 65 90 u) (u + 32) u

-- the test says whether the fact holds
pub record Tells (r : Bool) (P : Type 0) : Type 0 where
  pub holds : r ≡ true → P
  pub told : P → r ≡ true

-- whether two units are the same, ASCII letters in either case if so asked
abbrev pub alike : Bool → ℕ → ℕ → Bool
alike true u v = lowered u == lowered v
alike false u v = u == v

-- a test of a unit and a letter answers as p does
abbrev pub Compares : (ℕ → ℕ → Bool → Type 0) → (ℕ → ℕ → Bool) → Type 0
Compares test p = (u v : ℕ) (x : Bool) → test u v x → p u v ≡ x

-- whether units are alike one by one
unfoldable pub matching : Bool → List ℕ → List ℕ → Bool
matching f [] [] = true
matching f [] (v ∷ vs) = false
matching f (u ∷ us) [] = false
matching f (u ∷ us) (v ∷ vs) = elim (alike f u v) [ true ↦ matching f us vs | false ↦ false ]

-- units match letters exactly where they are the same
abbrev pub MatchesAreEqual : Type 0
MatchesAreEqual = (us vs : List ℕ) → Tells (matching false us vs) (us ≡ vs)
