-- The classes of bytes that the rules of RFC 8259 name.
use Rattle.std.specs.Prelude.{ℕ, Bool, ◌&&◌, ◌||◌, ◌==◌, nat_le}

-- from a to b
abbrev pub between : ℕ → ℕ → ℕ → Bool
between a b x = nat_le a x && nat_le x b

-- white space: space, horizontal tab, line feed, carriage return
abbrev pub white : ℕ → Bool
white b = b == 32 || b == 9 || b == 10 || b == 13

-- 0 to 9
abbrev pub digit : ℕ → Bool
digit b = between 48 57 b

-- 0 to 9, A to F, a to f
abbrev pub hex_digit : ℕ → Bool
hex_digit b = between 48 57 b || between 65 70 b || between 97 102 b

-- e or E
abbrev pub exponent_mark : ℕ → Bool
exponent_mark b = b == 101 || b == 69

-- plus or minus
abbrev pub sign_mark : ℕ → Bool
sign_mark b = b == 43 || b == 45

-- after a backslash, alone: " \ / b f n r t
abbrev pub short_escape : ℕ → Bool
short_escape b = b == 34 || b == 92 || b == 47 || b == 98 || b == 102 || b == 110 || b == 114 || b == 116

-- a character of one byte that is no quote and no backslash
abbrev pub plain : ℕ → Bool
plain b = between 32 33 b || between 35 91 b || between 93 127 b
