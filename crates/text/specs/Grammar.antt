-- The grammar of JSON after RFC 8259, and of UTF-8 after RFC 3629. A relation between two texts t and u says that
-- t is what it names, followed by u; so a rule that puts parts in a row goes from text to text.
use Rattle.std.specs.Prelude.{◌≡◌, ℕ, zero, suc, true, ◌||◌, List, [], ◌∷◌}
use Rattle.text.specs.Bytes.{between, white, digit, hex_digit, exponent_mark, sign_mark, short_escape}

-- ws = *( space / tab / line feed / carriage return )
pub data Ws : List ℕ → List ℕ → Type 0 where
  ws_none : {t : List ℕ} → Ws t t
  ws_more : {b : ℕ} {t u : List ℕ} → white b ≡ true → Ws t u → Ws (b ∷ t) u

-- a structural character: ws, the character, ws
pub data Mark (c : ℕ) : List ℕ → List ℕ → Type 0 where
  mark : {t a u : List ℕ} → Ws t (c ∷ a) → Ws a u → Mark c t u

-- *DIGIT
pub data Digits : List ℕ → List ℕ → Type 0 where
  digits_none : {t : List ℕ} → Digits t t
  digits_more : {b : ℕ} {t u : List ℕ} → digit b ≡ true → Digits t u → Digits (b ∷ t) u

-- 1*DIGIT
pub data Digits1 : List ℕ → List ℕ → Type 0 where
  digits1 : {b : ℕ} {t u : List ℕ} → digit b ≡ true → Digits t u → Digits1 (b ∷ t) u

-- [ minus ]
pub data Minus : List ℕ → List ℕ → Type 0 where
  minus_none : {t : List ℕ} → Minus t t
  minus : {t : List ℕ} → Minus (45 ∷ t) t

-- int = zero / ( digit1-9 *DIGIT )
pub data Int : List ℕ → List ℕ → Type 0 where
  int_zero : {t : List ℕ} → Int (48 ∷ t) t
  int_more : {b : ℕ} {t u : List ℕ} → between 49 57 b ≡ true → Digits t u → Int (b ∷ t) u

-- [ frac ], where frac = decimal-point 1*DIGIT
pub data Frac : List ℕ → List ℕ → Type 0 where
  frac_none : {t : List ℕ} → Frac t t
  frac : {t u : List ℕ} → Digits1 t u → Frac (46 ∷ t) u

-- [ minus / plus ]
pub data Sign : List ℕ → List ℕ → Type 0 where
  sign_none : {t : List ℕ} → Sign t t
  sign : {b : ℕ} {t : List ℕ} → sign_mark b ≡ true → Sign (b ∷ t) t

-- [ exp ], where exp = e [ minus / plus ] 1*DIGIT
pub data Exp : List ℕ → List ℕ → Type 0 where
  exp_none : {t : List ℕ} → Exp t t
  exp : {b : ℕ} {t a u : List ℕ} → exponent_mark b ≡ true → Sign t a → Digits1 a u → Exp (b ∷ t) u

-- number = [ minus ] int [ frac ] [ exp ]
pub data Number : List ℕ → List ℕ → Type 0 where
  number : {t a b c u : List ℕ} → Minus t a → Int a b → Frac b c → Exp c u → Number t u

-- so many hexadecimal digits
pub data Hexes : ℕ → List ℕ → List ℕ → Type 0 where
  hexes_none : {t : List ℕ} → Hexes zero t t
  hexes_more : {n b : ℕ} {t u : List ℕ} → hex_digit b ≡ true → Hexes n t u → Hexes (suc n) (b ∷ t) u

-- so many bytes UTF8-tail = 80 to BF
pub data Tails : ℕ → List ℕ → List ℕ → Type 0 where
  tails_none : {t : List ℕ} → Tails zero t t
  tails_more : {n b : ℕ} {t u : List ℕ} → between 128 191 b ≡ true → Tails n t u → Tails (suc n) (b ∷ t) u

-- a character beyond ASCII
pub data Wide : List ℕ → List ℕ → Type 0 where
  -- UTF8-2 = C2-DF UTF8-tail
  wide_2 : {b : ℕ} {t u : List ℕ} → between 194 223 b ≡ true → Tails 1 t u → Wide (b ∷ t) u
  -- UTF8-3 = E0 A0-BF UTF8-tail / E1-EC 2( UTF8-tail ) / ED 80-9F UTF8-tail / EE-EF 2( UTF8-tail )
  wide_e0 : {b : ℕ} {t u : List ℕ} → between 160 191 b ≡ true → Tails 1 t u → Wide (224 ∷ b ∷ t) u
  wide_e1 : {b : ℕ} {t u : List ℕ} → between 225 236 b ≡ true → Tails 2 t u → Wide (b ∷ t) u
  wide_ed : {b : ℕ} {t u : List ℕ} → between 128 159 b ≡ true → Tails 1 t u → Wide (237 ∷ b ∷ t) u
  wide_ee : {b : ℕ} {t u : List ℕ} → between 238 239 b ≡ true → Tails 2 t u → Wide (b ∷ t) u
  -- UTF8-4 = F0 90-BF 2( UTF8-tail ) / F1-F3 3( UTF8-tail ) / F4 80-8F 2( UTF8-tail )
  wide_f0 : {b : ℕ} {t u : List ℕ} → between 144 191 b ≡ true → Tails 2 t u → Wide (240 ∷ b ∷ t) u
  wide_f1 : {b : ℕ} {t u : List ℕ} → between 241 243 b ≡ true → Tails 3 t u → Wide (b ∷ t) u
  wide_f4 : {b : ℕ} {t u : List ℕ} → between 128 143 b ≡ true → Tails 2 t u → Wide (244 ∷ b ∷ t) u

-- char = unescaped / escape ( one of eight / u 4HEXDIG ), where unescaped = 20-21 / 23-5B / 5D-10FFFF
pub data Char : List ℕ → List ℕ → Type 0 where
  ascii : {b : ℕ} {t : List ℕ} → (between 32 33 b || between 35 91 b || between 93 127 b) ≡ true → Char (b ∷ t) t
  wide : {t u : List ℕ} → Wide t u → Char t u
  escaped : {b : ℕ} {t : List ℕ} → short_escape b ≡ true → Char (92 ∷ b ∷ t) t
  escaped_hex : {t u : List ℕ} → Hexes 4 t u → Char (92 ∷ 117 ∷ t) u

-- *char
pub data Chars : List ℕ → List ℕ → Type 0 where
  chars_none : {t : List ℕ} → Chars t t
  chars_more : {t a u : List ℕ} → Char t a → Chars a u → Chars t u

-- string = quotation-mark *char quotation-mark
pub data Str : List ℕ → List ℕ → Type 0 where
  str : {t u : List ℕ} → Chars t (34 ∷ u) → Str (34 ∷ t) u

mutual
  -- value = false / null / true / object / array / number / string, with at most d levels of objects and arrays
  pub data Value : ℕ → List ℕ → List ℕ → Type 0 where
    is_false : {d : ℕ} {t : List ℕ} → Value d (102 ∷ 97 ∷ 108 ∷ 115 ∷ 101 ∷ t) t
    is_null : {d : ℕ} {t : List ℕ} → Value d (110 ∷ 117 ∷ 108 ∷ 108 ∷ t) t
    is_true : {d : ℕ} {t : List ℕ} → Value d (116 ∷ 114 ∷ 117 ∷ 101 ∷ t) t
    is_object : {d : ℕ} {t a u : List ℕ} → Mark 123 t a → Object d a u → Value (suc d) t u
    is_array : {d : ℕ} {t a u : List ℕ} → Mark 91 t a → Array d a u → Value (suc d) t u
    is_number : {d : ℕ} {t u : List ℕ} → Number t u → Value d t u
    is_string : {d : ℕ} {t u : List ℕ} → Str t u → Value d t u

  -- after begin-object: [ member *( value-separator member ) ] end-object
  pub data Object : ℕ → List ℕ → List ℕ → Type 0 where
    object_none : {d : ℕ} {t u : List ℕ} → Mark 125 t u → Object d t u
    object_some : {d : ℕ} {t a u : List ℕ} → Member d t a → Members d a u → Object d t u

  -- *( value-separator member ) end-object
  pub data Members : ℕ → List ℕ → List ℕ → Type 0 where
    members_end : {d : ℕ} {t u : List ℕ} → Mark 125 t u → Members d t u
    members_more : {d : ℕ} {t a b u : List ℕ} → Mark 44 t a → Member d a b → Members d b u → Members d t u

  -- member = string name-separator value
  pub data Member : ℕ → List ℕ → List ℕ → Type 0 where
    member : {d : ℕ} {t a b u : List ℕ} → Str t a → Mark 58 a b → Value d b u → Member d t u

  -- after begin-array: [ value *( value-separator value ) ] end-array
  pub data Array : ℕ → List ℕ → List ℕ → Type 0 where
    array_none : {d : ℕ} {t u : List ℕ} → Mark 93 t u → Array d t u
    array_some : {d : ℕ} {t a u : List ℕ} → Value d t a → Entries d a u → Array d t u

  -- *( value-separator value ) end-array
  pub data Entries : ℕ → List ℕ → List ℕ → Type 0 where
    entries_end : {d : ℕ} {t u : List ℕ} → Mark 93 t u → Entries d t u
    entries_more : {d : ℕ} {t a b u : List ℕ} → Mark 44 t a → Value d a b → Entries d b u → Entries d t u

-- JSON-text = ws value ws, with at most d levels
pub data Text : ℕ → List ℕ → Type 0 where
  text : {d : ℕ} {t a b : List ℕ} → Ws t a → Value d a b → Ws b [] → Text d t
