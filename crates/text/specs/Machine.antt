-- Reading a text, byte by byte. A stack of frames says what may come next; each byte changes the stack, and the
-- first byte of a token is an event. The result is a tape: the events with their offsets, and how the text ends.
use Rattle.std.specs.Prelude.{ℕ, zero, suc, Bool, true, false, cond, List, [], ◌∷◌, length, Ok, Err, Result, ◌==◌, nat_le}
use Rattle.text.specs.declared.fault.TextFault.{TextFault}
use Rattle.text.specs.declared.fault.TextFault.TheVariants.{Forbidden, TooDeep, TooLong}
use Rattle.text.specs.Bytes.{between, white, digit, hex_digit, exponent_mark, sign_mark, short_escape}
use Rattle.text.specs.Limits.{most_bytes, most_levels}

-- the tokens of a text, by their first bytes
pub data Kind : Type 0 where
  begin_object : Kind
  end_object : Kind
  begin_array : Kind
  end_array : Kind
  name : Kind
  string : Kind
  number : Kind
  literal_true : Kind
  literal_false : Kind
  literal_null : Kind

-- the parts of a number that end in digits
pub data Part : Type 0 where
  whole : Part
  fraction : Part
  exponent : Part

-- what may come next; the number of a value, a member or an entry is how many levels it may open
pub data Frame : Type 0 where
  -- white space, and a value
  value : ℕ → Frame
  -- the digits of a number after its minus
  first : Frame
  -- digits of a part, or what may follow it
  digits : Part → Frame
  -- at least one digit of a part
  digit1 : Part → Frame
  -- the sign of an exponent, or its first digit
  sign : Frame
  -- what may follow a part
  after : Part → Frame
  -- characters of a string, or its closing quote
  chars : Frame
  -- what follows a backslash
  escape : Frame
  -- a hexadecimal digit, and so many after it
  hex : ℕ → Frame
  -- a byte of a character after its first, from the one number to the other, and so many after it
  tail : ℕ → ℕ → ℕ → Frame
  -- the letters of a literal that are left; where none is left, nothing may come
  literal : List ℕ → Frame
  -- a member after a comma
  member : ℕ → Frame
  -- the colon after a name
  colon : ℕ → Frame
  -- the first member or a comma, or the end of the object
  members : Bool → ℕ → Frame
  -- the first entry or a comma, or the end of the array
  entries : Bool → ℕ → Frame

-- what a byte does
pub data Step : Type 0 where
  go : List Frame → Step
  says : Kind → List Frame → Step
  forbidden : Step
  too_deep : Step

-- the tokens of a text, each with the offset of its first byte, and how the text ends
pub data Tape : Type 0 where
  good : Tape
  fault : TextFault → Tape
  event : Kind → ℕ → Tape → Tape

-- how a text ends, whatever its tokens
abbrev pub ending : Tape → Result (Unit {0}) TextFault
ending good = Ok tt
ending (fault e) = Err e
ending (event x i t) = ending t

-- after so many more bytes of a character the string goes on
abbrev pub tails : ℕ → List Frame → List Frame
tails zero k = chars ∷ k
tails (suc n) k = tail 128 191 n ∷ k

-- after so many more hexadecimal digits the string goes on
abbrev pub hexes : ℕ → List Frame → List Frame
hexes zero k = chars ∷ k
hexes (suc n) k = hex n ∷ k

-- after these letters a literal is over
abbrev pub letters : List ℕ → List Frame → List Frame
letters [] k = k
letters (c ∷ cs) k = literal (c ∷ cs) ∷ k

-- the first byte of a character beyond ASCII
abbrev pub lead : ℕ → List Frame → Step
lead b k =
    cond (between 194 223 b) (go (tail 128 191 0 ∷ k))
    (cond (b == 224) (go (tail 160 191 1 ∷ k))
    (cond (b == 237) (go (tail 128 159 1 ∷ k))
    (cond (between 225 239 b) (go (tail 128 191 1 ∷ k))
    (cond (b == 240) (go (tail 144 191 2 ∷ k))
    (cond (between 241 243 b) (go (tail 128 191 2 ∷ k))
    (cond (b == 244) (go (tail 128 143 2 ∷ k))
    forbidden))))))

-- a bracket opens a level, if one is left
abbrev pub opens : ℕ → (ℕ → Step) → Step
opens zero f = too_deep
opens (suc d) f = f d

-- the first byte of a value
abbrev pub begins : ℕ → ℕ → List Frame → Step
begins d b k =
    cond (b == 123) (opens d (λ e. says begin_object (members true e ∷ k)))
    (cond (b == 91) (opens d (λ e. says begin_array (entries true e ∷ k)))
    (cond (b == 34) (says string (chars ∷ k))
    (cond (b == 45) (says number (first ∷ k))
    (cond (b == 48) (says number (after whole ∷ k))
    (cond (digit b) (says number (digits whole ∷ k))
    (cond (b == 116) (says literal_true (literal (114 ∷ 117 ∷ 101 ∷ []) ∷ k))
    (cond (b == 102) (says literal_false (literal (97 ∷ 108 ∷ 115 ∷ 101 ∷ []) ∷ k))
    (cond (b == 110) (says literal_null (literal (117 ∷ 108 ∷ 108 ∷ []) ∷ k))
    forbidden))))))))

-- after the digits of a part: a point, an exponent, or what the rest of the stack makes of the byte
abbrev pub follows : Part → ℕ → List Frame → Step → Step
follows whole b k s = cond (b == 46) (go (digit1 fraction ∷ k)) (cond (exponent_mark b) (go (sign ∷ k)) s)
follows fraction b k s = cond (exponent_mark b) (go (sign ∷ k)) s
follows exponent b k s = s

-- what the next byte does
unfoldable pub step : List Frame → ℕ → Step
step [] b = cond (white b) (go []) forbidden
step (value d ∷ k) b = cond (white b) (go (value d ∷ k)) (begins d b k)
step (first ∷ k) b = cond (b == 48) (go (after whole ∷ k)) (cond (digit b) (go (digits whole ∷ k)) forbidden)
step (digits p ∷ k) b = cond (digit b) (go (digits p ∷ k)) (follows p b k (step k b))
step (digit1 p ∷ k) b = cond (digit b) (go (digits p ∷ k)) forbidden
step (sign ∷ k) b = cond (sign_mark b) (go (digit1 exponent ∷ k)) (cond (digit b) (go (digits exponent ∷ k)) forbidden)
step (after p ∷ k) b = follows p b k (step k b)
step (chars ∷ k) b =
    cond (b == 34) (go k) (cond (b == 92) (go (escape ∷ k)) (cond (nat_le b 31) forbidden (cond (nat_le b 127) (go (chars ∷ k)) (lead b k))))
step (escape ∷ k) b = cond (short_escape b) (go (chars ∷ k)) (cond (b == 117) (go (hex 3 ∷ k)) forbidden)
step (hex n ∷ k) b = cond (hex_digit b) (go (hexes n k)) forbidden
step (tail low high n ∷ k) b = cond (between low high b) (go (tails n k)) forbidden
step (literal [] ∷ k) b = forbidden
step (literal (c ∷ cs) ∷ k) b = cond (b == c) (go (letters cs k)) forbidden
step (member d ∷ k) b = cond (white b) (go (member d ∷ k)) (cond (b == 34) (says name (chars ∷ colon d ∷ k)) forbidden)
step (colon d ∷ k) b = cond (white b) (go (colon d ∷ k)) (cond (b == 58) (go (value d ∷ members false d ∷ k)) forbidden)
step (members true d ∷ k) b =
    cond (white b) (go (members true d ∷ k)) (cond (b == 125) (says end_object k) (cond (b == 34) (says name (chars ∷ colon d ∷ k)) forbidden))
step (members false d ∷ k) b =
    cond (white b) (go (members false d ∷ k)) (cond (b == 125) (says end_object k) (cond (b == 44) (go (member d ∷ k)) forbidden))
step (entries true d ∷ k) b =
    cond (white b) (go (entries true d ∷ k)) (cond (b == 93) (says end_array k) (begins d b (entries false d ∷ k)))
step (entries false d ∷ k) b =
    cond (white b) (go (entries false d ∷ k)) (cond (b == 93) (says end_array k) (cond (b == 44) (go (value d ∷ entries false d ∷ k)) forbidden))

-- whether the text may end here
unfoldable pub over : List Frame → Bool
over [] = true
over (value d ∷ k) = false
over (first ∷ k) = false
over (digits p ∷ k) = over k
over (digit1 p ∷ k) = false
over (sign ∷ k) = false
over (after p ∷ k) = over k
over (chars ∷ k) = false
over (escape ∷ k) = false
over (hex n ∷ k) = false
over (tail low high n ∷ k) = false
over (literal cs ∷ k) = false
over (member d ∷ k) = false
over (colon d ∷ k) = false
over (members f d ∷ k) = false
over (entries f d ∷ k) = false

-- the text ends at i
abbrev pub ends : List Frame → ℕ → Tape
ends k i = cond (over k) good (fault (Forbidden i))

-- the tape of what is left of a text, from the offset i on
unfoldable pub run : List ℕ → ℕ → List Frame → Tape
run [] i k = ends k i
run (b ∷ bs) i k =
    elim (step k b) [ go l ↦ run bs (suc i) l | says x l ↦ event x i (run bs (suc i) l) | forbidden ↦ fault (Forbidden i) | too_deep ↦ fault (TooDeep i) ]

-- the tape of a text: one value, which may open as many levels as the limit allows
unfoldable pub tape : List ℕ → Tape
tape t = run t 0 (value most_levels ∷ [])

-- what comes of a text: a text that is too long is not looked at
unfoldable pub outcome : List ℕ → Result (Unit {0}) TextFault
outcome t = elim (nat_le (length t) most_bytes) [ true ↦ ending (tape t) | false ↦ Err TooLong ]
