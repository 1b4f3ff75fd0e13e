-- What each call of a reader does, for every continuation: how the tape of what is left goes on.
use Rattle.std.specs.Prelude.{◌≡◌, ℕ, ◌+◌, ◌-◌, ◌<◌, ◌≤◌, Bool, true, false, cond, List, [], ◌∷◌, ◌==◌, length, drop, Some, None, Ok, Err, Option, Result, IfOk, IfErr, slice_index, ◌⊎◌, ◌≢◌}
use Rattle.std.specs.Borrow.{Bor}
use Rattle.text.specs.declared.reader.Reader.{Reader}
use Rattle.text.specs.declared.fault.TextFault.{TextFault}
use Rattle.text.specs.declared.fault.TextFault.TheVariants.{Forbidden}
use Rattle.text.specs.Faults.{text_offset}
use Rattle.text.specs.declared.scalar.Lead.{Lead}
use Rattle.text.specs.declared.token.Placed.{Placed}
use Rattle.text.specs.declared.token.Token.{Token}
use Rattle.text.specs.declared.token.Token.TheVariants.{Object, Array, String, Number, True, False, Null}
use Rattle.text.specs.declared.token.Member.{Member}
use Rattle.text.specs.declared.token.Member.TheVariants.{Named, End}
use Rattle.text.specs.Bytes.{white}
use Rattle.text.specs.Machine.{Frame, value, letters, member, members, entries, tail, chars, lead, over, Kind, begin_object, begin_array, end_object, end_array, name, string, number, literal_true, literal_false, literal_null, Step, go, says, forbidden, step, Tape, good, event, ending, run}
use Rattle.text.specs.Tree.{Json, Members, Entries, events, member_events, entry_events, Proper, ProperMembers, ProperEntries}
use Rattle.text.specs.Parts.{scalar_length, value_length, string_part, number_part}

-- the tape of the rest of the text at the stack k
unfoldable pub ahead : Reader → List Frame → Tape
ahead r k = run (drop r.at r.text.now) r.at k

-- the next byte
abbrev pub here : Reader → ℕ
here r = slice_index r.text.now r.at

-- a byte is left
abbrev pub Inside : Reader → Type 0
Inside r = r.at < length r.text.now

-- the frames on top of a stack that goes on below them
abbrev pub Stack : Type 0
Stack = List Frame → List Frame

-- reading went from r to s and from the stack f k to g k, and passed the events that p puts before a tape
pub record Passed (f g : Stack) (p : Tape → Tape) (r s : Reader) : Type 0 where
  pub same : s.text ≡ r.text
  pub forth : r.at ≤ s.at
  pub runs : (k : List Frame) → ahead r (f k) ≡ p (ahead s (g k))

-- no event was passed
abbrev pub Onward : Stack → Stack → Reader → Reader → Type 0
Onward f g r s = Passed f g (λ t. t) r s

-- reading went from r to s, and found at s the fault that the text has
pub record Halted (f : Stack) (r s : Reader) (e : TextFault) : Type 0 where
  pub same : s.text ≡ r.text
  pub stands : s.at ≡ text_offset e
  pub found : (k : List Frame) → ending (ahead r (f k)) ≡ Err e

-- what has no event was read, or a fault was found
abbrev pub Reads : Stack → Stack → Reader → Reader → Result (Unit {0}) TextFault → Type 0
Reads f g r s (Ok x) = Onward f g r s
Reads f g r s (Err e) = Halted f r s e

-- the same for what ends at a place that is told
abbrev pub ReadsTo : Stack → Stack → Reader → Reader → Result ℕ TextFault → Type 0
ReadsTo f g r s (Ok j) = Onward f g r s × (s.at ≡ j + 1) × (r.at ≤ j)
ReadsTo f g r s (Err e) = Halted f r s e

-- the letters of a literal were read, or a fault was found
abbrev pub ReadsLetters : List ℕ → Reader → Reader → Result (Unit {0}) TextFault → Type 0
ReadsLetters cs r s (Ok x) = Onward (λ k. letters cs k) (λ k. k) r s × (s.at ≡ r.at + length cs)
ReadsLetters cs r s (Err e) = Halted (λ k. letters cs k) r s e

-- white space leaves the stack as it is
abbrev pub Skips : Stack → Type 0
Skips f = (k : List Frame) (b : ℕ) → white b ≡ true → step (f k) b ≡ go (f k)

-- nothing but white space was passed
abbrev pub Blank : Reader → Reader → Type 0
Blank r s = (f : Stack) → Skips f → Onward f f r s

-- what a test may answer to a byte
abbrev pub Answer : Type 1
Answer = ℕ → Bool → Type 0

-- the byte at r met the test and was passed
pub record ByteRead (test : Answer) (r s : Reader) : Type 0 where
  pub inside : Inside r
  pub meets : test (here r) true
  pub same : s.text ≡ r.text
  pub next : s.at ≡ r.at + 1

-- no byte that meets the test stands at r, and none was passed
pub record ByteLeft (test : Answer) (r s : Reader) : Type 0 where
  pub stays : s ≡ r
  pub fails : Inside r → test (here r) false

-- the byte at r was passed if it meets the test
pub record Accepts (test : Answer) (r s : Reader) (x : Bool) : Type 0 where
  pub passed : x ≡ true → ByteRead test r s
  pub left : x ≡ false → ByteLeft test r s

-- the byte at r was passed, or it or the end is at fault
pub record Expects (test : Answer) (r s : Reader) (x : Result (Unit {0}) TextFault) : Type 0 where
  pub passed : IfOk x (λ _. ByteRead test r s)
  pub left : IfErr x (λ e. ByteLeft test r s × (e ≡ Forbidden r.at))

-- all bytes from r to s met the test, and none at s does
pub record Passes (test : Answer) (r s : Reader) : Type 0 where
  pub runs : (f : Stack) → ((k : List Frame) (b : ℕ) → test b true → step (f k) b ≡ go (f k)) → Onward f f r s
  pub stops : Inside s → test (here s) false

-- what a first byte of a character beyond ASCII leads to
abbrev pub led : Option Lead → List Frame → Step
led (Some l) k = go (tail l.low l.high l.more ∷ k)
led None k = forbidden

-- at r only a character beyond ASCII may stand
pub record Leads (f : Stack) (r : Reader) : Type 0 where
  pub byte : Inside r → (k : List Frame) → step (f k) (here r) ≡ lead (here r) k
  pub end : (k : List Frame) → over (f k) ≡ false

-- a string at r, wherever one may stand, was read; x lies between its quotes
pub record StringRead (r s : Reader) (x : List ℕ) : Type 0 where
  pub holds : x ≡ string_part (drop r.at r.text.now)
  pub to : s.at ≡ r.at + scalar_length (drop r.at r.text.now)
  pub moves : r.at < s.at
  pub passed : (n : Kind) (f g : Stack) → ((k : List Frame) → step (f k) 34 ≡ says n (chars ∷ g k)) → Passed f g (event n r.at) r s

-- at r only a string with the event n may stand
pub record Quotes (n : Kind) (f g : Stack) (r : Reader) : Type 0 where
  pub byte : Inside r → (k : List Frame) → step (f k) (here r) ≡ cond (here r == 34) (says n (chars ∷ g k)) forbidden
  pub end : length r.text.now ≤ r.at → (k : List Frame) → over (f k) ≡ false

-- a string, or the fault of the text
abbrev pub ReadsString : Reader → Reader → Result (Bor (List ℕ)) TextFault → Type 0
ReadsString r s (Ok x) = StringRead r s x.now
ReadsString r s (Err e) = (n : Kind) (f g : Stack) → Quotes n f g r → Halted f r s e

-- the number x at r was read
pub record NumberRead (r s : Reader) (x : List ℕ) : Type 0 where
  pub holds : x ≡ number_part (drop r.at r.text.now)
  pub to : s.at ≡ r.at + scalar_length (drop r.at r.text.now)
  pub moves : r.at < s.at
  pub passed : (d : ℕ) → Passed (λ k. value d ∷ k) (λ k. k) (event number r.at) r s

-- a number, or the fault of the text
abbrev pub ReadsNumber : Reader → Reader → Result (Bor (List ℕ)) TextFault → Type 0
ReadsNumber r s (Ok x) = NumberRead r s x.now
ReadsNumber r s (Err e) = (d : ℕ) → Halted (λ k. value d ∷ k) r s e

-- the event of a token
abbrev pub kind_of : Token → Kind
kind_of Object = begin_object
kind_of Array = begin_array
kind_of (String x) = string
kind_of (Number x) = number
kind_of True = literal_true
kind_of False = literal_false
kind_of Null = literal_null

-- what may come after a token, where it was the first of a value that may open d levels
abbrev pub after_token : Token → ℕ → Stack
after_token Object d k = members true (d - 1) ∷ k
after_token Array d k = entries true (d - 1) ∷ k
after_token (String x) d k = k
after_token (Number x) d k = k
after_token True d k = k
after_token False d k = k
after_token Null d k = k

-- the length of a token that begins the text
abbrev pub length_of : List ℕ → Token → ℕ
length_of t Object = 1
length_of t Array = 1
length_of t (String x) = scalar_length t
length_of t (Number x) = scalar_length t
length_of t True = 4
length_of t False = 5
length_of t Null = 4

-- a token holds the part of the text that it begins
abbrev pub Holds : List ℕ → Token → Type 0
Holds t Object = Unit {0}
Holds t Array = Unit {0}
Holds t (String x) = x.now ≡ string_part t
Holds t (Number x) = x.now ≡ number_part t
Holds t True = Unit {0}
Holds t False = Unit {0}
Holds t Null = Unit {0}

-- a bracket opened one of the d levels that were left
abbrev pub Opened : Token → ℕ → Type 0
Opened Object d = 0 < d
Opened Array d = 0 < d
Opened (String x) d = Unit {0}
Opened (Number x) d = Unit {0}
Opened True d = Unit {0}
Opened False d = Unit {0}
Opened Null d = Unit {0}

-- the token at the offset i: what it holds, and where it ends
pub record TokenAt (t : List ℕ) (i j : ℕ) (x : Token) : Type 0 where
  pub holds : Holds (drop i t) x
  pub to : j ≡ i + length_of (drop i t) x

-- a bracket was passed, which opened one of the d levels that were left, or none was left
abbrev pub Opens : ℕ → Kind → (ℕ → Stack) → Reader → Reader → Result (Unit {0}) TextFault → Type 0
Opens d n g r s (Ok x) = (0 < d) × (s.at ≡ r.at + 1) × Passed (λ k. value d ∷ k) (g (d - 1)) (event n r.at) r s
Opens d n g r s (Err e) = (d ≡ 0) × Halted (λ k. value d ∷ k) r s e

-- the first token of a value was read
pub record TokenRead (d : ℕ) (r s : Reader) (x : Token) (i : ℕ) : Type 0 where
  pub from : r.at ≤ i
  pub opened : Opened x d
  pub moves : r.at < s.at
  pub token : TokenAt r.text.now i s.at x
  pub passed : Passed (λ k. value d ∷ k) (after_token x d) (event (kind_of x) i) r s

-- a bracket that opens a level stands here
abbrev pub Bracket : Reader → Type 0
Bracket r = Inside r × ((here r ≡ 123) ⊎ (here r ≡ 91))

-- the first token of a value was not read; a bracket is at fault only where no level is left
pub record TokenFails (d : ℕ) (r s : Reader) (e : TextFault) : Type 0 where
  pub from : Reader
  pub blank : Blank r from
  pub solid : Inside from → white (here from) ≡ false
  pub shut : Bracket from → d ≡ 0
  pub halted : Halted (λ k. value d ∷ k) r s e

-- the token that stands here, or the fault of the text
abbrev pub ReadsTokenHere : ℕ → Reader → Reader → Result Token TextFault → Type 0
ReadsTokenHere d r s (Ok x) = TokenRead d r s x r.at
ReadsTokenHere d r s (Err e) = (Bracket r → d ≡ 0) × Halted (λ k. value d ∷ k) r s e

-- a token, or the fault of the text
abbrev pub ReadsToken : ℕ → Reader → Reader → Result (Placed Token) TextFault → Type 0
ReadsToken d r s (Ok p) = TokenRead d r s p.value p.offset
ReadsToken d r s (Err e) = TokenFails d r s e

-- the event of a value's first token
abbrev pub Starts : Json → Kind → ℕ → Type 0
Starts (Json.scalar y j) x i = (x ≡ y) × (i ≡ j)
Starts (Json.object j ms l) x i = (x ≡ begin_object) × (i ≡ j)
Starts (Json.array j vs l) x i = (x ≡ begin_array) × (i ≡ j)

-- a whole value was read, of which x is the first token
pub record ValueRead (d : ℕ) (r s : Reader) (x : Token) (i : ℕ) : Type 0 where
  pub from : r.at ≤ i
  pub moves : r.at < s.at
  pub what : Json
  pub proper : Proper what
  pub starts : Starts what (kind_of x) i
  pub to : s.at ≡ r.at + value_length d (drop r.at r.text.now)
  pub holds : Holds (drop i r.text.now) x
  pub passed : Passed (λ k. value d ∷ k) (λ k. k) (events what) r s
  -- the value has no fault
  pub ends : (t : Tape) → ending (events what t) ≡ ending t

-- a value, or the fault of the text
abbrev pub ReadsValue : ℕ → Reader → Reader → Result (Placed Token) TextFault → Type 0
ReadsValue d r s (Ok p) = ValueRead d r s p.value p.offset
ReadsValue d r s (Err e) = Halted (λ k. value d ∷ k) r s e

-- the members of an object and its closing brace were read
pub record MembersRead (d : ℕ) (r s : Reader) : Type 0 where
  pub what : Members
  pub proper : ProperMembers what
  pub last : ℕ
  pub to : s.at ≡ last + 1
  pub passed : Passed (λ k. members true d ∷ k) (λ k. k) (λ t. member_events what (event end_object last t)) r s

-- the members, or the fault of the text
abbrev pub ReadsMembers : ℕ → Reader → Reader → Result (Unit {0}) TextFault → Type 0
ReadsMembers d r s (Ok x) = MembersRead d r s
ReadsMembers d r s (Err e) = Halted (λ k. members true d ∷ k) r s e

-- the entries of an array and its closing bracket were read
pub record EntriesRead (d : ℕ) (r s : Reader) : Type 0 where
  pub what : Entries
  pub proper : ProperEntries what
  pub last : ℕ
  pub to : s.at ≡ last + 1
  pub passed : Passed (λ k. entries true d ∷ k) (λ k. k) (λ t. entry_events what (event end_array last t)) r s

-- the entries, or the fault of the text
abbrev pub ReadsEntries : ℕ → Reader → Reader → Result (Unit {0}) TextFault → Type 0
ReadsEntries d r s (Ok x) = EntriesRead d r s
ReadsEntries d r s (Err e) = Halted (λ k. entries true d ∷ k) r s e

-- a member's name at the offset i, with its colon, was read where f was expected
pub record NameRead (f : ℕ → Stack) (r s : Reader) (x : List ℕ) (i : ℕ) : Type 0 where
  pub from : r.at ≤ i
  pub moves : r.at < s.at
  pub holds : x ≡ string_part (drop i r.text.now)
  pub passed : (d : ℕ) → Passed (f d) (λ k. value d ∷ members false d ∷ k) (event name i) r s

-- no colon after a name: the name that should stand at r is at fault itself, or something else stands after it
pub data NameCut (r s : Reader) (e : TextFault) : Type 0 where
  in_name : ((n : Kind) (f g : Stack) → Quotes n f g r → Halted f r s e) → NameCut r s e
  no_colon : (q : Reader) (x : List ℕ) → StringRead r q x → Blank q s → (Inside s → here s ≢ 58) → NameCut r s e

-- a member's name was not read with its colon; the fault lies before the colon, at or after the place where the name may begin
pub record NameFails (f : ℕ → Stack) (r s : Reader) (e : TextFault) : Type 0 where
  pub from : Reader
  pub to : (d : ℕ) → Onward (f d) (λ k. member d ∷ k) r from
  pub solid : Inside from → white (here from) ≡ false
  pub cut : NameCut from s e
  pub halted : (d : ℕ) → Halted (f d) r s e

-- a name and its colon, or the fault of the text
abbrev pub ReadsName : (ℕ → Stack) → Reader → Reader → Result (Placed (Bor (List ℕ))) TextFault → Type 0
ReadsName f r s (Ok p) = NameRead f r s p.value.now p.offset
ReadsName f r s (Err e) = NameFails f r s e

-- at r a comma leads from f to g, and none may stand before the first
abbrev pub Separated : Bool → Stack → Stack → Reader → Type 0
Separated true f g r = (Inside r → (k : List Frame) → step (f k) (here r) ≡ step (g k) (here r)) × ((k : List Frame) → over (f k) ≡ over (g k))
Separated false f g r = (Inside r → (k : List Frame) → step (f k) (here r) ≡ cond (here r == 44) (go (g k)) forbidden) × ((k : List Frame) → over (f k) ≡ false)

-- nothing was passed before the first and a comma before another, or none stands here
abbrev pub ReadsComma : Bool → Reader → Reader → Result (Unit {0}) TextFault → Type 0
ReadsComma first r s (Ok x) = (first ≡ true → s ≡ r) × ((f g : Stack) → Separated first f g r → Onward f g r s)
ReadsComma first r s (Err e) = (first ≡ false) × (s ≡ r) × (Inside r → here r ≢ 44) × (e ≡ Forbidden r.at)

-- where a comma must stand, neither it nor the closing bracket c does
pub record CommaFails (c : ℕ) (first : Bool) (r s : Reader) (e : TextFault) : Type 0 where
  pub later : first ≡ false
  pub blank : Blank r s
  pub neither : Inside s → (here s ≢ 44) × (here s ≢ c)
  pub fault : e ≡ Forbidden s.at

-- neither a member's name with its colon nor the object's end was read; the fault lies before the colon
pub record MemberFails (first : Bool) (r s : Reader) (e : TextFault) : Type 0 where
  pub early : CommaFails 125 first r s e ⊎ NameFails (λ d k. members first d ∷ k) r s e
  pub halted : (d : ℕ) → Halted (λ k. members first d ∷ k) r s e

-- after white space the text ends
pub record TextEnds (r s : Reader) (e : TextFault) : Type 0 where
  pub blank : Blank r s
  pub over : length s.text.now ≤ s.at
  pub fault : e ≡ Forbidden s.at

-- no entry follows, and the array has no end here: the text ends, or a comma is missing
pub record EntryFails (first : Bool) (r s : Reader) (e : TextFault) : Type 0 where
  pub early : TextEnds r s e ⊎ CommaFails 93 first r s e
  pub halted : (d : ℕ) → Halted (λ k. entries first d ∷ k) r s e

-- a member's name, or the object's end, or the fault of the text
abbrev pub ReadsMember : Bool → Reader → Reader → Result Member TextFault → Type 0
ReadsMember first r s (Ok (Named p)) = NameRead (λ d k. members first d ∷ k) r s p.value.now p.offset
ReadsMember first r s (Ok (End j)) = (s.at ≡ j + 1) × ((d : ℕ) → Passed (λ k. members first d ∷ k) (λ k. k) (event end_object j) r s)
ReadsMember first r s (Err e) = MemberFails first r s e

-- an entry follows, or the array's end was passed, or the fault of the text was found
abbrev pub ReadsEntry : Bool → Reader → Reader → Result Bool TextFault → Type 0
ReadsEntry first r s (Ok true) = (first ≡ true → Inside s) × ((d : ℕ) → Onward (λ k. entries first d ∷ k) (λ k. value d ∷ entries false d ∷ k) r s)
ReadsEntry first r s (Ok false) = (j : ℕ) × (s.at ≡ j + 1) × ((d : ℕ) → Passed (λ k. entries first d ∷ k) (λ k. k) (event end_array j) r s)
ReadsEntry first r s (Err e) = EntryFails first r s e

-- nothing but white space was left and the reader stands at the end, or the fault of the text was found
abbrev pub Finishes : Reader → Reader → Result (Unit {0}) TextFault → Type 0
Finishes r s (Ok x) = (s.text ≡ r.text) × (ahead r [] ≡ good) × (s.at ≡ length r.text.now)
Finishes r s (Err e) = Halted (λ k. []) r s e
