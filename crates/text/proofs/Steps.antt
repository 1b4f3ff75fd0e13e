-- How the contracts of one byte, of none and of a fault are met, and how they join.
use Rattle.std.proofs.Common.{◌≡◌, ℕ, zero, suc, ◌+◌, ◌-◌, ◌<◌, ◌≤◌, Bool, true, false, cond, eqb, ◌≢◌, Option, Some, None, is_some, MatchOption, List, ◌∷◌, length, get_or, drop, IsErrAnd, IfOk, Ok, Err, Result, sym, refl, ap, ◌∙◌, ⊎_elim, add-one, sub-one, arith, drop-cons}
use Rattle.std.proofs.lemmas.List.{drop_all, drop_more}
use Rattle.std.proofs.lemmas.Bool.{cases_lt, cond-true, cond-false, ne_eqb}
use Rattle.std.proofs.lemmas.Bool.Decides.{nat_tests}
use Rattle.text.specs.declared.reader.Reader.{Reader}
use Rattle.text.specs.declared.fault.TextFault.{TextFault}
use Rattle.text.specs.declared.fault.TextFault.TheVariants.{Forbidden, TooDeep}
use Rattle.text.specs.Bytes.{white, digit}
use Rattle.text.specs.Faults.{text_offset}
use Rattle.text.specs.Machine.{Frame, Part, Kind, digits, after, tail, tails, hex, hexes, literal, letters, Step, go, says, forbidden, too_deep, Tape, fault, event, ending, step, over, ends, run}
use Rattle.text.specs.Ahead.{ahead, here, Inside, Stack, Passed, Onward, Halted, Reads, Blank, Answer, ByteRead, ByteLeft, Accepts, Expects, Separated, ReadsComma, CommaFails}

pub run_go : (b : ℕ) (bs : List ℕ) (i : ℕ) (k l : List Frame) → step k b ≡ go l → run (b ∷ bs) i k ≡ run bs (suc i) l
unfolding run
run_go b bs i k l e = rw (e, run) refl

pub run_says : (b : ℕ) (bs : List ℕ) (i : ℕ) (n : Kind) (k l : List Frame) → step k b ≡ says n l → run (b ∷ bs) i k ≡ event n i (run bs (suc i) l)
unfolding run
run_says b bs i n k l e = rw (e, run) refl

pub run_forbidden : (b : ℕ) (bs : List ℕ) (i : ℕ) (k : List Frame) → step k b ≡ forbidden → run (b ∷ bs) i k ≡ fault (Forbidden i)
unfolding run
run_forbidden b bs i k e = rw (e, run) refl

pub run_deep : (b : ℕ) (bs : List ℕ) (i : ℕ) (k : List Frame) → step k b ≡ too_deep → run (b ∷ bs) i k ≡ fault (TooDeep i)
unfolding run
run_deep b bs i k e = rw (e, run) refl

pub run_like : (b : ℕ) (bs : List ℕ) (i : ℕ) (k l : List Frame) → step k b ≡ step l b → run (b ∷ bs) i k ≡ run (b ∷ bs) i l
unfolding run
run_like b bs i k l e = rw (e, run) refl

ahead_go : (r s : Reader) (k l : List Frame) → Inside r → s.text ≡ r.text → s.at ≡ r.at + 1 → step k (here r) ≡ go l → ahead r k ≡ ahead s l
unfolding ahead
ahead_go r s k l h t a e = rw (t, a, add-one, drop-cons r.text.now r.at 0 h) (run_go _ _ r.at k l e)

ahead_says : (r s : Reader) (n : Kind) (k l : List Frame) → Inside r → s.text ≡ r.text → s.at ≡ r.at + 1 → step k (here r) ≡ says n l → ahead r k ≡ event n r.at (ahead s l)
unfolding ahead
ahead_says r s n k l h t a e = rw (t, a, add-one, drop-cons r.text.now r.at 0 h) (run_says _ _ r.at n k l e)

ahead_forbidden : (r : Reader) (k : List Frame) → Inside r → step k (here r) ≡ forbidden → ahead r k ≡ fault (Forbidden r.at)
unfolding ahead
ahead_forbidden r k h e = rw (drop-cons r.text.now r.at 0 h) (run_forbidden _ _ r.at k e)

ahead_deep : (r : Reader) (k : List Frame) → Inside r → step k (here r) ≡ too_deep → ahead r k ≡ fault (TooDeep r.at)
unfolding ahead
ahead_deep r k h e = rw (drop-cons r.text.now r.at 0 h) (run_deep _ _ r.at k e)

pub ahead_end : (r : Reader) (k : List Frame) → length r.text.now ≤ r.at → ahead r k ≡ ends k r.at
unfolding ahead run
ahead_end r k h = rw (drop_all r.at r.text.now h) refl

like : (r : Reader) (k l : List Frame) → step k (here r) ≡ step l (here r) → Inside r → ahead r k ≡ ahead r l
unfolding ahead
like r k l e h = rw (drop-cons r.text.now r.at 0 h) (run_like _ _ r.at k l e)

-- a stack that says n here where another goes on in silence
like_says : (r : Reader) (n : Kind) (k l m : List Frame) → step k (here r) ≡ says n m → step l (here r) ≡ go m → Inside r → ahead r k ≡ event n r.at (ahead r l)
unfolding ahead
like_says r n k l m e f h = rw (drop-cons r.text.now r.at 0 h) (run_says _ _ r.at n k m e ∙ ap (event n r.at) (sym (run_go _ _ r.at l m f)))

module _ {f g : Stack} where
  -- one byte on
  pub one : {r s : Reader} → Inside r → s.text ≡ r.text → s.at ≡ r.at + 1 → ((k : List Frame) → step (f k) (here r) ≡ go (g k)) → Onward f g r s
  one {r} {s} h t a e = record { same = t; forth = omega arith; runs = λ k. ahead_go r s (f k) (g k) h t a (e k) }

  -- one byte on, which is the first of a token
  pub token : {r s : Reader} (n : Kind) (i : ℕ) → i ≡ r.at → Inside r → s.text ≡ r.text → s.at ≡ r.at + 1 → ((k : List Frame) → step (f k) (here r) ≡ says n (g k)) → Passed f g (event n i) r s
  token {r} {s} n i q h t a e = record { same = t; forth = omega arith; runs = λ k. rw q (ahead_says r s n (f k) (g k) h t a (e k)) }

  -- no byte: two stacks that do the same here
  pub alike : {r : Reader} → (Inside r → (k : List Frame) → step (f k) (here r) ≡ step (g k) (here r)) → ((k : List Frame) → over (f k) ≡ over (g k)) → Onward f g r r
  alike {r} e q = record {
    same = refl;
    forth = omega arith;
    runs = λ k. ⊎_elim (λ h. like r (f k) (g k) (e h k) h) (λ h. ahead_end r (f k) h ∙ rw (q k) (sym (ahead_end r (g k) h))) (cases_lt r.at (length r.text.now));
  }

  -- no byte, but the event of the byte that stands here
  pub announced : {r : Reader} (n : Kind) (h : Stack) → Inside r → ((k : List Frame) → step (f k) (here r) ≡ says n (h k)) → ((k : List Frame) → step (g k) (here r) ≡ go (h k)) → Passed f g (event n r.at) r r
  announced {r} n h i e q = record { same = refl; forth = omega arith; runs = λ k. like_says r n (f k) (g k) (h k) (e k) (q k) i }

module _ {f : Stack} where
  -- the byte here is forbidden
  pub bad_here : {r : Reader} {e : TextFault} → Inside r → e ≡ Forbidden r.at → ((k : List Frame) → step (f k) (here r) ≡ forbidden) → Halted f r r e
  bad_here {r} {e} h p b = record { same = refl; stands = ap text_offset (sym p); found = λ k. rw p (ap ending (ahead_forbidden r (f k) h (b k))) }

  -- the end here is forbidden
  pub bad_end : {r : Reader} {e : TextFault} → length r.text.now ≤ r.at → e ≡ Forbidden r.at → ((k : List Frame) → over (f k) ≡ false) → Halted f r r e
  bad_end {r} {e} h p b = record { same = refl; stands = ap text_offset (sym p); found = λ k. rw p (ap ending (ahead_end r (f k) h ∙ cond-false (over (f k)) _ _ (b k))) }

  -- no level is left to open here
  pub deep_here : {r : Reader} {e : TextFault} → Inside r → e ≡ TooDeep r.at → ((k : List Frame) → step (f k) (here r) ≡ too_deep) → Halted f r r e
  deep_here {r} {e} h p b = record { same = refl; stands = ap text_offset (sym p); found = λ k. rw p (ap ending (ahead_deep r (f k) h (b k))) }

pub stay : {f : Stack} {r : Reader} → Onward f f r r
stay {f} {r} = record { same = refl; forth = omega arith; runs = λ k. refl }

pub stayed : {f : Stack} {r s : Reader} → s ≡ r → Onward f f r s
stayed e = rw e stay

-- a byte that was passed
pub byte_on : {f g : Stack} {test : Answer} {r s : Reader} → ByteRead test r s → ((k : List Frame) → step (f k) (here r) ≡ go (g k)) → Onward f g r s
byte_on p e = one p.inside p.same p.next e

-- a byte that stands here is told
pub told : (r : Reader) (o : Option ℕ) → MatchOption o (length r.text.now ≤ r.at) (λ b. Inside r × (here r ≡ b)) → is_some o ≡ false → Inside r → ⊥
told r (Some b) p e i = cc
told r None p e i = omega arith

-- a test answers as p does
abbrev pub Answers : Answer → (ℕ → Bool) → Type 0
Answers test p = (b : ℕ) (x : Bool) → test b x → p b ≡ x

pub met : (p : ℕ → Bool) {test : Answer} {r s : Reader} → ByteRead test r s → Answers test p → p (here r) ≡ true
met p q a = a _ _ q.meets

-- where a byte with p leads from f to g, and one was passed
pub took : {f g : Stack} (p : ℕ → Bool) (other : List Frame → Step) {test : Answer} {r s : Reader} → ByteRead test r s → Answers test p → ((k : List Frame) → step (f k) (here r) ≡ cond (p (here r)) (go (g k)) (other k)) → Onward f g r s
took p other {r = r} q a h = byte_on q (λ k. h k ∙ cond-true (p (here r)) _ _ (a _ _ q.meets))

-- where any byte but one with p does as on g, and none was passed
pub kept : {f g : Stack} (p : ℕ → Bool) (other : List Frame → Step) {test : Answer} {r s : Reader} → ByteLeft test r s → Answers test p → ((k : List Frame) → step (f k) (here r) ≡ cond (p (here r)) (other k) (step (g k) (here r))) → ((k : List Frame) → over (f k) ≡ over (g k)) → Onward f g r s
kept p other {r = r} q a h o = rw q.stays (alike (λ i k. h k ∙ cond-false (p (here r)) _ _ (a _ _ (q.fails i))) o)

-- a byte with p may stand here or be left out
pub optional : {f g : Stack} (p : ℕ → Bool) {test : Answer} {r s : Reader} (x : Bool) → Accepts test r s x → Answers test p → ((k : List Frame) → step (f k) (here r) ≡ cond (p (here r)) (go (g k)) (step (g k) (here r))) → ((k : List Frame) → over (f k) ≡ over (g k)) → Onward f g r s
optional p true q a h o = took p _ (q.passed refl) a h
optional p false q a h o = kept p _ (q.left refl) a h o

-- no byte with p stands at the place where none was passed
pub misses : (p : ℕ → Bool) {test : Answer} {r s : Reader} → ByteLeft test r s → Answers test p → Inside s → p (here s) ≡ false
misses p q a = rw q.stays (λ i. a _ _ (q.fails i))

-- no white space stands where none did
pub solid : {r s : Reader} → s ≡ r → (Inside r → white (here r) ≡ false) → Inside s → white (here s) ≡ false
solid e w = rw e w

-- neither white space nor a byte with p stands at the place where none with p was passed
pub neither : {A : Type 0} (p : ℕ → Bool) {test : Answer} {r s : Reader} (u v w : A) → (Inside r → white (here r) ≡ false) → ByteLeft test r s → Answers test p → Inside s → cond (white (here s)) u (cond (p (here s)) v w) ≡ w
neither p {s = s} u v w h q a i = cond-false (white (here s)) _ _ (solid q.stays h i) ∙ cond-false (p (here s)) _ _ (misses p q a i)

-- where any byte but one with p and the end are forbidden
pub refused : {f : Stack} (p : ℕ → Bool) {test : Answer} {r s : Reader} {e : TextFault} → ByteLeft test r s → e ≡ Forbidden r.at → Answers test p → (Inside r → p (here r) ≡ false → (k : List Frame) → step (f k) (here r) ≡ forbidden) → (length r.text.now ≤ r.at → (k : List Frame) → over (f k) ≡ false) → Halted f r s e
refused p {r = r} q e a h o = rw q.stays (⊎_elim (λ i. bad_here i e (h i (a _ _ (q.fails i)))) (λ i. bad_end i e (o i)) (cases_lt r.at (length r.text.now)))

-- only a byte with p may stand here
pub expected : (f g : Stack) (p : ℕ → Bool) {test : Answer} {r s : Reader} (x : Result (Unit {0}) TextFault) → Expects test r s x → Answers test p → (Inside r → (k : List Frame) → step (f k) (here r) ≡ cond (p (here r)) (go (g k)) forbidden) → ((k : List Frame) → over (f k) ≡ false) → Reads f g r s x
expected f g p (Ok y) q a h o = took p (λ k. forbidden) q.passed a (h q.passed.inside)
expected f g p {r = r} (Err e) q a h o = refused p q.left.0 q.left.1 a (λ i n k. h i k ∙ cond-false (p (here r)) _ _ n) (λ _. o)

differs : (a b : ℕ) → eqb a b ≡ false → a ≢ b
differs a b e q = grind (arith, nat_tests, q)

same_tests : (a b : ℕ) → a ≢ b → eqb a b ≡ false
same_tests a b n = ne_eqb a b n

-- a byte with p, and nothing else, is another one than c
pub other_byte : (c : ℕ) {test : Answer} {r s : Reader} → ByteLeft test r s → Answers test (λ b. eqb b c) → Inside s → here s ≢ c
other_byte c q a i = differs _ c (misses (λ b. eqb b c) q a i)

-- a comma was asked for
pub comma_read : (first : Bool) {test : Answer} {r s : Reader} (x : Result (Unit {0}) TextFault) → first ≡ false → Expects test r s x → Answers test (λ b. eqb b 44) → ReadsComma first r s x
comma_read first {r = r} (Ok y) n q a = (λ e. absurd (let z : ◌≡◌ {A = ℕ} 0 1 = cc in omega arith), λ f g h. let p : Separated false f g r = rw n at h in expected f g (λ b. eqb b 44) (Ok y) q a p.0 p.1)
comma_read first (Err e) n q a = let w = q.left in (n, w.0.stays, λ i. differs _ 44 (a _ _ (w.0.fails i)), w.1)

-- no comma stands where one must
pub no_comma : (first : Bool) {f : Stack} (g : Stack) {r s : Reader} {e : TextFault} → Separated first f g r → ReadsComma first r s (Err e) → Halted f r s e
no_comma first {f} g {r} h q =
    let p : Separated false f g r = rw q.0 at h in
    rw q.1 (⊎_elim (λ i. bad_here i q.3 (λ k. p.0 i k ∙ cond-false (eqb (here r) 44) _ _ (same_tests (here r) 44 (q.2 i)))) (λ i. bad_end i q.3 p.1) (cases_lt r.at (length r.text.now)))

pub comma_fails : (c : ℕ) (first : Bool) {test : Answer} {r s t u : Reader} {e : TextFault} → Blank r s → ByteLeft test s t → Answers test (λ b. eqb b c) → ReadsComma first t u (Err e) → CommaFails c first r u e
comma_fails c first {t = t} b w a q = record {
  later = q.0;
  blank = λ f h. rw (q.1, w.stays) (b f h);
  neither = rw q.1 (λ i. (q.2 i, other_byte c w a i));
  fault = rw q.1 q.3;
}

-- events do not change how a text ends
abbrev pub SameEnding : (Tape → Tape) → Type 0
SameEnding p = (t : Tape) → ending (p t) ≡ ending t

module _ {f g h : Stack} where
  pub then : {r s u : Reader} → Onward f g r s → Onward g h s u → Onward f h r u
  then {r} {s} {u} p q = record { same = q.same ∙ p.same; forth = omega arith; runs = λ k. p.runs k ∙ q.runs k }

  pub then_passed : {a b : Tape → Tape} {r s u : Reader} → Passed f g a r s → Passed g h b s u → Passed f h (λ t. a (b t)) r u
  then_passed {a} {b} {r} {s} {u} p q = record { same = q.same ∙ p.same; forth = omega arith; runs = λ k. p.runs k ∙ ap a (q.runs k) }

-- on to where a byte was left
pub then_left : {f g : Stack} {test : Answer} {r s u : Reader} → Onward f g r s → ByteLeft test s u → Onward f g r u
then_left p q = rw q.stays p

pub then_halted : {f g : Stack} {r s u : Reader} {e : TextFault} → Onward f g r s → Halted g s u e → Halted f r u e
then_halted p q = record { same = q.same ∙ p.same; stands = q.stands; found = λ k. ap ending (p.runs k) ∙ q.found k }

pub passed_halted : {f g : Stack} {a : Tape → Tape} {r s u : Reader} {e : TextFault} → SameEnding a → Passed f g a r s → Halted g s u e → Halted f r u e
passed_halted z p q = record { same = q.same ∙ p.same; stands = q.stands; found = λ k. ap ending (p.runs k) ∙ z _ ∙ q.found k }

pub then_reads : {f g : Stack} (h : Stack) {r s : Reader} (u : Reader) (x : Result (Unit {0}) TextFault) → Onward f g r s → Reads g h s u x → Reads f h r u x
then_reads h u (Ok y) p q = then p q
then_reads h u (Err e) p q = then_halted p q

pub reads_then : (f : Stack) {g h : Stack} (r : Reader) {u : Reader} (x : Result (Unit {0}) TextFault) → Reads f g r u x → Onward g h u u → Reads f h r u x
reads_then f r (Ok y) p q = then p q
reads_then f r (Err e) p q = p

-- the exit of a `?`, whatever the promise
pub broken : {X : Type 0} (P : Result X TextFault → Type 0) {e : TextFault} (x : Result X TextFault) → IsErrAnd x (λ y. y ≡ e) → P (Err e) → P x
broken P (Ok y) b p = absurd b
broken P (Err d) b p = rw b p

-- the exit of a `?` after what has no event
pub broke : {f g : Stack} (h : Stack) {r s u : Reader} {e : TextFault} (x : Result (Unit {0}) TextFault) → IsErrAnd x (λ y. y ≡ e) → Onward f g r s → Halted g s u e → Reads f h r u x
broke h (Ok y) b p q = absurd b
broke h (Err d) b p q = let t = then_halted p q in record { same = t.same; stands = t.stands ∙ ap text_offset (sym b); found = λ k. rw b (t.found k) }

pub digits_over : {r : Reader} (p : Part) → (Inside r → digit (here r) ≡ false) → Onward (λ k. digits p ∷ k) (λ k. after p ∷ k) r r
unfolding step over
digits_over p h = alike (λ i k. rw (h i) refl) (λ k. refl)

pub same_stack : {f g : Stack} {r : Reader} → ((k : List Frame) → f k ≡ g k) → Onward f g r r
same_stack {f} {g} {r} e = record { same = refl; forth = omega arith; runs = λ k. ap (ahead r) (e k) }

pub tails_some : (n : ℕ) (k : List Frame) → 0 < n → tails n k ≡ tail 128 191 (n - 1) ∷ k
tails_some zero k h = absurd (omega arith)
tails_some (suc n) k h = rw sub-one refl

pub tails_none : (n : ℕ) (k : List Frame) → n ≡ 0 → tails n k ≡ tails 0 k
tails_none n k e = ap (λ m. tails m k) e

pub hexes_some : (n : ℕ) (k : List Frame) → 0 < n → hexes n k ≡ hex (n - 1) ∷ k
hexes_some zero k h = absurd (omega arith)
hexes_some (suc n) k h = rw sub-one refl

pub letters_some : (cs : List ℕ) (i : ℕ) (k : List Frame) → i < length cs → letters (drop i cs) k ≡ literal (get_or cs i 0 ∷ drop (i + 1) cs) ∷ k
letters_some cs i k h = rw (drop_more cs i 0 h) refl

pub letters_none : (cs : List ℕ) (i : ℕ) (k : List Frame) → length cs ≤ i → letters (drop i cs) k ≡ k
letters_none cs i k h = rw (drop_all i cs h) refl

pub past : (f g : Stack) (r s : Reader) (x : Result (Unit {0}) TextFault) (i : ℕ) → i < r.at → Reads f g r s x → IfOk x (λ _. i < s.at)
past f g r s (Ok y) i h p = omega arith
past f g r s (Err e) i h p = tt

-- under a fixed rest of the stack
pub on : {f g : Stack} {a : Tape → Tape} {r s : Reader} (h : Stack) → Passed f g a r s → Passed (λ k. f (h k)) (λ k. g (h k)) a r s
on h p = record { same = p.same; forth = p.forth; runs = λ k. p.runs (h k) }

pub on_halted : {f : Stack} {r s : Reader} {e : TextFault} (h : Stack) → Halted f r s e → Halted (λ k. f (h k)) r s e
on_halted h p = record { same = p.same; stands = p.stands; found = λ k. p.found (h k) }
