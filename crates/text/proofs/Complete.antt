-- What the grammar has, the machine reads, with the events of the value that the grammar gives.
use Rattle.std.proofs.Common.{◌≡◌, ℕ, zero, suc, ◌+◌, ◌≤◌, Bool, true, false, not, ◌||◌, eqb, List, [], ◌∷◌, length, sym, refl, ap, ◌∙◌, arith}
use Rattle.std.proofs.lemmas.Bool.{cond-true, cond-false}
use Rattle.std.proofs.lemmas.Bool.Decides.{nat_tests}
use Rattle.text.specs.declared.fault.TextFault.{TextFault}
use Rattle.text.specs.Bytes.{between, white, digit, hex_digit, exponent_mark, sign_mark, short_escape}
use Rattle.text.specs.Machine.{Kind, Frame, Part, whole, fraction, exponent, value, first, digits, digit1, sign, after, chars, escape, hex, tail, member, colon, members, entries, go, says, forbidden, Tape, good, fault, event, ending, tails, hexes, letters, step, over, run, begin_object, end_object, begin_array, end_array, name, string, number, literal_true, literal_false, literal_null}
use Rattle.text.specs.Grammar.{Ws, ws_none, ws_more, Mark, mark, Digits, digits_none, digits_more, Digits1, digits1, minus_none, minus, Int, int_zero, int_more, Frac, frac_none, frac, Sign, sign_none, sign as sign_some, Exp, exp_none, exp, Number, number as a_number, Hexes, hexes_none, hexes_more, Tails, tails_none, tails_more, Wide, wide_2, wide_e0, wide_e1, wide_ed, wide_ee, wide_f0, wide_f1, wide_f4, Char, ascii, wide, escaped, escaped_hex, Chars, chars_none, chars_more, str, Value, is_false, is_null, is_true, is_object, is_array, is_number, is_string, Object, object_none, object_some, Members, members_end, members_more, Member, member as a_member, Array, array_none, array_some, Entries, entries_end, entries_more, Text, text}
use Rattle.text.specs.Tree.{Json, scalar, object, array, events, member_events, entry_events}
use Rattle.text.specs.Derived.{at, mark_at, value_tree, object_trees, members_trees, member_value, array_trees, entries_trees, object_close, members_close, array_close, entries_close}
use Rattle.text.specs.Canonical.{number_ends}
use Rattle.text.proofs.Steps.{run_like, run_go, run_says, run_forbidden}
use Rattle.text.proofs.Frames.{same_ending}
use Rattle.text.proofs.Stacks.{Rest, rest_none, rest_object, rest_array, Accepts}

-- where t is left of a text of n bytes, the tape goes on from the stack k as z
pub record Yields (n : ℕ) (z : Tape) (k : List Frame) (t : List ℕ) : Type 0 where
  pub runs : (i : ℕ) → n ≡ i + length t → run t i k ≡ z

yields_go : (k l : List Frame) (b : ℕ) (bs : List ℕ) {n : ℕ} {z : Tape} → step k b ≡ go l → Yields n z l bs → Yields n z k (b ∷ bs)
yields_go k l b bs e a = record { runs = λ i q. run_go b bs i k l e ∙ a.runs (suc i) (omega arith) }

pub yields_says : (k l : List Frame) (y : Kind) (b : ℕ) (bs : List ℕ) {n : ℕ} {z : Tape} → step k b ≡ says y l → Yields n z l bs → Yields n (event y (at n (b ∷ bs)) z) k (b ∷ bs)
yields_says k l y b bs {n} {z} e a = record {
  runs = λ i q. let p : i ≡ at n (b ∷ bs) = omega arith in run_says b bs i y k l e ∙ ap (event y i) (a.runs (suc i) (omega arith)) ∙ ap (λ j. event y j z) p;
}

yields_like : (k l : List Frame) (b : ℕ) (bs : List ℕ) {n : ℕ} {z : Tape} → step k b ≡ step l b → Yields n z l (b ∷ bs) → Yields n z k (b ∷ bs)
yields_like k l b bs e a = record { runs = λ i q. run_like b bs i k l e ∙ a.runs i q }

-- two stacks after which the text may end alike
yields_end : (k l : List Frame) {n : ℕ} {z : Tape} → over k ≡ over l → Yields n z l [] → Yields n z k []
unfolding run
yields_end k l e a = record { runs = λ i q. rw e (a.runs i q) }

-- white space leaves the stack as it is
abbrev Blank : List Frame → Type 0
Blank k = (b : ℕ) → white b ≡ true → step k b ≡ go k

ws_on : (k : List Frame) {t u : List ℕ} {n : ℕ} {z : Tape} → Blank k → Ws t u → Yields n z k u → Yields n z k t
ws_on k h ws_none a = a
ws_on k h (ws_more {b} e w) a = yields_go k k b _ (h b e) (ws_on k h w a)

rest_blank : {k : List Frame} → Rest k → Blank k
unfolding step
rest_blank rest_none b e = cond-true (white b) _ _ e
rest_blank (rest_object r) b e = cond-true (white b) _ _ e
rest_blank (rest_array r) b e = cond-true (white b) _ _ e

value_blank : (d : ℕ) (k : List Frame) → Blank (value d ∷ k)
unfolding step
value_blank d k b e = cond-true (white b) _ _ e

member_blank : (d : ℕ) (k : List Frame) → Blank (member d ∷ k)
unfolding step
member_blank d k b e = cond-true (white b) _ _ e

colon_blank : (d : ℕ) (k : List Frame) → Blank (colon d ∷ k)
unfolding step
colon_blank d k b e = cond-true (white b) _ _ e

object_blank : (d : ℕ) (k : List Frame) → Blank (members true d ∷ k)
unfolding step
object_blank d k b e = cond-true (white b) _ _ e

array_blank : (d : ℕ) (k : List Frame) → Blank (entries true d ∷ k)
unfolding step
array_blank d k b e = cond-true (white b) _ _ e

-- where digits cannot go on
abbrev undigit : List ℕ → Bool
undigit [] = true
undigit (b ∷ bs) = not (digit b)

ends_undigit : (t : List ℕ) → number_ends t ≡ true → undigit t ≡ true
ends_undigit [] e = refl
ends_undigit (b ∷ bs) e = grind (arith, nat_tests)

ws_ends : {t u : List ℕ} → Ws t u → number_ends u ≡ true → number_ends t ≡ true
ws_ends ws_none e = e
ws_ends (ws_more {b} h w) e = grind (arith, nat_tests)

pub end_ends : {t : List ℕ} → Ws t [] → number_ends t ≡ true
end_ends w = ws_ends w refl

module _ (k : List Frame) where
  pub after_ends : (p : Part) (b : ℕ) → not (digit b || eqb b 46 || exponent_mark b) ≡ true → step (after p ∷ k) b ≡ step k b
  unfolding step
  after_ends whole b e = cond-false (eqb b 46) _ _ (grind (arith, nat_tests)) ∙ cond-false (exponent_mark b) _ _ (grind (arith, nat_tests))
  after_ends fraction b e = cond-false (exponent_mark b) _ _ (grind (arith, nat_tests))
  after_ends exponent b e = refl

  -- a number is over
  after_on : (p : Part) (t : List ℕ) {n : ℕ} {z : Tape} → number_ends t ≡ true → Yields n z k t → Yields n z (after p ∷ k) t
  unfolding over
  after_on p [] e a = yields_end (after p ∷ k) k refl a
  after_on p (b ∷ bs) e a = yields_like (after p ∷ k) k b bs (after_ends p b e) a

  pub digits_other : (p : Part) (b : ℕ) → not (digit b) ≡ true → step (digits p ∷ k) b ≡ step (after p ∷ k) b
  unfolding step
  digits_other p b e = cond-false (digit b) _ _ (grind (arith, nat_tests))

  -- the digits of a part are over
  digits_end : (p : Part) (t : List ℕ) {n : ℕ} {z : Tape} → undigit t ≡ true → Yields n z (after p ∷ k) t → Yields n z (digits p ∷ k) t
  unfolding over
  digits_end p [] e a = yields_end (digits p ∷ k) (after p ∷ k) refl a
  digits_end p (b ∷ bs) e a = yields_like (digits p ∷ k) (after p ∷ k) b bs (digits_other p b e) a

  digits_step : (p : Part) (b : ℕ) → digit b ≡ true → step (digits p ∷ k) b ≡ go (digits p ∷ k)
  unfolding step
  digits_step p b e = cond-true (digit b) _ _ e

  digit1_step : (p : Part) (b : ℕ) → digit b ≡ true → step (digit1 p ∷ k) b ≡ go (digits p ∷ k)
  unfolding step
  digit1_step p b e = cond-true (digit b) _ _ e

  digits_on : (p : Part) {t u : List ℕ} {n : ℕ} {z : Tape} → Digits t u → undigit u ≡ true → Yields n z (after p ∷ k) u → Yields n z (digits p ∷ k) t
  digits_on p {t} digits_none e a = digits_end p t e a
  digits_on p (digits_more {b} h ds) e a = yields_go _ _ b _ (digits_step p b h) (digits_on p ds e a)

  digits1_on : (p : Part) {t u : List ℕ} {n : ℕ} {z : Tape} → Digits1 t u → undigit u ≡ true → Yields n z (after p ∷ k) u → Yields n z (digit1 p ∷ k) t
  digits1_on p (digits1 {b} h ds) e a = yields_go _ _ b _ (digit1_step p b h) (digits_on p ds e a)

  signed : (b : ℕ) → sign_mark b ≡ true → step (sign ∷ k) b ≡ go (digit1 exponent ∷ k)
  unfolding step
  signed b e = cond-true (sign_mark b) _ _ e

  unsigned : (b : ℕ) → digit b ≡ true → step (sign ∷ k) b ≡ step (digit1 exponent ∷ k) b
  unfolding step
  unsigned b e = grind (arith, nat_tests)

  sign_on : {t a u : List ℕ} {n : ℕ} {z : Tape} → Sign t a → Digits1 a u → undigit u ≡ true → Yields n z (after exponent ∷ k) u → Yields n z (sign ∷ k) t
  sign_on sign_none (digits1 {b} h ds) e a = yields_like _ _ b _ (unsigned b h) (digits1_on exponent (digits1 h ds) e a)
  sign_on (sign_some {b} h) ds e a = yields_go _ _ b _ (signed b h) (digits1_on exponent ds e a)

  exponent_whole : (b : ℕ) → exponent_mark b ≡ true → step (after whole ∷ k) b ≡ go (sign ∷ k)
  unfolding step
  exponent_whole b e = grind (arith, nat_tests)

  exponent_fraction : (b : ℕ) → exponent_mark b ≡ true → step (after fraction ∷ k) b ≡ go (sign ∷ k)
  unfolding step
  exponent_fraction b e = cond-true (exponent_mark b) _ _ e

  exp_fraction_on : {t u : List ℕ} {n : ℕ} {z : Tape} → Exp t u → number_ends u ≡ true → Yields n z k u → Yields n z (after fraction ∷ k) t
  exp_fraction_on {t} exp_none e a = after_on fraction t e a
  exp_fraction_on {t} {u} (exp {b} h s ds) e a = yields_go _ _ b _ (exponent_fraction b h) (sign_on s ds (ends_undigit u e) (after_on exponent u e a))

  exp_undigit : {t u : List ℕ} → Exp t u → number_ends u ≡ true → undigit t ≡ true
  exp_undigit {t} exp_none e = ends_undigit t e
  exp_undigit (exp {b} h s ds) e = grind (arith, nat_tests)

  point : step (after whole ∷ k) 46 ≡ go (digit1 fraction ∷ k)
  unfolding step
  point = refl

  exp_whole_on : {t u : List ℕ} {n : ℕ} {z : Tape} → Exp t u → number_ends u ≡ true → Yields n z k u → Yields n z (after whole ∷ k) t
  exp_whole_on {t} exp_none e a = after_on whole t e a
  exp_whole_on {t} {u} (exp {b} h s ds) e a = yields_go _ _ b _ (exponent_whole b h) (sign_on s ds (ends_undigit u e) (after_on exponent u e a))

  frac_on : {t b u : List ℕ} {n : ℕ} {z : Tape} → Frac t b → Exp b u → number_ends u ≡ true → Yields n z k u → Yields n z (after whole ∷ k) t
  frac_on frac_none x e a = exp_whole_on x e a
  frac_on (frac ds) x e a = yields_go _ _ 46 _ point (digits1_on fraction ds (exp_undigit x e) (exp_fraction_on x e a))

  frac_undigit : {t b u : List ℕ} → Frac t b → Exp b u → number_ends u ≡ true → undigit t ≡ true
  frac_undigit frac_none x e = exp_undigit x e
  frac_undigit (frac ds) x e = refl

  first_zero : step (first ∷ k) 48 ≡ go (after whole ∷ k)
  unfolding step
  first_zero = refl

  pub first_more : (b : ℕ) → between 49 57 b ≡ true → step (first ∷ k) b ≡ go (digits whole ∷ k)
  unfolding step
  first_more b e = grind (arith, nat_tests)

  value_zero : (d : ℕ) → step (value d ∷ k) 48 ≡ says number (after whole ∷ k)
  unfolding step
  value_zero d = refl

  pub value_more : (d b : ℕ) → between 49 57 b ≡ true → step (value d ∷ k) b ≡ says number (digits whole ∷ k)
  unfolding step
  value_more d b e = grind (arith, nat_tests)

  value_minus : (d : ℕ) → step (value d ∷ k) 45 ≡ says number (first ∷ k)
  unfolding step
  value_minus d = refl

  int_first_on : {t c b u : List ℕ} {n : ℕ} {z : Tape} → Int t c → Frac c b → Exp b u → number_ends u ≡ true → Yields n z k u → Yields n z (first ∷ k) t
  int_first_on int_zero r x e a = yields_go _ _ 48 _ first_zero (frac_on r x e a)
  int_first_on (int_more {b} h ds) r x e a = yields_go _ _ b _ (first_more b h) (digits_on whole ds (frac_undigit r x e) (frac_on r x e a))

  int_value_on : (d : ℕ) {t c b u : List ℕ} {n : ℕ} {z : Tape} → Int t c → Frac c b → Exp b u → number_ends u ≡ true → Yields n z k u → Yields n (event number (at n t) z) (value d ∷ k) t
  int_value_on d int_zero r x e a = yields_says _ _ number 48 _ (value_zero d) (frac_on r x e a)
  int_value_on d (int_more {b} h ds) r x e a = yields_says _ _ number b _ (value_more d b h) (digits_on whole ds (frac_undigit r x e) (frac_on r x e a))

  pub number_on : (d : ℕ) {t u : List ℕ} {n : ℕ} {z : Tape} → Number t u → number_ends u ≡ true → Yields n z k u → Yields n (event number (at n t) z) (value d ∷ k) t
  number_on d (a_number minus_none i r x) e a = int_value_on d i r x e a
  number_on d (a_number minus i r x) e a = yields_says _ _ number 45 _ (value_minus d) (int_first_on i r x e a)

  tail_step : (lo hi n b : ℕ) → between lo hi b ≡ true → step (tail lo hi n ∷ k) b ≡ go (tails n k)
  unfolding step
  tail_step lo hi n b e = cond-true (between lo hi b) _ _ e

  tails_on : (m : ℕ) {t u : List ℕ} {n : ℕ} {z : Tape} → Tails m t u → Yields n z (chars ∷ k) u → Yields n z (tails m k) t
  tails_on _ tails_none a = a
  tails_on _ (tails_more {n = m} {b} h ts) a = yields_go _ _ b _ (tail_step 128 191 m b h) (tails_on m ts a)

  hex_step : (n b : ℕ) → hex_digit b ≡ true → step (hex n ∷ k) b ≡ go (hexes n k)
  unfolding step
  hex_step n b e = cond-true (hex_digit b) _ _ e

  hexes_on : (m : ℕ) {t u : List ℕ} {n : ℕ} {z : Tape} → Hexes m t u → Yields n z (chars ∷ k) u → Yields n z (hexes m k) t
  hexes_on _ hexes_none a = a
  hexes_on _ (hexes_more {n = m} {b} h hs) a = yields_go _ _ b _ (hex_step m b h) (hexes_on m hs a)

  ascii_step : (b : ℕ) → (between 32 33 b || between 35 91 b || between 93 127 b) ≡ true → step (chars ∷ k) b ≡ go (chars ∷ k)
  unfolding step
  ascii_step b e = grind (arith, nat_tests)

  lead_2 : (b : ℕ) → between 194 223 b ≡ true → step (chars ∷ k) b ≡ go (tail 128 191 0 ∷ k)
  unfolding step
  lead_2 b e = grind (arith, nat_tests)

  lead_e1 : (b : ℕ) → between 225 236 b ≡ true → step (chars ∷ k) b ≡ go (tail 128 191 1 ∷ k)
  unfolding step
  lead_e1 b e = grind (arith, nat_tests)

  lead_ee : (b : ℕ) → between 238 239 b ≡ true → step (chars ∷ k) b ≡ go (tail 128 191 1 ∷ k)
  unfolding step
  lead_ee b e = grind (arith, nat_tests)

  lead_f1 : (b : ℕ) → between 241 243 b ≡ true → step (chars ∷ k) b ≡ go (tail 128 191 2 ∷ k)
  unfolding step
  lead_f1 b e = grind (arith, nat_tests)

  lead_e0 : step (chars ∷ k) 224 ≡ go (tail 160 191 1 ∷ k)
  unfolding step
  lead_e0 = refl

  lead_ed : step (chars ∷ k) 237 ≡ go (tail 128 159 1 ∷ k)
  unfolding step
  lead_ed = refl

  lead_f0 : step (chars ∷ k) 240 ≡ go (tail 144 191 2 ∷ k)
  unfolding step
  lead_f0 = refl

  lead_f4 : step (chars ∷ k) 244 ≡ go (tail 128 143 2 ∷ k)
  unfolding step
  lead_f4 = refl

  wide_on : {t u : List ℕ} {n : ℕ} {z : Tape} → Wide t u → Yields n z (chars ∷ k) u → Yields n z (chars ∷ k) t
  wide_on (wide_2 {b} h ts) a = yields_go _ _ b _ (lead_2 b h) (tails_on 1 ts a)
  wide_on (wide_e0 {b} h ts) a = yields_go _ _ 224 _ lead_e0 (yields_go _ _ b _ (tail_step 160 191 1 b h) (tails_on 1 ts a))
  wide_on (wide_e1 {b} h ts) a = yields_go _ _ b _ (lead_e1 b h) (tails_on 2 ts a)
  wide_on (wide_ed {b} h ts) a = yields_go _ _ 237 _ lead_ed (yields_go _ _ b _ (tail_step 128 159 1 b h) (tails_on 1 ts a))
  wide_on (wide_ee {b} h ts) a = yields_go _ _ b _ (lead_ee b h) (tails_on 2 ts a)
  wide_on (wide_f0 {b} h ts) a = yields_go _ _ 240 _ lead_f0 (yields_go _ _ b _ (tail_step 144 191 2 b h) (tails_on 2 ts a))
  wide_on (wide_f1 {b} h ts) a = yields_go _ _ b _ (lead_f1 b h) (tails_on 3 ts a)
  wide_on (wide_f4 {b} h ts) a = yields_go _ _ 244 _ lead_f4 (yields_go _ _ b _ (tail_step 128 143 2 b h) (tails_on 2 ts a))

  backslash : step (chars ∷ k) 92 ≡ go (escape ∷ k)
  unfolding step
  backslash = refl

  short_step : (b : ℕ) → short_escape b ≡ true → step (escape ∷ k) b ≡ go (chars ∷ k)
  unfolding step
  short_step b e = cond-true (short_escape b) _ _ e

  unicode_step : step (escape ∷ k) 117 ≡ go (hex 3 ∷ k)
  unfolding step
  unicode_step = refl

  char_on : {t u : List ℕ} {n : ℕ} {z : Tape} → Char t u → Yields n z (chars ∷ k) u → Yields n z (chars ∷ k) t
  char_on (ascii {b} h) a = yields_go _ _ b _ (ascii_step b h) a
  char_on (wide w) a = wide_on w a
  char_on (escaped {b} h) a = yields_go _ _ 92 _ backslash (yields_go _ _ b _ (short_step b h) a)
  char_on (escaped_hex h) a = yields_go _ _ 92 _ backslash (yields_go _ _ 117 _ unicode_step (hexes_on 4 h a))

  chars_on : {t u : List ℕ} {n : ℕ} {z : Tape} → Chars t u → Yields n z (chars ∷ k) u → Yields n z (chars ∷ k) t
  chars_on chars_none a = a
  chars_on (chars_more c cs) a = char_on c (chars_on cs a)

  quote_step : step (chars ∷ k) 34 ≡ go k
  unfolding step
  quote_step = refl

  -- a string after its first quote
  pub string_on : {t u : List ℕ} {n : ℕ} {z : Tape} → Chars t (34 ∷ u) → Yields n z k u → Yields n z (chars ∷ k) t
  string_on c a = chars_on c (yields_go _ _ 34 _ quote_step a)

-- the tape does not begin with a fault
abbrev NotFault : Tape → Type 0
NotFault z = (e : TextFault) → z ≡ fault e → ⊥

-- the tape of a value begins with an event
value_not_fault : (v : Json) (z : Tape) → NotFault (events v z)
unfolding events
value_not_fault (scalar x i) z e q = cc
value_not_fault (object i ms j) z e q = cc
value_not_fault (array i vs j) z e q = cc

module _ (d : ℕ) (k : List Frame) where
  pub value_quote : step (value d ∷ k) 34 ≡ says string (chars ∷ k)
  unfolding step
  value_quote = refl

  object_step : step (value (suc d) ∷ k) 123 ≡ says begin_object (members true d ∷ k)
  unfolding step
  object_step = refl

  array_step : step (value (suc d) ∷ k) 91 ≡ says begin_array (entries true d ∷ k)
  unfolding step
  array_step = refl

  object_quote : step (members true d ∷ k) 34 ≡ says name (chars ∷ colon d ∷ k)
  unfolding step
  object_quote = refl

  object_end : step (members true d ∷ k) 125 ≡ says end_object k
  unfolding step
  object_end = refl

  member_quote : step (member d ∷ k) 34 ≡ says name (chars ∷ colon d ∷ k)
  unfolding step
  member_quote = refl

  members_end_step : step (members false d ∷ k) 125 ≡ says end_object k
  unfolding step
  members_end_step = refl

  members_comma : step (members false d ∷ k) 44 ≡ go (member d ∷ k)
  unfolding step
  members_comma = refl

  colon_step : step (colon d ∷ k) 58 ≡ go (value d ∷ members false d ∷ k)
  unfolding step
  colon_step = refl

  array_end : step (entries true d ∷ k) 93 ≡ says end_array k
  unfolding step
  array_end = refl

  entries_end_step : step (entries false d ∷ k) 93 ≡ says end_array k
  unfolding step
  entries_end_step = refl

  entries_comma : step (entries false d ∷ k) 44 ≡ go (value d ∷ entries false d ∷ k)
  unfolding step
  entries_comma = refl

  true_on : (t : List ℕ) {n : ℕ} {z : Tape} → Yields n z k t → Yields n (event literal_true (at n (116 ∷ 114 ∷ 117 ∷ 101 ∷ t)) z) (value d ∷ k) (116 ∷ 114 ∷ 117 ∷ 101 ∷ t)
  unfolding step
  true_on t a = yields_says _ (letters (114 ∷ 117 ∷ 101 ∷ []) k) literal_true 116 _ refl (yields_go _ (letters (117 ∷ 101 ∷ []) k) 114 _ refl (yields_go _ (letters (101 ∷ []) k) 117 _ refl (yields_go _ k 101 _ refl a)))

  false_on : (t : List ℕ) {n : ℕ} {z : Tape} → Yields n z k t → Yields n (event literal_false (at n (102 ∷ 97 ∷ 108 ∷ 115 ∷ 101 ∷ t)) z) (value d ∷ k) (102 ∷ 97 ∷ 108 ∷ 115 ∷ 101 ∷ t)
  unfolding step
  false_on t a = yields_says _ (letters (97 ∷ 108 ∷ 115 ∷ 101 ∷ []) k) literal_false 102 _ refl (yields_go _ (letters (108 ∷ 115 ∷ 101 ∷ []) k) 97 _ refl (yields_go _ (letters (115 ∷ 101 ∷ []) k) 108 _ refl (yields_go _ (letters (101 ∷ []) k) 115 _ refl (yields_go _ k 101 _ refl a))))

  null_on : (t : List ℕ) {n : ℕ} {z : Tape} → Yields n z k t → Yields n (event literal_null (at n (110 ∷ 117 ∷ 108 ∷ 108 ∷ t)) z) (value d ∷ k) (110 ∷ 117 ∷ 108 ∷ 108 ∷ t)
  unfolding step
  null_on t a = yields_says _ (letters (117 ∷ 108 ∷ 108 ∷ []) k) literal_null 110 _ refl (yields_go _ (letters (108 ∷ 108 ∷ []) k) 117 _ refl (yields_go _ (letters (108 ∷ []) k) 108 _ refl (yields_go _ k 108 _ refl a)))

  pub first_byte : (b : ℕ) → white b ≡ false → eqb b 93 ≡ false → step (entries true d ∷ k) b ≡ step (value d ∷ entries false d ∷ k) b
  unfolding step
  first_byte b e q = cond-false (white b) _ _ e ∙ cond-false (eqb b 93) _ _ q ∙ sym (cond-false (white b) _ _ e)

  value_closing : (b : ℕ) → eqb b 93 ≡ true → step (value d ∷ entries false d ∷ k) b ≡ forbidden
  unfolding step
  value_closing b e = let q : b ≡ 93 = grind (arith, nat_tests) in rw q refl

  first_by : (b : ℕ) (bs : List ℕ) (i : ℕ) {z : Tape} (x y : Bool) → white b ≡ x → eqb b 93 ≡ y → NotFault z → (run bs (suc i) (value d ∷ entries false d ∷ k) ≡ z → run bs (suc i) (entries true d ∷ k) ≡ z) → run (b ∷ bs) i (value d ∷ entries false d ∷ k) ≡ z → run (b ∷ bs) i (entries true d ∷ k) ≡ z
  first_by b bs i true y e q f ih a = run_go b bs i _ _ (array_blank d k b e) ∙ ih (sym (run_go b bs i _ _ (value_blank d (entries false d ∷ k) b e)) ∙ a)
  first_by b bs i false true e q f ih a = absurd (f _ (sym a ∙ run_forbidden b bs i _ (value_closing b q)))
  first_by b bs i false false e q f ih a = run_like b bs i _ _ (first_byte b e q) ∙ a

  -- the first entry of an array is a value like any other
  first_entry : (t : List ℕ) (i : ℕ) {z : Tape} → NotFault z → run t i (value d ∷ entries false d ∷ k) ≡ z → run t i (entries true d ∷ k) ≡ z
  unfolding run over
  first_entry [] i f a = a
  first_entry (b ∷ bs) i f a = first_by b bs i (white b) (eqb b 93) refl refl f (first_entry bs (suc i) f) a

mark_ends : (c : ℕ) {t u : List ℕ} → not (digit c || eqb c 46 || exponent_mark c) ≡ true → Mark c t u → number_ends t ≡ true
mark_ends c e (mark w x) = ws_ends w e

pub members_ends : {d : ℕ} {t u : List ℕ} → Members d t u → number_ends t ≡ true
members_ends (members_end m) = mark_ends 125 refl m
members_ends (members_more m x y) = mark_ends 44 refl m

pub entries_ends : {d : ℕ} {t u : List ℕ} → Entries d t u → number_ends t ≡ true
entries_ends (entries_end m) = mark_ends 93 refl m
entries_ends (entries_more m x y) = mark_ends 44 refl m

-- a structural character before what the stack takes after it
mark_says : (k l : List Frame) (y : Kind) (c : ℕ) {t u : List ℕ} {n : ℕ} {z : Tape} → Blank k → step k c ≡ says y l → Blank l → (m : Mark c t u) → Yields n z l u → Yields n (event y (mark_at n m) z) k t
mark_says k l y c h e j (mark {a = x} w v) a = ws_on k h w (yields_says k l y c x e (ws_on l j v a))

mark_goes : (k l : List Frame) (c : ℕ) {t u : List ℕ} {n : ℕ} {z : Tape} → Blank k → step k c ≡ go l → Blank l → Mark c t u → Yields n z l u → Yields n z k t
mark_goes k l c h e j (mark {a = x} w v) a = ws_on k h w (yields_go k l c x e (ws_on l j v a))

-- the events of a value, and those of the members and the entries that are left with the end that closes them
mutual
  unfolding value_tree object_trees members_trees member_value array_trees entries_trees events member_events entry_events

  value_on : {d : ℕ} {t u : List ℕ} {k : List Frame} {n : ℕ} {z : Tape} (v : Value d t u) → Rest k → number_ends u ≡ true → Yields n z k u → Yields n (events (value_tree n v) z) (value d ∷ k) t
  value_on {d} {k = k} (is_false {t = x}) r c a = false_on d k x a
  value_on {d} {k = k} (is_null {t = x}) r c a = null_on d k x a
  value_on {d} {k = k} (is_true {t = x}) r c a = true_on d k x a
  value_on {k = k} (is_object {d} m o) r c a = mark_says _ _ begin_object 123 (value_blank (suc d) k) (object_step d k) (object_blank d k) m (object_on o r a)
  value_on {k = k} (is_array {d} m o) r c a = mark_says _ _ begin_array 91 (value_blank (suc d) k) (array_step d k) (array_blank d k) m (array_on o r a)
  value_on {d} {k = k} (is_number x) r c a = number_on k d x c a
  value_on {d} {k = k} (is_string (str s)) r c a = yields_says _ _ string 34 _ (value_quote d k) (string_on k s a)

  object_on : {d : ℕ} {t u : List ℕ} {k : List Frame} {n : ℕ} {z : Tape} (o : Object d t u) → Rest k → Yields n z k u → Yields n (member_events (object_trees n o) (event end_object (object_close n o) z)) (members true d ∷ k) t
  object_on {d} {k = k} (object_none m) r a = mark_says _ _ end_object 125 (object_blank d k) (object_end d k) (rest_blank r) m a
  object_on {d} {k = k} (object_some m ms) r a = member_on _ (object_quote d k) m r (members_ends ms) (members_on ms r a)

  -- a member, wherever its name may stand
  member_on : {d : ℕ} {t u : List ℕ} {k : List Frame} {n : ℕ} {z : Tape} (f : List Frame) → step f 34 ≡ says name (chars ∷ colon d ∷ k) → (m : Member d t u) → Rest k → number_ends u ≡ true → Yields n z (members false d ∷ k) u → Yields n (event name (at n t) (events (member_value n m) z)) f t
  member_on {d} {k = k} f q (a_member (str s) m v) r c a = yields_says f _ name 34 _ q (string_on (colon d ∷ k) s (mark_goes _ _ 58 (colon_blank d k) (colon_step d k) (value_blank d (members false d ∷ k)) m (value_on v (rest_object r) c a)))

  members_on : {d : ℕ} {t u : List ℕ} {k : List Frame} {n : ℕ} {z : Tape} (ms : Members d t u) → Rest k → Yields n z k u → Yields n (member_events (members_trees n ms) (event end_object (members_close n ms) z)) (members false d ∷ k) t
  members_on {d} {k = k} (members_end m) r a = mark_says _ _ end_object 125 (rest_blank (rest_object r)) (members_end_step d k) (rest_blank r) m a
  members_on {d} {k = k} (members_more m x ms) r a = mark_goes _ _ 44 (rest_blank (rest_object r)) (members_comma d k) (member_blank d k) m (member_on _ (member_quote d k) x r (members_ends ms) (members_on ms r a))

  array_on : {d : ℕ} {t u : List ℕ} {k : List Frame} {n : ℕ} {z : Tape} (o : Array d t u) → Rest k → Yields n z k u → Yields n (entry_events (array_trees n o) (event end_array (array_close n o) z)) (entries true d ∷ k) t
  array_on {d} {k = k} (array_none m) r a = mark_says _ _ end_array 93 (array_blank d k) (array_end d k) (rest_blank r) m a
  array_on {d} {t} {k = k} {n} (array_some v es) r a = let p = value_on v (rest_array r) (entries_ends es) (entries_on es r a) in record { runs = λ i q. first_entry d k t i (value_not_fault (value_tree n v) _) (p.runs i q) }

  entries_on : {d : ℕ} {t u : List ℕ} {k : List Frame} {n : ℕ} {z : Tape} (es : Entries d t u) → Rest k → Yields n z k u → Yields n (entry_events (entries_trees n es) (event end_array (entries_close n es) z)) (entries false d ∷ k) t
  entries_on {d} {k = k} (entries_end m) r a = mark_says _ _ end_array 93 (rest_blank (rest_array r)) (entries_end_step d k) (rest_blank r) m a
  entries_on {d} {k = k} (entries_more m v es) r a = mark_goes _ _ 44 (rest_blank (rest_array r)) (entries_comma d k) (value_blank d (entries false d ∷ k)) m (value_on v (rest_array r) (entries_ends es) (entries_on es r a))

-- white space alone may be left
end_on : {t : List ℕ} {n : ℕ} → Ws t [] → Yields n good [] t
unfolding run over
end_on w = ws_on [] (rest_blank rest_none) w (record { runs = λ i q. refl })

-- a text of the grammar is taken to a good end, and has the events of its value
pub text_on : {d : ℕ} {t a b : List ℕ} (n i : ℕ) → n ≡ i + length t → Ws t a → (v : Value d a b) → Ws b [] → run t i (value d ∷ []) ≡ events (value_tree n v) good
text_on {d} n i q w v x = (ws_on (value d ∷ []) (value_blank d []) w (value_on v rest_none (end_ends x) (end_on x))).runs i q

pub complete : {d : ℕ} {t : List ℕ} → Text d t → Accepts (value d ∷ []) t
complete {t = y} (text w v x) = λ i. ap ending (text_on (i + length y) i refl w v x) ∙ same_ending (value_tree (i + length y) v) good

-- more levels do no harm
mutual
  more_value : {d : ℕ} {t u : List ℕ} → Value d t u → (e : ℕ) → d ≤ e → Value e t u
  more_value is_false e h = is_false
  more_value is_null e h = is_null
  more_value is_true e h = is_true
  more_value (is_object m o) zero h = absurd (omega arith)
  more_value (is_object m o) (suc e) h = is_object m (more_object o e (omega arith))
  more_value (is_array m o) zero h = absurd (omega arith)
  more_value (is_array m o) (suc e) h = is_array m (more_array o e (omega arith))
  more_value (is_number n) e h = is_number n
  more_value (is_string s) e h = is_string s

  more_object : {d : ℕ} {t u : List ℕ} → Object d t u → (e : ℕ) → d ≤ e → Object e t u
  more_object (object_none m) e h = object_none m
  more_object (object_some m ms) e h = object_some (more_member m e h) (more_members ms e h)

  more_member : {d : ℕ} {t u : List ℕ} → Member d t u → (e : ℕ) → d ≤ e → Member e t u
  more_member (a_member s m v) e h = a_member s m (more_value v e h)

  more_members : {d : ℕ} {t u : List ℕ} → Members d t u → (e : ℕ) → d ≤ e → Members e t u
  more_members (members_end m) e h = members_end m
  more_members (members_more m x ms) e h = members_more m (more_member x e h) (more_members ms e h)

  more_array : {d : ℕ} {t u : List ℕ} → Array d t u → (e : ℕ) → d ≤ e → Array e t u
  more_array (array_none m) e h = array_none m
  more_array (array_some v es) e h = array_some (more_value v e h) (more_entries es e h)

  more_entries : {d : ℕ} {t u : List ℕ} → Entries d t u → (e : ℕ) → d ≤ e → Entries e t u
  more_entries (entries_end m) e h = entries_end m
  more_entries (entries_more m v es) e h = entries_more m (more_value v e h) (more_entries es e h)

pub more_levels : {d : ℕ} {t : List ℕ} → Text d t → (e : ℕ) → d ≤ e → Text e t
more_levels (text w v x) e h = text w (more_value v e h) x
