-- What the machine reads, the grammar has: each stack stands for a language, and each byte keeps to it.
use Rattle.std.proofs.Common.{◌≡◌, ℕ, zero, suc, Bool, true, false, cond, ◌||◌, eqb, leb, List, [], ◌∷◌, Ok, sym, refl, ap, ◌∙◌, subst, arith}
use Rattle.std.proofs.lemmas.Bool.{cond-false}
use Rattle.std.proofs.lemmas.Bool.Decides.{nat_tests}
use Rattle.text.specs.declared.fault.TextFault.TheVariants.{Forbidden}
use Rattle.text.specs.Bytes.{between, white, digit, hex_digit, exponent_mark, sign_mark, short_escape}
use Rattle.text.specs.Machine.{Kind, Frame, Part, Step, whole, fraction, exponent, value, first, digits, digit1, sign, after, chars, escape, hex, tail, literal, member, colon, members, entries, go, says, forbidden, too_deep, good, fault, ending, tails, hexes, letters, lead, opens, begins, follows, step, over, ends, run, begin_object, begin_array}
use Rattle.text.specs.Grammar.{Ws, ws_none, ws_more, Mark, mark, Digits, digits_none, digits_more, Digits1, digits1, minus_none, minus, Int, int_zero, int_more, Frac, frac_none, frac, Sign, sign_none, sign as sign_some, Exp, exp_none, exp, number as a_number, Hexes, hexes_none, hexes_more, Tails, tails_none, tails_more, wide_2, wide_e0, wide_e1, wide_ed, wide_ee, wide_f0, wide_f1, wide_f4, ascii, wide, escaped, escaped_hex, Chars, chars_none, chars_more, str, Value, is_false, is_null, is_true, is_object, is_array, is_number, is_string, Object, object_none, object_some, Members, members_end, members_more, Member, member as a_member, Array, array_none, array_some, Entries, entries_end, entries_more, Text, text}
use Rattle.text.proofs.Steps.{run_go, run_says, run_forbidden, run_deep}

-- what may follow a part of a number
data After : Part → List ℕ → List ℕ → Type 0 where
  after_whole : {t a u : List ℕ} → Frac t a → Exp a u → After whole t u
  after_fraction : {t u : List ℕ} → Exp t u → After fraction t u
  after_exponent : {t : List ℕ} → After exponent t t

-- the letters of a literal
data Spelt : List ℕ → List ℕ → List ℕ → Type 0 where
  spelt_none : {t : List ℕ} → Spelt [] t t
  spelt_more : {c : ℕ} {cs t u : List ℕ} → Spelt cs t u → Spelt (c ∷ cs) (c ∷ t) u

-- the language of a frame
data Lang : Frame → List ℕ → List ℕ → Type 0 where
  l_value : {d : ℕ} {t a u : List ℕ} → Ws t a → Value d a u → Lang (value d) t u
  l_first : {t a u : List ℕ} → Int t a → After whole a u → Lang first t u
  l_digits : {p : Part} {t a u : List ℕ} → Digits t a → After p a u → Lang (digits p) t u
  l_digit1 : {p : Part} {t a u : List ℕ} → Digits1 t a → After p a u → Lang (digit1 p) t u
  l_sign : {t a u : List ℕ} → Sign t a → Digits1 a u → Lang sign t u
  l_after : {p : Part} {t u : List ℕ} → After p t u → Lang (after p) t u
  l_chars : {t u : List ℕ} → Chars t (34 ∷ u) → Lang chars t u
  l_escape : {t u : List ℕ} → Chars (92 ∷ t) (34 ∷ u) → Lang escape t u
  l_hex : {n : ℕ} {t a u : List ℕ} → Hexes (suc n) t a → Chars a (34 ∷ u) → Lang (hex n) t u
  l_tail : {lo hi n b : ℕ} {t a u : List ℕ} → between lo hi b ≡ true → Tails n t a → Chars a (34 ∷ u) → Lang (tail lo hi n) (b ∷ t) u
  l_literal : {cs t u : List ℕ} → Spelt cs t u → Lang (literal cs) t u
  l_member : {d : ℕ} {t a b u : List ℕ} → Ws t a → Member d a b → Members d b u → Lang (member d) t u
  l_colon : {d : ℕ} {t a b u : List ℕ} → Mark 58 t a → Value d a b → Members d b u → Lang (colon d) t u
  l_object : {d : ℕ} {t a u : List ℕ} → Ws t a → Object d a u → Lang (members true d) t u
  l_members : {d : ℕ} {t u : List ℕ} → Members d t u → Lang (members false d) t u
  l_array : {d : ℕ} {t a u : List ℕ} → Ws t a → Array d a u → Lang (entries true d) t u
  l_entries : {d : ℕ} {t u : List ℕ} → Entries d t u → Lang (entries false d) t u

-- the language of a stack
data Fits : List Frame → List ℕ → Type 0 where
  fits_end : {t : List ℕ} → Ws t [] → Fits [] t
  fits : {f : Frame} {k : List Frame} {t u : List ℕ} → Lang f t u → Fits k u → Fits (f ∷ k) t

-- what a byte leads to, with the byte before it, is in the language of the stack
record Sound (b : ℕ) (k : List Frame) (x : Step) : Type 0 where
  gone : (l : List Frame) (bs : List ℕ) → x ≡ go l → Fits l bs → Fits k (b ∷ bs)
  said : (n : Kind) (l : List Frame) (bs : List ℕ) → x ≡ says n l → Fits l bs → Fits k (b ∷ bs)

go_sound : {b : ℕ} {k l : List Frame} → ((bs : List ℕ) → Fits l bs → Fits k (b ∷ bs)) → Sound b k (go l)
go_sound {b} {k} {l} h = record {
  gone = λ m bs e f. let q : m ≡ l = cc in h bs (subst (λ o. Fits o bs) q f);
  said = λ n m bs e f. cc;
}

says_sound : {b : ℕ} {k l : List Frame} {n : Kind} → ((bs : List ℕ) → Fits l bs → Fits k (b ∷ bs)) → Sound b k (says n l)
says_sound {b} {k} {l} h = record {
  gone = λ m bs e f. cc;
  said = λ n m bs e f. let q : m ≡ l = cc in h bs (subst (λ o. Fits o bs) q f);
}

stop_sound : {b : ℕ} {k : List Frame} → Sound b k forbidden
stop_sound = record {
  gone = λ m bs e f. cc;
  said = λ n m bs e f. cc;
}

deep_sound : {b : ℕ} {k : List Frame} → Sound b k too_deep
deep_sound = record {
  gone = λ m bs e f. cc;
  said = λ n m bs e f. cc;
}

both : {b : ℕ} {k : List Frame} (c : Bool) {x y : Step} → (c ≡ true → Sound b k x) → (c ≡ false → Sound b k y) → Sound b k (cond c x y)
both true p q = p refl
both false p q = q refl

eqb_is : (b c : ℕ) → eqb b c ≡ true → c ≡ b
eqb_is b c e = grind (arith, nat_tests)

-- a byte that is known
is : {k : List Frame} {x : Step} (b c : ℕ) → eqb b c ≡ true → Sound c k x → Sound b k x
is {k} {x} b c e p = subst (λ y. Sound y k x) (eqb_is b c e) p

-- what stands in one language stands in another
widen : {b : ℕ} {k l : List Frame} {x : Step} → ((t : List ℕ) → Fits k t → Fits l t) → Sound b k x → Sound b l x
widen {b} h p = record { gone = λ m bs e f. h (b ∷ bs) (p.gone m bs e f); said = λ n m bs e f. h (b ∷ bs) (p.said n m bs e f) }

module _ (k : List Frame) where
  value_white : {d b : ℕ} → white b ≡ true → (bs : List ℕ) → Fits (value d ∷ k) bs → Fits (value d ∷ k) (b ∷ bs)
  value_white e bs (fits (l_value w v) f) = fits (l_value (ws_more e w) v) f

  value_object : (d : ℕ) (bs : List ℕ) → Fits (members true d ∷ k) bs → Fits (value (suc d) ∷ k) (123 ∷ bs)
  value_object d bs (fits (l_object w o) f) = fits (l_value ws_none (is_object (mark ws_none w) o)) f

  value_array : (d : ℕ) (bs : List ℕ) → Fits (entries true d ∷ k) bs → Fits (value (suc d) ∷ k) (91 ∷ bs)
  value_array d bs (fits (l_array w o) f) = fits (l_value ws_none (is_array (mark ws_none w) o)) f

  value_string : (d : ℕ) (bs : List ℕ) → Fits (chars ∷ k) bs → Fits (value d ∷ k) (34 ∷ bs)
  value_string d bs (fits (l_chars c) f) = fits (l_value ws_none (is_string (str c))) f

  value_minus : (d : ℕ) (bs : List ℕ) → Fits (first ∷ k) bs → Fits (value d ∷ k) (45 ∷ bs)
  value_minus d bs (fits (l_first i (after_whole r e)) f) = fits (l_value ws_none (is_number (a_number minus i r e))) f

  value_zero : (d : ℕ) (bs : List ℕ) → Fits (after whole ∷ k) bs → Fits (value d ∷ k) (48 ∷ bs)
  value_zero d bs (fits (l_after (after_whole r e)) f) = fits (l_value ws_none (is_number (a_number minus_none int_zero r e))) f

  value_digit : (d b : ℕ) → between 49 57 b ≡ true → (bs : List ℕ) → Fits (digits whole ∷ k) bs → Fits (value d ∷ k) (b ∷ bs)
  value_digit d b q bs (fits (l_digits ds (after_whole r e)) f) = fits (l_value ws_none (is_number (a_number minus_none (int_more q ds) r e))) f

  value_true : (d : ℕ) (bs : List ℕ) → Fits (literal (114 ∷ 117 ∷ 101 ∷ []) ∷ k) bs → Fits (value d ∷ k) (116 ∷ bs)
  value_true d bs (fits (l_literal (spelt_more (spelt_more (spelt_more spelt_none)))) f) = fits (l_value ws_none is_true) f

  value_false : (d : ℕ) (bs : List ℕ) → Fits (literal (97 ∷ 108 ∷ 115 ∷ 101 ∷ []) ∷ k) bs → Fits (value d ∷ k) (102 ∷ bs)
  value_false d bs (fits (l_literal (spelt_more (spelt_more (spelt_more (spelt_more spelt_none))))) f) = fits (l_value ws_none is_false) f

  value_null : (d : ℕ) (bs : List ℕ) → Fits (literal (117 ∷ 108 ∷ 108 ∷ []) ∷ k) bs → Fits (value d ∷ k) (110 ∷ bs)
  value_null d bs (fits (l_literal (spelt_more (spelt_more (spelt_more spelt_none)))) f) = fits (l_value ws_none is_null) f

  opens_object : (d : ℕ) → Sound 123 (value d ∷ k) (opens d (λ e. says begin_object (members true e ∷ k)))
  opens_object zero = deep_sound
  opens_object (suc d) = says_sound (value_object d)

  opens_array : (d : ℕ) → Sound 91 (value d ∷ k) (opens d (λ e. says begin_array (entries true e ∷ k)))
  opens_array zero = deep_sound
  opens_array (suc d) = says_sound (value_array d)

not_zero : (b : ℕ) → eqb b 48 ≡ false → digit b ≡ true → between 49 57 b ≡ true
not_zero b e q = grind (arith, nat_tests)

begins_sound : (d b : ℕ) (k : List Frame) → Sound b (value d ∷ k) (begins d b k)
begins_sound d b k =
    both (eqb b 123) (λ e. is b 123 e (opens_object k d))
    (λ _. both (eqb b 91) (λ e. is b 91 e (opens_array k d))
    (λ _. both (eqb b 34) (λ e. is b 34 e (says_sound (value_string k d)))
    (λ _. both (eqb b 45) (λ e. is b 45 e (says_sound (value_minus k d)))
    (λ z. both (eqb b 48) (λ e. is b 48 e (says_sound (value_zero k d)))
    (λ n. both (digit b) (λ e. says_sound (value_digit k d b (not_zero b n e)))
    (λ _. both (eqb b 116) (λ e. is b 116 e (says_sound (value_true k d)))
    (λ _. both (eqb b 102) (λ e. is b 102 e (says_sound (value_false k d)))
    (λ _. both (eqb b 110) (λ e. is b 110 e (says_sound (value_null k d))) (λ _. stop_sound)))))))))

module _ (k : List Frame) where
  first_zero : (bs : List ℕ) → Fits (after whole ∷ k) bs → Fits (first ∷ k) (48 ∷ bs)
  first_zero bs (fits (l_after a) f) = fits (l_first int_zero a) f

  first_digit : (b : ℕ) → between 49 57 b ≡ true → (bs : List ℕ) → Fits (digits whole ∷ k) bs → Fits (first ∷ k) (b ∷ bs)
  first_digit b e bs (fits (l_digits ds a) f) = fits (l_first (int_more e ds) a) f

  one_digit : (p : Part) (b : ℕ) → digit b ≡ true → (bs : List ℕ) → Fits (digits p ∷ k) bs → Fits (digits p ∷ k) (b ∷ bs)
  one_digit p b e bs (fits (l_digits ds a) f) = fits (l_digits (digits_more e ds) a) f

  no_digit : (p : Part) (t : List ℕ) → Fits (after p ∷ k) t → Fits (digits p ∷ k) t
  no_digit p t (fits (l_after a) f) = fits (l_digits digits_none a) f

  some_digit : (p : Part) (b : ℕ) → digit b ≡ true → (bs : List ℕ) → Fits (digits p ∷ k) bs → Fits (digit1 p ∷ k) (b ∷ bs)
  some_digit p b e bs (fits (l_digits ds a) f) = fits (l_digit1 (digits1 e ds) a) f

  with_sign : (b : ℕ) → sign_mark b ≡ true → (bs : List ℕ) → Fits (digit1 exponent ∷ k) bs → Fits (sign ∷ k) (b ∷ bs)
  with_sign b e bs (fits (l_digit1 ds after_exponent) f) = fits (l_sign (sign_some e) ds) f

  without_sign : (b : ℕ) → digit b ≡ true → (bs : List ℕ) → Fits (digits exponent ∷ k) bs → Fits (sign ∷ k) (b ∷ bs)
  without_sign b e bs (fits (l_digits ds after_exponent) f) = fits (l_sign sign_none (digits1 e ds)) f

  with_point : (bs : List ℕ) → Fits (digit1 fraction ∷ k) bs → Fits (after whole ∷ k) (46 ∷ bs)
  with_point bs (fits (l_digit1 ds (after_fraction e)) f) = fits (l_after (after_whole (frac ds) e)) f

  whole_exponent : (b : ℕ) → exponent_mark b ≡ true → (bs : List ℕ) → Fits (sign ∷ k) bs → Fits (after whole ∷ k) (b ∷ bs)
  whole_exponent b e bs (fits (l_sign s ds) f) = fits (l_after (after_whole frac_none (exp e s ds))) f

  fraction_exponent : (b : ℕ) → exponent_mark b ≡ true → (bs : List ℕ) → Fits (sign ∷ k) bs → Fits (after fraction ∷ k) (b ∷ bs)
  fraction_exponent b e bs (fits (l_sign s ds) f) = fits (l_after (after_fraction (exp e s ds))) f

  nothing_after : (p : Part) (t : List ℕ) → Fits k t → Fits (after p ∷ k) t
  nothing_after whole t f = fits (l_after (after_whole frac_none exp_none)) f
  nothing_after fraction t f = fits (l_after (after_fraction exp_none)) f
  nothing_after exponent t f = fits (l_after after_exponent) f

  follows_sound : (p : Part) (b : ℕ) {x : Step} → Sound b k x → Sound b (after p ∷ k) (follows p b k x)
  follows_sound whole b s = both (eqb b 46) (λ e. is b 46 e (go_sound with_point)) (λ _. both (exponent_mark b) (λ e. go_sound (whole_exponent b e)) (λ _. widen (nothing_after whole) s))
  follows_sound fraction b s = both (exponent_mark b) (λ e. go_sound (fraction_exponent b e)) (λ _. widen (nothing_after fraction) s)
  follows_sound exponent b s = widen (nothing_after exponent) s

  closing_quote : (bs : List ℕ) → Fits k bs → Fits (chars ∷ k) (34 ∷ bs)
  closing_quote bs f = fits (l_chars chars_none) f

  backslash : (bs : List ℕ) → Fits (escape ∷ k) bs → Fits (chars ∷ k) (92 ∷ bs)
  backslash bs (fits (l_escape c) f) = fits (l_chars c) f

  plain_char : (b : ℕ) → (between 32 33 b || between 35 91 b || between 93 127 b) ≡ true → (bs : List ℕ) → Fits (chars ∷ k) bs → Fits (chars ∷ k) (b ∷ bs)
  plain_char b e bs (fits (l_chars c) f) = fits (l_chars (chars_more (ascii e) c)) f

  short_escape_lem : (b : ℕ) → short_escape b ≡ true → (bs : List ℕ) → Fits (chars ∷ k) bs → Fits (escape ∷ k) (b ∷ bs)
  short_escape_lem b e bs (fits (l_chars c) f) = fits (l_escape (chars_more (escaped e) c)) f

  hex_escape : (bs : List ℕ) → Fits (hex 3 ∷ k) bs → Fits (escape ∷ k) (117 ∷ bs)
  hex_escape bs (fits (l_hex h c) f) = fits (l_escape (chars_more (escaped_hex h) c)) f

  hex_digit_lem : (n b : ℕ) → hex_digit b ≡ true → (bs : List ℕ) → Fits (hexes n k) bs → Fits (hex n ∷ k) (b ∷ bs)
  hex_digit_lem zero b e bs (fits (l_chars c) f) = fits (l_hex (hexes_more e hexes_none) c) f
  hex_digit_lem (suc n) b e bs (fits (l_hex h c) f) = fits (l_hex (hexes_more e h) c) f

  tail_byte : (lo hi n b : ℕ) → between lo hi b ≡ true → (bs : List ℕ) → Fits (tails n k) bs → Fits (tail lo hi n ∷ k) (b ∷ bs)
  tail_byte lo hi zero b e bs (fits (l_chars c) f) = fits (l_tail e tails_none c) f
  tail_byte lo hi (suc n) b e bs (fits (l_tail h ts c) f) = fits (l_tail e (tails_more h ts) c) f

  lead_2 : (b : ℕ) → between 194 223 b ≡ true → (bs : List ℕ) → Fits (tail 128 191 0 ∷ k) bs → Fits (chars ∷ k) (b ∷ bs)
  lead_2 b e bs (fits (l_tail h ts c) f) = fits (l_chars (chars_more (wide (wide_2 e (tails_more h ts))) c)) f

  lead_e0 : (bs : List ℕ) → Fits (tail 160 191 1 ∷ k) bs → Fits (chars ∷ k) (224 ∷ bs)
  lead_e0 bs (fits (l_tail h ts c) f) = fits (l_chars (chars_more (wide (wide_e0 h ts)) c)) f

  lead_ed : (bs : List ℕ) → Fits (tail 128 159 1 ∷ k) bs → Fits (chars ∷ k) (237 ∷ bs)
  lead_ed bs (fits (l_tail h ts c) f) = fits (l_chars (chars_more (wide (wide_ed h ts)) c)) f

  lead_3 : (b : ℕ) (x : Bool) → leb b 236 ≡ x → eqb b 237 ≡ false → between 225 239 b ≡ true → (bs : List ℕ) → Fits (tail 128 191 1 ∷ k) bs → Fits (chars ∷ k) (b ∷ bs)
  lead_3 b true q n e bs (fits (l_tail h ts c) f) = let r : between 225 236 b ≡ true = grind (arith, nat_tests) in fits (l_chars (chars_more (wide (wide_e1 r (tails_more h ts))) c)) f
  lead_3 b false q n e bs (fits (l_tail h ts c) f) = let r : between 238 239 b ≡ true = grind (arith, nat_tests) in fits (l_chars (chars_more (wide (wide_ee r (tails_more h ts))) c)) f

  lead_f0 : (bs : List ℕ) → Fits (tail 144 191 2 ∷ k) bs → Fits (chars ∷ k) (240 ∷ bs)
  lead_f0 bs (fits (l_tail h ts c) f) = fits (l_chars (chars_more (wide (wide_f0 h ts)) c)) f

  lead_f1 : (b : ℕ) → between 241 243 b ≡ true → (bs : List ℕ) → Fits (tail 128 191 2 ∷ k) bs → Fits (chars ∷ k) (b ∷ bs)
  lead_f1 b e bs (fits (l_tail h ts c) f) = fits (l_chars (chars_more (wide (wide_f1 e (tails_more h ts))) c)) f

  lead_f4 : (bs : List ℕ) → Fits (tail 128 143 2 ∷ k) bs → Fits (chars ∷ k) (244 ∷ bs)
  lead_f4 bs (fits (l_tail h ts c) f) = fits (l_chars (chars_more (wide (wide_f4 h ts)) c)) f

  lead_sound : (b : ℕ) → Sound b (chars ∷ k) (lead b k)
  lead_sound b =
      both (between 194 223 b) (λ e. go_sound (lead_2 b e))
      (λ _. both (eqb b 224) (λ e. is b 224 e (go_sound lead_e0))
      (λ _. both (eqb b 237) (λ e. is b 237 e (go_sound lead_ed))
      (λ n. both (between 225 239 b) (λ e. go_sound (lead_3 b (leb b 236) refl n e))
      (λ _. both (eqb b 240) (λ e. is b 240 e (go_sound lead_f0))
      (λ _. both (between 241 243 b) (λ e. go_sound (lead_f1 b e))
      (λ _. both (eqb b 244) (λ e. is b 244 e (go_sound lead_f4)) (λ _. stop_sound)))))))

  one_letter : (c : ℕ) (cs bs : List ℕ) → Fits (letters cs k) bs → Fits (literal (c ∷ cs) ∷ k) (c ∷ bs)
  one_letter c [] bs f = fits (l_literal (spelt_more spelt_none)) f
  one_letter c (e ∷ es) bs (fits (l_literal s) f) = fits (l_literal (spelt_more s)) f

  member_white : (d b : ℕ) → white b ≡ true → (bs : List ℕ) → Fits (member d ∷ k) bs → Fits (member d ∷ k) (b ∷ bs)
  member_white d b e bs (fits (l_member w m ms) f) = fits (l_member (ws_more e w) m ms) f

  member_name : (d : ℕ) (bs : List ℕ) → Fits (chars ∷ colon d ∷ k) bs → Fits (member d ∷ k) (34 ∷ bs)
  member_name d bs (fits (l_chars c) (fits (l_colon m v ms) f)) = fits (l_member ws_none (a_member (str c) m v) ms) f

  colon_white : (d b : ℕ) → white b ≡ true → (bs : List ℕ) → Fits (colon d ∷ k) bs → Fits (colon d ∷ k) (b ∷ bs)
  colon_white d b e bs (fits (l_colon (mark w x) v ms) f) = fits (l_colon (mark (ws_more e w) x) v ms) f

  colon_value : (d : ℕ) (bs : List ℕ) → Fits (value d ∷ members false d ∷ k) bs → Fits (colon d ∷ k) (58 ∷ bs)
  colon_value d bs (fits (l_value w v) (fits (l_members ms) f)) = fits (l_colon (mark ws_none w) v ms) f

  object_white : (d b : ℕ) → white b ≡ true → (bs : List ℕ) → Fits (members true d ∷ k) bs → Fits (members true d ∷ k) (b ∷ bs)
  object_white d b e bs (fits (l_object w o) f) = fits (l_object (ws_more e w) o) f

  object_empty : (d : ℕ) (bs : List ℕ) → Fits k bs → Fits (members true d ∷ k) (125 ∷ bs)
  object_empty d bs f = fits (l_object ws_none (object_none (mark ws_none ws_none))) f

  object_name : (d : ℕ) (bs : List ℕ) → Fits (chars ∷ colon d ∷ k) bs → Fits (members true d ∷ k) (34 ∷ bs)
  object_name d bs (fits (l_chars c) (fits (l_colon m v ms) f)) = fits (l_object ws_none (object_some (a_member (str c) m v) ms)) f

  members_white : (d b : ℕ) → white b ≡ true → (bs : List ℕ) → Fits (members false d ∷ k) bs → Fits (members false d ∷ k) (b ∷ bs)
  members_white d b e bs (fits (l_members (members_end (mark w x))) f) = fits (l_members (members_end (mark (ws_more e w) x))) f
  members_white d b e bs (fits (l_members (members_more (mark w x) m ms)) f) = fits (l_members (members_more (mark (ws_more e w) x) m ms)) f

  members_over : (d : ℕ) (bs : List ℕ) → Fits k bs → Fits (members false d ∷ k) (125 ∷ bs)
  members_over d bs f = fits (l_members (members_end (mark ws_none ws_none))) f

  members_next : (d : ℕ) (bs : List ℕ) → Fits (member d ∷ k) bs → Fits (members false d ∷ k) (44 ∷ bs)
  members_next d bs (fits (l_member w m ms) f) = fits (l_members (members_more (mark ws_none w) m ms)) f

  array_white : (d b : ℕ) → white b ≡ true → (bs : List ℕ) → Fits (entries true d ∷ k) bs → Fits (entries true d ∷ k) (b ∷ bs)
  array_white d b e bs (fits (l_array w o) f) = fits (l_array (ws_more e w) o) f

  array_empty : (d : ℕ) (bs : List ℕ) → Fits k bs → Fits (entries true d ∷ k) (93 ∷ bs)
  array_empty d bs f = fits (l_array ws_none (array_none (mark ws_none ws_none))) f

  array_first : (d : ℕ) (t : List ℕ) → Fits (value d ∷ entries false d ∷ k) t → Fits (entries true d ∷ k) t
  array_first d t (fits (l_value w v) (fits (l_entries es) f)) = fits (l_array w (array_some v es)) f

  entries_white : (d b : ℕ) → white b ≡ true → (bs : List ℕ) → Fits (entries false d ∷ k) bs → Fits (entries false d ∷ k) (b ∷ bs)
  entries_white d b e bs (fits (l_entries (entries_end (mark w x))) f) = fits (l_entries (entries_end (mark (ws_more e w) x))) f
  entries_white d b e bs (fits (l_entries (entries_more (mark w x) v es)) f) = fits (l_entries (entries_more (mark (ws_more e w) x) v es)) f

  entries_over : (d : ℕ) (bs : List ℕ) → Fits k bs → Fits (entries false d ∷ k) (93 ∷ bs)
  entries_over d bs f = fits (l_entries (entries_end (mark ws_none ws_none))) f

  entries_next : (d : ℕ) (bs : List ℕ) → Fits (value d ∷ entries false d ∷ k) bs → Fits (entries false d ∷ k) (44 ∷ bs)
  entries_next d bs (fits (l_value w v) (fits (l_entries es) f)) = fits (l_entries (entries_more (mark ws_none w) v es)) f

end_white : (b : ℕ) → white b ≡ true → (bs : List ℕ) → Fits [] bs → Fits [] (b ∷ bs)
end_white b e bs (fits_end w) = fits_end (ws_more e w)

is_ascii : (b : ℕ) → eqb b 34 ≡ false → eqb b 92 ≡ false → leb b 31 ≡ false → leb b 127 ≡ true → (between 32 33 b || between 35 91 b || between 93 127 b) ≡ true
is_ascii b p q r s = grind (arith, nat_tests)

step_sound : (k : List Frame) (b : ℕ) → Sound b k (step k b)
unfolding step
step_sound [] b = both (white b) (λ e. go_sound (end_white b e)) (λ _. stop_sound)
step_sound (value d ∷ k) b = both (white b) (λ e. go_sound (value_white k e)) (λ _. begins_sound d b k)
step_sound (first ∷ k) b = both (eqb b 48) (λ e. is b 48 e (go_sound (first_zero k))) (λ n. both (digit b) (λ e. go_sound (first_digit k b (not_zero b n e))) (λ _. stop_sound))
step_sound (digits p ∷ k) b = both (digit b) (λ e. go_sound (one_digit k p b e)) (λ _. widen (no_digit k p) (follows_sound k p b (step_sound k b)))
step_sound (digit1 p ∷ k) b = both (digit b) (λ e. go_sound (some_digit k p b e)) (λ _. stop_sound)
step_sound (sign ∷ k) b = both (sign_mark b) (λ e. go_sound (with_sign k b e)) (λ _. both (digit b) (λ e. go_sound (without_sign k b e)) (λ _. stop_sound))
step_sound (after p ∷ k) b = follows_sound k p b (step_sound k b)
step_sound (chars ∷ k) b =
    both (eqb b 34) (λ e. is b 34 e (go_sound (closing_quote k)))
    (λ p. both (eqb b 92) (λ e. is b 92 e (go_sound (backslash k)))
    (λ q. both (leb b 31) (λ _. stop_sound) (λ r. both (leb b 127) (λ s. go_sound (plain_char k b (is_ascii b p q r s))) (λ _. lead_sound k b))))
step_sound (escape ∷ k) b = both (short_escape b) (λ e. go_sound (short_escape_lem k b e)) (λ _. both (eqb b 117) (λ e. is b 117 e (go_sound (hex_escape k))) (λ _. stop_sound))
step_sound (hex n ∷ k) b = both (hex_digit b) (λ e. go_sound (hex_digit_lem k n b e)) (λ _. stop_sound)
step_sound (tail lo hi n ∷ k) b = both (between lo hi b) (λ e. go_sound (tail_byte k lo hi n b e)) (λ _. stop_sound)
step_sound (literal [] ∷ k) b = stop_sound
step_sound (literal (c ∷ cs) ∷ k) b = both (eqb b c) (λ e. is b c e (go_sound (one_letter k c cs))) (λ _. stop_sound)
step_sound (member d ∷ k) b = both (white b) (λ e. go_sound (member_white k d b e)) (λ _. both (eqb b 34) (λ e. is b 34 e (says_sound (member_name k d))) (λ _. stop_sound))
step_sound (colon d ∷ k) b = both (white b) (λ e. go_sound (colon_white k d b e)) (λ _. both (eqb b 58) (λ e. is b 58 e (go_sound (colon_value k d))) (λ _. stop_sound))
step_sound (members true d ∷ k) b =
    both (white b) (λ e. go_sound (object_white k d b e))
    (λ _. both (eqb b 125) (λ e. is b 125 e (says_sound (object_empty k d))) (λ _. both (eqb b 34) (λ e. is b 34 e (says_sound (object_name k d))) (λ _. stop_sound)))
step_sound (members false d ∷ k) b =
    both (white b) (λ e. go_sound (members_white k d b e))
    (λ _. both (eqb b 125) (λ e. is b 125 e (says_sound (members_over k d))) (λ _. both (eqb b 44) (λ e. is b 44 e (go_sound (members_next k d))) (λ _. stop_sound)))
step_sound (entries true d ∷ k) b =
    both (white b) (λ e. go_sound (array_white k d b e))
    (λ _. both (eqb b 93) (λ e. is b 93 e (says_sound (array_empty k d))) (λ _. widen (array_first k d) (begins_sound d b (entries false d ∷ k))))
step_sound (entries false d ∷ k) b =
    both (white b) (λ e. go_sound (entries_white k d b e))
    (λ _. both (eqb b 93) (λ e. is b 93 e (says_sound (entries_over k d))) (λ _. both (eqb b 44) (λ e. is b 44 e (go_sound (entries_next k d))) (λ _. stop_sound)))

nothing : (p : Part) (t : List ℕ) → After p t t
nothing whole t = after_whole frac_none exp_none
nothing fraction t = after_fraction exp_none
nothing exponent t = after_exponent

-- where the text may end, nothing is left to come
over_fits : (k : List Frame) → over k ≡ true → Fits k []
unfolding over
over_fits [] e = fits_end ws_none
over_fits (value d ∷ k) e = cc
over_fits (first ∷ k) e = cc
over_fits (digits p ∷ k) e = fits (l_digits digits_none (nothing p [])) (over_fits k e)
over_fits (digit1 p ∷ k) e = cc
over_fits (sign ∷ k) e = cc
over_fits (after p ∷ k) e = fits (l_after (nothing p [])) (over_fits k e)
over_fits (chars ∷ k) e = cc
over_fits (escape ∷ k) e = cc
over_fits (hex n ∷ k) e = cc
over_fits (tail lo hi n ∷ k) e = cc
over_fits (literal cs ∷ k) e = cc
over_fits (member d ∷ k) e = cc
over_fits (colon d ∷ k) e = cc
over_fits (members g d ∷ k) e = cc
over_fits (entries g d ∷ k) e = cc

at_end : (s : ℕ) (k : List Frame) (x : Bool) → over k ≡ x → ending (ends k s) ≡ Ok tt → Fits k []
at_end s k true q e = over_fits k q
at_end s k false q e = cc (ap ending (cond-false (over k) good (fault (Forbidden s)) q))

by_step : (b : ℕ) (bs : List ℕ) (s : ℕ) (k : List Frame) → ((l : List Frame) → ending (run bs (suc s) l) ≡ Ok tt → Fits l bs) → (x : Step) → step k b ≡ x → ending (run (b ∷ bs) s k) ≡ Ok tt → Fits k (b ∷ bs)
by_step b bs s k ih (go l) q e = (step_sound k b).gone l bs q (ih l (sym (ap ending (run_go b bs s k l q)) ∙ e))
by_step b bs s k ih (says n l) q e = (step_sound k b).said n l bs q (ih l (sym (ap ending (run_says b bs s n k l q)) ∙ e))
by_step b bs s k ih forbidden q e = cc (ap ending (run_forbidden b bs s k q))
by_step b bs s k ih too_deep q e = cc (ap ending (run_deep b bs s k q))

run_fits : (t : List ℕ) (s : ℕ) (k : List Frame) → ending (run t s k) ≡ Ok tt → Fits k t
unfolding run
run_fits [] s k e = at_end s k (over k) refl e
run_fits (b ∷ bs) s k e = by_step b bs s k (λ l. run_fits bs (suc s) l) (step k b) refl e

fits_text : (d : ℕ) (t : List ℕ) → Fits (value d ∷ []) t → Text d t
fits_text d t (fits (l_value w v) (fits_end x)) = text w v x

-- a text that the machine takes to a good end is a text of the grammar
pub sound : (d s : ℕ) (t : List ℕ) → ending (run t s (value d ∷ [])) ≡ Ok tt → Text d t
sound d s t e = fits_text d t (run_fits t s (value d ∷ []) e)
