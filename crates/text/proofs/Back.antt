-- Words and integers of a canonical text are found again, and a fold over its tape is one over its value.
use Rattle.std.proofs.Common.{◌≡◌, ℕ, zero, suc, ◌+◌, ◌-◌, ◌^◌, ◌<◌, ◌≤◌, Bool, true, false, ◌&&◌, eqb, leb, List, [], ◌∷◌, ◌++◌, length, get_or, take, drop, ℤ, pos, negsuc, Some, None, Err, decimal, sym, refl, ap, ◌∙◌, add-one, arith}
use Rattle.std.specs.Fmt.{signed_decimal}
use Rattle.std.proofs.lemmas.Fmt.{decimal_digit, decimal_nonempty, first_decimal}
use Rattle.std.proofs.lemmas.List.{drop-drop, take_at}
use Rattle.std.proofs.lemmas.Bool.{cond-true, cond-false}
use Rattle.std.proofs.lemmas.Bool.Decides.{nat_tests}
use Rattle.text.specs.declared.fault.TextFault.TheVariants.{Forbidden}
use Rattle.text.specs.declared.string.Mode.TheVariants.{Plain as Unescaped}
use Rattle.text.specs.Machine.{Frame, Kind, Tape, value, literal, good, event, ending, step, over, run, begin_object, end_object, begin_array, end_array, name, string, number}
use Rattle.text.specs.Tree.{events, member_events, entry_events}
use Rattle.text.specs.Parts.{extent, value_length, string_part, number_part}
use Rattle.text.specs.Strings.{units, paired, joined, high, low}
use Rattle.text.specs.Numbers.{decimal as read_on, up_to, negated, positive, integer_of}
use Rattle.text.specs.Canonical.{Plain, Fields, Items, word, integer, object_of, array_of, no_field, a_field, no_item, an_item, written_on, fields_on, items_on, written, past, past_value, past_fields, past_items, placed, placed_fields, placed_items, Letters, Within32, number_ends}
use Rattle.text.specs.ReadsBack.{WordsBack, IntegersBack, Folding, fold_tape, fold_value, fold_fields, fold_items, FoldsBack}
use Rattle.text.proofs.Extents.{extent_run}
use Rattle.text.proofs.Decimal.{magnitude_start, decimal_back}
use Rattle.text.proofs.Written.{Figures, letters_run, integer_run, decimal_figures, written_tape}

past_is : (cs : List ℕ) (i : ℕ) → past cs i ≡ length cs + i
past_is [] i = omega arith
past_is (c ∷ cs) i = past_is cs (suc i) ∙ (omega arith)

-- after a scalar nothing may come
stop_run : (r : List ℕ) (i : ℕ) → ending (run r i (literal [] ∷ [])) ≡ Err (Forbidden i)
unfolding run step over
stop_run [] i = refl
stop_run (b ∷ bs) i = refl

word_run : (cs r : List ℕ) (i d : ℕ) (k : List Frame) → Letters cs → run (34 ∷ (cs ++ 34 ∷ r)) i (value d ∷ k) ≡ event string i (run r (suc (past cs (suc i))) k)
unfolding run step
word_run cs r i d k s = ap (event string i) (letters_run cs (suc i) k (34 ∷ r) s)

word_part : (cs r : List ℕ) → Letters cs → string_part (34 ∷ (cs ++ 34 ∷ r)) ≡ cs
unfolding string_part value_length
word_part cs r s =
    let t = 34 ∷ (cs ++ 34 ∷ r) in
    let e : suc (past cs 1) ≡ 0 + extent t (value 0 ∷ literal [] ∷ []) = extent_run t 0 (suc (past cs 1)) (value 0 ∷ literal [] ∷ []) (ap ending (word_run cs r 0 0 (literal [] ∷ []) s) ∙ stop_run r (suc (past cs 1))) in
    let n : extent t (value 0 ∷ literal [] ∷ []) - 2 ≡ length cs = omega (arith, past_is cs 1) in
    ap (λ m. take m (cs ++ 34 ∷ r)) n ∙ take_at cs (34 ∷ r) _ refl

letter_units : (cs : List ℕ) → Letters cs → units Unescaped cs ≡ cs
unfolding units
letter_units [] s = refl
letter_units (c ∷ cs) s = let n : eqb c 92 ≡ false = let z = s.0 in grind (arith, nat_tests) in rw (n, letter_units cs s.1) refl

join_low : (u : ℕ) (us : List ℕ) → u < 128 → joined u us ≡ u ∷ us
join_low u [] h = refl
join_low u (v ∷ vs) h = cond-false (high u && low v) _ _ (grind (arith, nat_tests))

letter_paired : (cs : List ℕ) → Letters cs → paired cs ≡ cs
unfolding paired
letter_paired [] s = refl
letter_paired (c ∷ cs) s = let n : c < 128 = let z = s.0 in grind (arith, nat_tests) in ap (joined c) (letter_paired cs s.1) ∙ join_low c cs n

pub words_back : WordsBack
words_back cs r s = (word_part cs r s, ap paired (letter_units cs s) ∙ letter_paired cs s)

integer_part : (z : ℤ) (r : List ℕ) → Within32 z → number_ends r ≡ true → number_part (signed_decimal z ++ r) ≡ signed_decimal z
unfolding number_part value_length
integer_part z r h c =
    let t = signed_decimal z ++ r in
    let e : past (signed_decimal z) 0 ≡ 0 + extent t (value 0 ∷ literal [] ∷ []) = extent_run t 0 (past (signed_decimal z) 0) (value 0 ∷ literal [] ∷ []) (ap ending (integer_run z 0 0 (literal [] ∷ []) r h c) ∙ stop_run r (past (signed_decimal z) 0)) in
    let n : extent t (value 0 ∷ literal [] ∷ []) ≡ length (signed_decimal z) = omega (arith, past_is (signed_decimal z) 0) in
    ap (λ m. take m t) n ∙ take_at (signed_decimal z) r _ refl

-- digits without a zero before others are read as their number
positive_back : (ds : List ℕ) (n : ℕ) → Figures ds → 0 < length ds → (get_or ds 0 0 ≡ 48 → 1 < length ds → ⊥) → read_on 0 ds ≡ Some n → n ≤ 2147483647 → integer_of ds ≡ Some (pos n)
positive_back [] n s l z e h = absurd (omega arith)
positive_back (c ∷ cs) n s l z e h =
    let q : eqb c 45 ≡ false = let y = s.0 in grind (arith, nat_tests) in
    cond-false (eqb c 45) _ _ q ∙ ap (λ o. positive (up_to 2147483647 o)) (magnitude_start (c ∷ cs) l z ∙ e) ∙ ap positive (cond-true (leb n 2147483647) (Some n) None (grind (arith, nat_tests)))

negative_back : (ds : List ℕ) (n : ℕ) → 0 < length ds → (get_or ds 0 0 ≡ 48 → 1 < length ds → ⊥) → read_on 0 ds ≡ Some (suc n) → n ≤ 2147483647 → integer_of (45 ∷ ds) ≡ Some (negsuc n)
negative_back ds n l z e h = ap (λ o. negated (up_to 2147483648 o)) (magnitude_start ds l z ∙ e) ∙ ap negated (cond-true (leb (suc n) 2147483648) (Some (suc n)) None (grind (arith, nat_tests)))

no_zero : (n : ℕ) → n < 2 ^ 64 → get_or (decimal n) 0 0 ≡ 48 → 1 < length (decimal n) → ⊥
no_zero zero h e l = let q : length (decimal 0) ≡ 1 = ap length (decimal_digit 0 (omega arith)) in omega arith
no_zero (suc n) h e l = let q = first_decimal (suc n) (omega arith) h in omega arith

integer_back : (z : ℤ) → Within32 z → integer_of (signed_decimal z) ≡ Some z
integer_back (pos n) h = let b : n < 2 ^ 64 = omega arith in positive_back (decimal n) n (decimal_figures n b) (decimal_nonempty n b) (no_zero n b) (decimal_back n b) h
integer_back (negsuc n) h = let b : suc n < 2 ^ 64 = omega arith in negative_back (decimal (suc n)) n (decimal_nonempty (suc n) b) (no_zero (suc n) b) (decimal_back (suc n) b) h

pub integers_back : IntegersBack
integers_back z r h c = (integer_part z r h c, integer_back z h)

-- the text t from i on is r
record From (t : List ℕ) (i : ℕ) (r : List ℕ) : Type 0 where
  is : drop i t ≡ r

next : {t : List ℕ} {i b : ℕ} {r : List ℕ} → From t i (b ∷ r) → From t (suc i) r
next {t} {i} {b} {r} e = record { is = ap (λ x. drop x t) (sym (add-one i)) ∙ sym (drop-drop 1 i t) ∙ ap (drop 1) e.is }

nexts : (n : List ℕ) {t : List ℕ} {i : ℕ} {r : List ℕ} → From t i (n ++ r) → From t (past n i) r
nexts [] e = e
nexts (c ∷ cs) e = nexts cs (next e)

-- a name at i, and its colon
past_name : (n : List ℕ) {t : List ℕ} {i : ℕ} {r : List ℕ} → From t i (34 ∷ (n ++ 34 ∷ 58 ∷ r)) → From t (suc (suc (past n (suc i)))) r
past_name n e = next (next (nexts n (next e)))

mutual
  unfolding written_on fields_on items_on past_value past_fields past_items

  value_from : (v : Plain) (t : List ℕ) (i : ℕ) (r : List ℕ) → From t i (written_on v r) → From t (past_value v i) r
  value_from (word cs) t i r e = next (nexts cs (next e))
  value_from (integer z) t i r e = nexts (signed_decimal z) e
  value_from (object_of fs) t i r e = next (fields_from true fs t (suc i) r (next e))
  value_from (array_of vs) t i r e = next (items_from true vs t (suc i) r (next e))

  fields_from : (f : Bool) (fs : Fields) (t : List ℕ) (i : ℕ) (r : List ℕ) → From t i (fields_on f fs r) → From t (past_fields f fs i) (125 ∷ r)
  fields_from true no_field t i r e = e
  fields_from false no_field t i r e = e
  fields_from true (a_field n v fs) t i r e = fields_from false fs t _ r (value_from v t _ _ (past_name n e))
  fields_from false (a_field n v fs) t i r e = fields_from false fs t _ r (value_from v t _ _ (past_name n (next e)))

  items_from : (f : Bool) (vs : Items) (t : List ℕ) (i : ℕ) (r : List ℕ) → From t i (items_on f vs r) → From t (past_items f vs i) (93 ∷ r)
  items_from true no_item t i r e = e
  items_from false no_item t i r e = e
  items_from true (an_item v vs) t i r e = items_from false vs t _ r (value_from v t i _ e)
  items_from false (an_item v vs) t i r e = items_from false vs t _ r (value_from v t (suc i) _ (next e))

one_event : {S : Type 0} (on : Folding S) (t : List ℕ) (s : S) (x : Kind) (i : ℕ) (a : List ℕ) (u : Tape) → From t i a → fold_tape on t s (event x i u) ≡ fold_tape on t (on a s x i) u
unfolding fold_tape
one_event on t s x i a u h = ap (λ y. fold_tape on t (on y s x i) u) h.is

mutual
  unfolding written_on fields_on items_on past_value past_fields past_items placed placed_fields placed_items events member_events entry_events fold_value fold_fields fold_items

  fold_value_lem : {S : Type 0} (on : Folding S) (v : Plain) (t : List ℕ) (i : ℕ) (r : List ℕ) (s : S) (u : Tape) → From t i (written_on v r) → fold_tape on t s (events (placed v i) u) ≡ fold_tape on t (fold_value on v r i s) u
  fold_value_lem on (word cs) t i r s u e = one_event on t s string i _ u e
  fold_value_lem on (integer z) t i r s u e = one_event on t s number i _ u e
  fold_value_lem on (object_of fs) t i r s u e = let h = next e in one_event on t s begin_object i _ _ e ∙ fold_fields_lem on true fs t (suc i) r _ _ h ∙ one_event on t _ end_object _ _ u (fields_from true fs t (suc i) r h)
  fold_value_lem on (array_of vs) t i r s u e = let h = next e in one_event on t s begin_array i _ _ e ∙ fold_items_lem on true vs t (suc i) r _ _ h ∙ one_event on t _ end_array _ _ u (items_from true vs t (suc i) r h)

  fold_fields_lem : {S : Type 0} (on : Folding S) (f : Bool) (fs : Fields) (t : List ℕ) (i : ℕ) (r : List ℕ) (s : S) (u : Tape) → From t i (fields_on f fs r) → fold_tape on t s (member_events (placed_fields f fs i) u) ≡ fold_tape on t (fold_fields on f fs r i s) u
  fold_fields_lem on true no_field t i r s u e = refl
  fold_fields_lem on false no_field t i r s u e = refl
  fold_fields_lem on true (a_field n v fs) t i r s u e =
      let h = past_name n e in one_event on t s name i _ _ e ∙ fold_value_lem on v t _ _ _ _ h ∙ fold_fields_lem on false fs t _ r _ u (value_from v t _ _ h)
  fold_fields_lem on false (a_field n v fs) t i r s u e =
      let g = next e in let h = past_name n g in one_event on t s name (suc i) _ _ g ∙ fold_value_lem on v t _ _ _ _ h ∙ fold_fields_lem on false fs t _ r _ u (value_from v t _ _ h)

  fold_items_lem : {S : Type 0} (on : Folding S) (f : Bool) (vs : Items) (t : List ℕ) (i : ℕ) (r : List ℕ) (s : S) (u : Tape) → From t i (items_on f vs r) → fold_tape on t s (entry_events (placed_items f vs i) u) ≡ fold_tape on t (fold_items on f vs r i s) u
  fold_items_lem on true no_item t i r s u e = refl
  fold_items_lem on false no_item t i r s u e = refl
  fold_items_lem on true (an_item v vs) t i r s u e = fold_value_lem on v t i _ _ _ e ∙ fold_items_lem on false vs t _ r _ u (value_from v t i _ e)
  fold_items_lem on false (an_item v vs) t i r s u e = let g = next e in fold_value_lem on v t (suc i) _ _ _ g ∙ fold_items_lem on false vs t _ r _ u (value_from v t (suc i) _ g)

pub folds_back : (S : Type 0) → FoldsBack S
unfolding fold_tape
folds_back S on s v g = ap (fold_tape on (written v) s) (written_tape v g) ∙ fold_value_lem on v (written v) 0 [] s good (record { is = refl })
