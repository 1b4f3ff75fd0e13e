-- A canonical text through the machine, token by token.
use Rattle.std.proofs.Common.{◌≡◌, ℕ, zero, suc, ◌+◌, ◌%◌, ◌^◌, ◌<◌, Bool, true, false, ◌⊎◌, List, [], ◌∷◌, ◌++◌, length, get_or, ℤ, pos, negsuc, decimal, refl, ap, ◌∙◌, inl, inr, arith}
use Rattle.std.specs.Fmt.{signed_decimal}
use Rattle.std.proofs.lemmas.Fmt.{decimal_by_steps, decimal_digit, decimal_nonempty, first_decimal}
use Rattle.std.proofs.lemmas.Bool.{cond-true}
use Rattle.std.proofs.lemmas.Bool.Decides.{nat_tests}
use Rattle.text.specs.Bytes.{between, digit}
use Rattle.text.specs.Machine.{Frame, Part, whole, value, first, digits, after, chars, colon, members, entries, go, says, good, event, ending, step, over, run, tape, begin_object, end_object, begin_array, end_array, name, string, number}
use Rattle.text.specs.Tree.{events, member_events, entry_events}
use Rattle.text.specs.Canonical.{Plain, Fields, Items, word, integer, object_of, array_of, no_field, a_field, no_item, an_item, written_on, fields_on, items_on, written, past, past_value, past_fields, past_items, placed, placed_fields, placed_items, letter, Letters, Within32, Writable, WritableFields, WritableItems, number_ends}
use Rattle.text.specs.ReadsBack.{ReadsBack}
use Rattle.text.proofs.Steps.{run_go, run_says, run_like}
use Rattle.text.proofs.Frames.{same_ending}
use Rattle.text.proofs.Complete.{after_ends, digits_other, first_more, value_more, first_byte}
use Rattle.text.proofs.Judging.{short}
use Rattle.text.specs.Limits.{most_levels}

letter_step : (b : ℕ) (k : List Frame) → letter b ≡ true → step (chars ∷ k) b ≡ go (chars ∷ k)
unfolding step
letter_step b k e = grind (arith, nat_tests)

pub letters_run : (cs : List ℕ) (i : ℕ) (k : List Frame) (r : List ℕ) → Letters cs → run (cs ++ r) i (chars ∷ k) ≡ run r (past cs i) (chars ∷ k)
letters_run [] i k r s = refl
letters_run (c ∷ cs) i k r s = run_go c _ i (chars ∷ k) (chars ∷ k) (letter_step c k s.0) ∙ letters_run cs (suc i) k r s.1

-- digits only
abbrev pub Figures : List ℕ → Type 0
Figures [] = Unit {0}
Figures (c ∷ cs) = (digit c ≡ true) × Figures cs

figures_push : (ds : List ℕ) (d : ℕ) → d < 10 → Figures ds → Figures (ds ++ ((48 + d) ∷ []))
figures_push [] d h s = (grind (arith, nat_tests), tt)
figures_push (c ∷ cs) d h s = (s.0, figures_push cs d h s.1)

pub decimal_figures : (n : ℕ) → n < 2 ^ 64 → Figures (decimal n)
decimal_figures = decimal_by_steps (λ n ds. Figures ds) (λ n h. (grind (arith, nat_tests), tt)) (λ n ds h e. figures_push ds (n % 10) (omega arith) e)

digits_step : (b : ℕ) (p : Part) (k : List Frame) → digit b ≡ true → step (digits p ∷ k) b ≡ go (digits p ∷ k)
unfolding step
digits_step b p k e = cond-true (digit b) _ _ e

figures_run : (cs : List ℕ) (i : ℕ) (k : List Frame) (r : List ℕ) → Figures cs → run (cs ++ r) i (digits whole ∷ k) ≡ run r (past cs i) (digits whole ∷ k)
figures_run [] i k r s = refl
figures_run (c ∷ cs) i k r s = run_go c _ i _ _ (digits_step c whole k s.0) ∙ figures_run cs (suc i) k r s.1

-- a number is over
after_run : (r : List ℕ) (i : ℕ) (k : List Frame) → number_ends r ≡ true → run r i (after whole ∷ k) ≡ run r i k
unfolding run over
after_run [] i k e = refl
after_run (b ∷ bs) i k e = run_like b bs i _ _ (after_ends k whole b e)

digits_run : (r : List ℕ) (i : ℕ) (k : List Frame) → number_ends r ≡ true → run r i (digits whole ∷ k) ≡ run r i k
unfolding run over
digits_run [] i k e = refl
digits_run (b ∷ bs) i k e = run_like b bs i _ _ (digits_other k whole b (grind (arith, nat_tests)) ∙ after_ends k whole b e)

value_zero : (d : ℕ) (k : List Frame) → step (value d ∷ k) 48 ≡ says number (after whole ∷ k)
unfolding step
value_zero d k = refl

value_minus : (d : ℕ) (k : List Frame) → step (value d ∷ k) 45 ≡ says number (first ∷ k)
unfolding step
value_minus d k = refl

-- digits of which the first is not 0
nonzero_run : (ds : List ℕ) (d i : ℕ) (k : List Frame) (r : List ℕ) → Figures ds → 48 < get_or ds 0 0 → 0 < length ds → number_ends r ≡ true → run (ds ++ r) i (value d ∷ k) ≡ event number i (run r (past ds i) k)
nonzero_run [] d i k r s h l e = absurd (omega arith)
nonzero_run (c ∷ cs) d i k r s h l e =
    let q : between 49 57 c ≡ true = let z = s.0 in grind (arith, nat_tests) in
    run_says c _ i number _ _ (value_more k d c q) ∙ ap (event number i) (figures_run cs (suc i) k r s.1 ∙ digits_run r _ k e)

nonzero_first : (ds : List ℕ) (i : ℕ) (k : List Frame) (r : List ℕ) → Figures ds → 48 < get_or ds 0 0 → 0 < length ds → number_ends r ≡ true → run (ds ++ r) i (first ∷ k) ≡ run r (past ds i) k
nonzero_first [] i k r s h l e = absurd (omega arith)
nonzero_first (c ∷ cs) i k r s h l e =
    let q : between 49 57 c ≡ true = let z = s.0 in grind (arith, nat_tests) in
    run_go c _ i _ _ (first_more k c q) ∙ figures_run cs (suc i) k r s.1 ∙ digits_run r _ k e

pub integer_run : (z : ℤ) (d i : ℕ) (k : List Frame) (r : List ℕ) → Within32 z → number_ends r ≡ true → run (signed_decimal z ++ r) i (value d ∷ k) ≡ event number i (run r (past (signed_decimal z) i) k)
integer_run (pos zero) d i k r h e = let q : decimal 0 ≡ 48 ∷ [] = decimal_digit 0 (omega arith) in rw q (run_says 48 r i number _ _ (value_zero d k) ∙ ap (event number i) (after_run r (suc i) k e))
integer_run (pos (suc n)) d i k r h e = nonzero_run (decimal (suc n)) d i k r (decimal_figures (suc n) (omega arith)) (first_decimal (suc n) (omega arith) (omega arith)) (decimal_nonempty (suc n) (omega arith)) e
integer_run (negsuc n) d i k r h e = run_says 45 (decimal (suc n) ++ r) i number _ _ (value_minus d k) ∙ ap (event number i) (nonzero_first (decimal (suc n)) (suc i) k r (decimal_figures (suc n) (omega arith)) (first_decimal (suc n) (omega arith) (omega arith)) (decimal_nonempty (suc n) (omega arith)) e)

-- an integer's first byte is no white space and no bracket
plain_first : (b d : ℕ) (k : List Frame) → (b ≡ 45) ⊎ (digit b ≡ true) → step (entries true d ∷ k) b ≡ step (value d ∷ entries false d ∷ k) b
plain_first b d k (inl e) = first_byte d k b (rw e refl) (rw e refl)
plain_first b d k (inr e) = first_byte d k b (grind (arith, nat_tests)) (grind (arith, nat_tests))

first_figure : (ds : List ℕ) (d i : ℕ) (k : List Frame) (r : List ℕ) → Figures ds → 0 < length ds → run (ds ++ r) i (entries true d ∷ k) ≡ run (ds ++ r) i (value d ∷ entries false d ∷ k)
first_figure [] d i k r s l = absurd (omega arith)
first_figure (c ∷ cs) d i k r s l = run_like c _ i _ _ (plain_first c d k (inr s.0))

-- the first entry of an array
first_item : (v : Plain) (d e i : ℕ) (k : List Frame) (r : List ℕ) → Writable e v → run (written_on v r) i (entries true d ∷ k) ≡ run (written_on v r) i (value d ∷ entries false d ∷ k)
unfolding written_on step Writable
first_item (word cs) d e i k r s = run_like _ _ i _ _ refl
first_item (integer (pos n)) d e i k r s = first_figure (decimal n) d i k r (decimal_figures n (omega arith)) (decimal_nonempty n (omega arith))
first_item (integer (negsuc n)) d e i k r s = run_like 45 _ i _ _ (plain_first 45 d k (inl refl))
first_item (object_of fs) d e i k r s = run_like _ _ i _ _ refl
first_item (array_of vs) d e i k r s = run_like _ _ i _ _ refl

fields_end : (fs : Fields) (r : List ℕ) → number_ends (fields_on false fs r) ≡ true
unfolding fields_on
fields_end no_field r = refl
fields_end (a_field n v fs) r = refl

items_end : (vs : Items) (r : List ℕ) → number_ends (items_on false vs r) ≡ true
unfolding items_on
items_end no_item r = refl
items_end (an_item v vs) r = refl

mutual
  unfolding run step written_on fields_on items_on past_value past_fields past_items placed placed_fields placed_items events member_events entry_events Writable WritableFields WritableItems

  pub value_run : (v : Plain) (d i : ℕ) (k : List Frame) (r : List ℕ) → Writable d v → number_ends r ≡ true → run (written_on v r) i (value d ∷ k) ≡ events (placed v i) (run r (past_value v i) k)
  value_run (word cs) d i k r s c = ap (event string i) (letters_run cs (suc i) k (34 ∷ r) s)
  value_run (integer z) d i k r s c = integer_run z d i k r s c
  value_run (object_of fs) zero i k r s c = absurd s
  value_run (object_of fs) (suc d) i k r s c = ap (event begin_object i) (fields_run true fs d (suc i) k r s)
  value_run (array_of vs) zero i k r s c = absurd s
  value_run (array_of vs) (suc d) i k r s c = ap (event begin_array i) (items_run true vs d (suc i) k r s)

  fields_run : (f : Bool) (fs : Fields) (d i : ℕ) (k : List Frame) (r : List ℕ) → WritableFields d fs → run (fields_on f fs r) i (members f d ∷ k) ≡ member_events (placed_fields f fs i) (event end_object (past_fields f fs i) (run r (suc (past_fields f fs i)) k))
  fields_run true no_field d i k r s = refl
  fields_run false no_field d i k r s = refl
  fields_run true (a_field n v fs) d i k r s = ap (event name i) (letters_run n (suc i) (colon d ∷ k) _ s.0 ∙ value_run v d _ (members false d ∷ k) _ s.1 (fields_end fs r) ∙ ap (events (placed v _)) (fields_run false fs d _ k r s.2))
  fields_run false (a_field n v fs) d i k r s = ap (event name (suc i)) (letters_run n (suc (suc i)) (colon d ∷ k) _ s.0 ∙ value_run v d _ (members false d ∷ k) _ s.1 (fields_end fs r) ∙ ap (events (placed v _)) (fields_run false fs d _ k r s.2))

  items_run : (f : Bool) (vs : Items) (d i : ℕ) (k : List Frame) (r : List ℕ) → WritableItems d vs → run (items_on f vs r) i (entries f d ∷ k) ≡ entry_events (placed_items f vs i) (event end_array (past_items f vs i) (run r (suc (past_items f vs i)) k))
  items_run true no_item d i k r s = refl
  items_run false no_item d i k r s = refl
  items_run true (an_item v vs) d i k r s = first_item v d d i k _ s.0 ∙ value_run v d i (entries false d ∷ k) _ s.0 (items_end vs r) ∙ ap (events (placed v i)) (items_run false vs d _ k r s.1)
  items_run false (an_item v vs) d i k r s = value_run v d (suc i) (entries false d ∷ k) _ s.0 (items_end vs r) ∙ ap (events (placed v (suc i))) (items_run false vs d _ k r s.1)

pub written_tape : (v : Plain) → Writable most_levels v → tape (written v) ≡ events (placed v 0) good
unfolding tape over run
written_tape v s = value_run v most_levels 0 [] [] s refl

pub reads_back : ReadsBack
reads_back v s = (λ h. short (written v) h ∙ ap ending (written_tape v s) ∙ same_ending (placed v 0) good, written_tape v s)
