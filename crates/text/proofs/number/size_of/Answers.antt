use Rattle.std.proofs.Common.{◌≡◌, ℕ, zero, suc, ◌+◌, ◌-◌, ◌*◌, ◌<◌, ◌≤◌, Bool, true, false, cond, List, [], ◌∷◌, length, get_or, drop, Some, None, sym, refl, ap, ◌∙◌, ⊎_elim, arith, drop-cons}
use Rattle.std.proofs.lemmas.Bool.Decides.{nat_tests}
use Rattle.std.proofs.lemmas.List.{drop_all, drop_more}
use Rattle.std.proofs.lemmas.Bool.{cases_lt}
use Rattle.std.specs.Bool.{then_some}
use Rattle.text.specs.Bytes.{digit}
use Rattle.text.specs.Numbers.{decimal, magnitude, up_to}
use Rattle.text.proofs.Decimal.{decimal_digit, decimal_other, magnitude_start}
use Rattle.text.proofs.number.size_of.Goals as goal

large_by : (m n b : ℕ) (bs : List ℕ) (x : Bool) → digit b ≡ x → up_to m (decimal (n * 10 + (b - 48)) bs) ≡ None → up_to m (decimal n (b ∷ bs)) ≡ None
large_by m n b bs true e h = rw (decimal_digit n b bs e) h
large_by m n b bs false e h = rw (decimal_other n b bs e) refl

-- a number once too large stays too large
large : (m n : ℕ) (bs : List ℕ) → m < n → up_to m (decimal n bs) ≡ None
unfolding decimal
large m n [] h = grind (arith, nat_tests)
large m n (b ∷ bs) h = large_by m n b bs (digit b) refl (large m (n * 10 + (b - 48)) bs (omega arith))

-- what is left at the turn i, whether it is the first or a later one
turn : (xs : List ℕ) (n i : ℕ) → i < length xs → (i ≡ 0 → n ≡ 0) → (0 < i → magnitude xs ≡ decimal n (drop i xs)) → (i ≡ 0 → get_or xs i 0 ≡ 48 → 1 < length xs → ⊥) → magnitude xs ≡ decimal n (drop i xs)
turn xs n zero h a b z = rw (a refl) (magnitude_start xs (omega arith) (z refl))
turn xs n (suc i) h a b z = b (omega arith)

more : (xs : List ℕ) (n i : ℕ) → i < length xs → digit (get_or xs i 0) ≡ true → magnitude xs ≡ decimal n (drop i xs) → magnitude xs ≡ decimal (n * 10 + (get_or xs i 0 - 48)) (drop (i + 1) xs)
more xs n i h d e = e ∙ rw (drop_more xs i 0 h) (decimal_digit n _ _ d)

by_digit : (m n b : ℕ) (bs : List ℕ) (x : Bool) → digit b ≡ x → (digit b ≡ true → m < n * 10 + (b - 48)) → up_to m (decimal n (b ∷ bs)) ≡ None
by_digit m n b bs true e d = rw (decimal_digit n b bs e) (large m _ bs (d e))
by_digit m n b bs false e d = rw (decimal_other n b bs e) refl

-- no digit, or one that makes it too large
over_most : (m : ℕ) (xs : List ℕ) (n i : ℕ) → i < length xs → (digit (get_or xs i 0) ≡ true → m < n * 10 + (get_or xs i 0 - 48)) → magnitude xs ≡ decimal n (drop i xs) → None ≡ up_to m (magnitude xs)
over_most m xs n i h d e = rw (e, drop-cons xs i 0 h) (sym (by_digit m n (get_or xs i 0) (drop (suc i) xs) (digit (get_or xs i 0)) refl d))

done : (n i : ℕ) (xs : List ℕ) → length xs ≤ i → decimal n (drop i xs) ≡ Some n
unfolding decimal
done n i xs h = rw (drop_all i xs h) refl

last : (m : ℕ) (xs : List ℕ) (n i : ℕ) → length xs ≤ i → (length xs ≡ 0 → ⊥) → (0 < i → magnitude xs ≡ decimal n (drop i xs)) → up_to m (Some n) ≡ up_to m (magnitude xs)
last m xs n i h z b = let p : 0 < i = ⊎_elim (λ l. l) (λ l. absurd (z (omega arith))) (cases_lt 0 i) in ap (up_to m) (sym (b p ∙ done n i xs h))

pub returns-in_default : goal.returns-in_default
returns-in_default c = over_most c.args.most _ _ _ c.loop-i-test.true (λ z. grind (arith, nat_tests, z)) (turn _ _ _ c.loop-i-test.true c.loop-i.invariant.0 c.loop-i.invariant.1 (λ _ e _. omega arith))

pub returns-in_default-2 : goal.returns-in_default-2
returns-in_default-2 c = over_most c.args.most _ _ _ c.loop-i-test.true (λ z. grind (arith, nat_tests, z)) (turn _ _ _ c.loop-i-test.true c.loop-i.invariant.0 c.loop-i.invariant.1 (λ _ e _. omega arith))

pub returns-in_default-3 : goal.returns-in_default-3
returns-in_default-3 c = over_most c.args.most _ _ _ c.loop-i-test.true (λ z. grind (arith, nat_tests, z)) (turn _ _ _ c.loop-i-test.true c.loop-i.invariant.0 c.loop-i.invariant.1 (λ f e h. grind (arith, nat_tests)))

pub loop-i-preserved : goal.loop-i-preserved
loop-i-preserved c = (λ e. absurd (omega arith), λ _. rw c.from.ensures (more _ _ _ c.loop-i-test.true (grind (arith, nat_tests)) (turn _ _ _ c.loop-i-test.true c.loop-i.invariant.0 c.loop-i.invariant.1 (λ f e h. grind (arith, nat_tests)))))

some_if : (x : Bool) (n : ℕ) → then_some x n ≡ cond x (Some n) None
some_if true n = refl
some_if false n = refl

pub returns : goal.returns
returns c = c.then_some.ensures ∙ some_if _ _ ∙ last c.args.most c.args.digits.now _ _ c.loop-i-test.false c.if-count-eq0.false c.loop-i.invariant.1
