-- Digits read in base ten.
use Rattle.std.proofs.Common.{◌≡◌, ℕ, ◌+◌, ◌-◌, ◌*◌, ◌/◌, ◌%◌, ◌^◌, ◌<◌, Bool, true, false, eqb, List, [], ◌∷◌, ◌++◌, length, get_or, Some, None, decimal as written_decimal, sym, refl, ap, ◌∙◌, arith}
use Rattle.std.proofs.lemmas.Fmt.{decimal_by_steps}
use Rattle.std.proofs.lemmas.Bool.{cond-false}
use Rattle.std.proofs.lemmas.Bool.Decides.{nat_tests}
use Rattle.text.specs.Bytes.{digit}
use Rattle.text.specs.Numbers.{decimal, magnitude}

pub decimal_digit : (n b : ℕ) (bs : List ℕ) → digit b ≡ true → decimal n (b ∷ bs) ≡ decimal (n * 10 + (b - 48)) bs
unfolding decimal
decimal_digit n b bs e = rw (e, decimal) refl

pub decimal_other : (n b : ℕ) (bs : List ℕ) → digit b ≡ false → decimal n (b ∷ bs) ≡ None
unfolding decimal
decimal_other n b bs e = rw (e, decimal) refl

decimal_end : (m : ℕ) → decimal m [] ≡ Some m
unfolding decimal
decimal_end m = refl

-- without a zero before others
pub magnitude_start : (xs : List ℕ) → 0 < length xs → (get_or xs 0 0 ≡ 48 → 1 < length xs → ⊥) → magnitude xs ≡ decimal 0 xs
magnitude_start [] h z = absurd (omega arith)
magnitude_start (b ∷ []) h z = refl
magnitude_start (b ∷ c ∷ cs) h z = let n : (b ≡ 48 → ⊥) = λ e. z e (omega arith) in cond-false (eqb b 48) _ _ (grind (arith, nat_tests, n))

push_by : (w : Bool) (b : ℕ) (bs cs : List ℕ) (m n k : ℕ) → digit b ≡ w → ((m : ℕ) → decimal m bs ≡ Some n → decimal m cs ≡ Some k) → decimal m (b ∷ bs) ≡ Some n → decimal m (b ∷ cs) ≡ Some k
push_by true b bs cs m n k p h e = decimal_digit m b cs p ∙ h _ (sym (decimal_digit m b bs p) ∙ e)
push_by false b bs cs m n k p h e = let q : None ≡ Some n = sym (decimal_other m b bs p) ∙ e in cc

-- one digit more at the end
decimal_push : (bs : List ℕ) (m n d : ℕ) → d < 10 → decimal m bs ≡ Some n → decimal m (bs ++ (48 + d) ∷ []) ≡ Some (n * 10 + d)
decimal_push [] m n d h e = decimal_digit m (48 + d) [] (grind (arith, nat_tests)) ∙ decimal_end _ ∙ ap Some (let z = decimal_end m in let q : m ≡ n = cc in omega arith)
decimal_push (b ∷ bs) m n d h e = push_by (digit b) b bs _ m n _ refl (λ l. decimal_push bs l n d h) e

decimal_one : (d : ℕ) → d < 10 → decimal 0 ((48 + d) ∷ []) ≡ Some d
decimal_one d h = decimal_digit 0 (48 + d) [] (grind (arith, nat_tests)) ∙ decimal_end _ ∙ ap Some (omega arith)

-- the digits of a number are read as the number
pub decimal_back : (n : ℕ) → n < 2 ^ 64 → decimal 0 (written_decimal n) ≡ Some n
decimal_back = decimal_by_steps (λ n ds. decimal 0 ds ≡ Some n) decimal_one (λ n ds h e. decimal_push ds 0 (n / 10) (n % 10) (omega arith) e ∙ ap Some (omega arith))
