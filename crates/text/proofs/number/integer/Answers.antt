use Rattle.std.proofs.Common.{◌≡◌, ℕ, ◌-◌, ◌≤◌, leb, eqb, List, [], ◌∷◌, length, get_or, take, drop, ℤ, pos, neg_ℤ, ◌-ℤ◌, FitsSigned, w32, Some, None, Option, MatchOption, sym, ap, ◌∙◌, arith, rules, eq-eqb}
use Rattle.std.proofs.lemmas.Bool.Decides.{nat_tests}
use Rattle.std.proofs.lemmas.Bool.{cond-true}
use Rattle.std.proofs.lemmas.Option.{cond_some}
use Rattle.std.proofs.lemmas.Int.{ints}
use Rattle.std.proofs.lemmas.List.{take_all}
use Rattle.std.specs.Option.{SomeIff}
use Rattle.text.specs.Numbers.{magnitude, up_to, negated, integer_of}
use Rattle.text.proofs.number.integer.Goals as goal

bound : (m : ℕ) (o : Option ℕ) (n : ℕ) → Some n ≡ up_to m o → n ≤ m
bound m None n e = cc
bound m (Some k) n e = let p = cond_some (leb k m) k n (sym e) in let q = p.0 in let r = p.1 in grind (arith, nat_tests)

-- a size that was found is taken from 0, where it is at most m
minus : (m : ℕ) (p o : Option ℕ) (r : Option ℤ) (P : ℕ → Type 0) → o ≡ up_to m p → MatchOption o (r ≡ None) P → ((n : ℕ) → n ≤ m → P n → r ≡ Some (neg_ℤ (pos n))) → r ≡ negated (up_to m p)
minus m p None r P e h f = h ∙ ap negated e
minus m p (Some n) r P e h f = f n (bound m p n e) h ∙ ap negated e

-- after the minus all digits are looked at
minus_way : (xs : List ℕ) (r : Option ℤ) → 1 ≤ length xs → get_or xs 0 0 ≡ 45 → r ≡ negated (up_to 2147483648 (magnitude (take (length xs - 1) (drop 1 xs)))) → r ≡ integer_of xs
minus_way [] r h e q = absurd (omega arith)
minus_way (b ∷ bs) r h e q = q ∙ ap (λ ys. negated (up_to 2147483648 (magnitude ys))) (take_all (length (b ∷ bs) - 1) bs (omega arith)) ∙ sym (cond-true (eqb b 45) _ _ (eq-eqb b 45 e))

taken : (n : ℕ) (r : Option ℤ) → n ≤ 2147483648 → SomeIff r (FitsSigned w32 (pos 0 -ℤ pos n)) (pos 0 -ℤ pos n) → r ≡ Some (neg_ℤ (pos n))
taken n None h p = absurd (p (omega (arith, ints)))
taken n (Some z) h p = ap Some (p.1 ∙ omega (arith, ints))

pub returns-in-45 : goal.returns-in-45
returns-in-45 c = minus_way _ _ c.in-45.len_at_least (search rules) (minus 2147483648 (magnitude (take (length c.args.raw.now - 1) (drop 1 c.args.raw.now))) _ _ _ c.size_of.ensures c.and_then.ensures (λ n h m. taken n _ h (search rules)))
