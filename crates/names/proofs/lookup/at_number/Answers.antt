use Rattle.std.proofs.Common.{◌≡◌, ℕ, zero, suc, ◌-◌, ◌<◌, eqb, List, [], ◌∷◌, length, get_or, Some, None, Option, is_some, sym, refl, ap, ◌∙◌, ltb, arith}
use Rattle.std.proofs.lemmas.Bool.{cond-false, ne_eqb}
use Rattle.std.proofs.lemmas.Bool.Decides.{nat_tests}
use Rattle.std.specs.Option.{IfSome, option_copied}
use denote.Ref.{Bor}
use Rattle.names.specs.Numbers.{numbered}
use Rattle.names.proofs.lookup.at_number.Goals as goal

-- the entry with number n + 1 stands at the place n
at_place : {X : Type 0} (xs : List X) (n : ℕ) (d : X) → n < length xs → numbered xs (suc n) ≡ Some (get_or xs n d)
at_place [] n d h = absurd (omega arith)
at_place (x ∷ xs) zero d h = refl
at_place (x ∷ xs) (suc n) d h =
    let far : eqb (suc (suc n)) 1 ≡ _ = ne_eqb (suc (suc n)) 1 (λ e. omega arith) in
    cond-false _ _ _ far ∙ ap (numbered xs) (omega arith) ∙ at_place xs n d (omega arith)

-- no entry has a number beyond the length, and none has 0
beyond : {X : Type 0} (xs : List X) (n : ℕ) → length xs < n → numbered xs n ≡ None
beyond [] n h = refl
beyond (x ∷ xs) n h = let far : eqb n 1 ≡ _ = ne_eqb n 1 (λ e. omega arith) in cond-false _ _ _ far ∙ beyond xs (n - 1) (omega arith)

zeroth : {X : Type 0} (xs : List X) → numbered xs 0 ≡ None
zeroth [] = refl
zeroth (x ∷ xs) = zeroth xs

-- what a look-up at the place n copies is the entry with number n + 1
looked : {X : Type 0} (r : Option (Bor X)) (xs : List X) (n : ℕ) → is_some r ≡ ltb n (length xs) → IfSome r (λ x. x.now ≡ get_or xs n x.now) → option_copied r ≡ numbered xs (suc n)
looked None xs n e h = sym (beyond xs (suc n) (grind (arith, nat_tests)))
looked (Some x) xs n e h = ap Some h ∙ sym (at_place xs n x.now (grind (arith, nat_tests)))

pub returns-in_err-place : goal.returns-in_err-place
returns-in_err-place g c =
    let low : c.args.number < 1 = omega (arith, c.in_err-place.ensures) in
    let none : c.args.number ≡ 0 = omega arith in
    c.from_residual.ensures ∙ sym (ap (numbered c.args.list.now) none ∙ zeroth c.args.list.now)

pub returns : goal.returns
returns g c =
    let is = c.in_ok-place.ensures in
    let next : suc c.in_ok-place.place ≡ c.args.number = omega (arith, is) in
    c.copied.ensures ∙ looked c.get.result c.args.list.now c.in_ok-place.place c.get.ensures.lookup.0 c.get.ensures.lookup.1 ∙ ap (numbered c.args.list.now) next
