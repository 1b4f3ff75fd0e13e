-- A string without a backslash stands for its bytes.
use Rattle.std.proofs.Common.{◌≡◌, ℕ, suc, ◌<◌, Bool, true, false, ◌||◌, ◌&&◌, eqb, List, [], ◌∷◌, get_or, refl, ap, arith}
use Rattle.std.specs.List.{list_any}
use Rattle.std.proofs.lemmas.Bool.Decides.{nat_tests}
use Rattle.std.proofs.lemmas.Bool.{cond-false}
use Rattle.text.specs.Strings.{units, high, low, joined, paired}
use Rattle.text.specs.declared.string.Mode.TheVariants.{Plain}

neither : (c d : Bool) → (c || d) ≡ false → (c ≡ false) × (d ≡ false)
neither true d e = absurd (let z : ◌≡◌ {A = ℕ} 0 1 = cc in omega arith)
neither false d e = (refl, e)

pub plain_units : (bs : List ℕ) → list_any (λ y. eqb y 92) bs ≡ false → units Plain bs ≡ bs
unfolding units
plain_units [] h = refl
plain_units (b ∷ bs) h = let p = neither (eqb b 92) (list_any (λ y. eqb y 92) bs) h in rw (units, p.0) (ap (λ x. b ∷ x) (plain_units bs p.1))

apart : (u : ℕ) (us : List ℕ) → u < 256 → joined u us ≡ u ∷ us
apart u [] h = refl
apart u (v ∷ vs) h = cond-false (high u && low v) _ _ (grind (arith, nat_tests))

pub plain_paired : (bs : List ℕ) → ((i : ℕ) → get_or bs i 0 < 256) → paired bs ≡ bs
unfolding paired
plain_paired [] h = refl
plain_paired (u ∷ us) h = rw (paired, plain_paired us (λ i. h (suc i))) (apart u us (h 0))
