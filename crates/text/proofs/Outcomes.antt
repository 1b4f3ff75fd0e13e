-- The grammar says one thing of each text: its faults exclude one another.
use Rattle.std.proofs.Common.{◌≡◌, ◌⊎◌, ℕ, zero, suc, ◌<◌, ◌≤◌, List, [], ◌∷◌, ◌++◌, length, take, Ok, Err, Result, inl, inr, refl, ap, subst, arith}
use Rattle.std.proofs.lemmas.Bool.{cases_lt}
use Rattle.text.specs.declared.fault.TextFault.{TextFault}
use Rattle.text.specs.declared.fault.TextFault.TheVariants.{Forbidden, TooDeep, TooLong}
use Rattle.text.specs.Machine.{outcome}
use Rattle.text.specs.Grammar.{Text}
use Rattle.text.specs.Judged.{ForbiddenAt, TooDeepAt, Judged}
use Rattle.text.specs.Outcomes.{GrammarDecides}
use Rattle.text.specs.Limits.{most_levels}
use Rattle.text.proofs.Judging.{outcome_judged}

-- what begins with the first j bytes begins with the first i of them
shorter : (t u : List ℕ) (i j : ℕ) → i ≤ j → (v : List ℕ) × (take j t ++ u ≡ take i t ++ v)
shorter t u zero j h = (take j t ++ u, refl)
shorter t u (suc i) zero h = absurd (omega arith)
shorter [] u (suc i) (suc j) h = (u, refl)
shorter (b ∷ t) u (suc i) (suc j) h = let r = shorter t u i j (omega arith) in (r.0, ap (λ (z : List ℕ). b ∷ z) r.1)

begins : (t : List ℕ) (i : ℕ) → (v : List ℕ) × (t ≡ take i t ++ v)
begins t zero = (t, refl)
begins [] (suc i) = ([], refl)
begins (b ∷ t) (suc i) = let r = begins t i in (r.0, ap (λ (z : List ℕ). b ∷ z) r.1)

module _ (t : List ℕ) where
  -- some text goes on from the first j bytes, so none of them is forbidden, nor opens a level too many
  no_forbidden : (d i j : ℕ) → ForbiddenAt t i → suc i ≤ j → i < length t → (u : List ℕ) → Text d (take j t ++ u) → ⊥
  no_forbidden d i j f h l u x = let r = shorter t u (suc i) j h in f.byte l d r.0 (subst (Text d) r.1 x)

  no_deeper : (i j : ℕ) → TooDeepAt t i → suc i ≤ j → (u : List ℕ) → Text most_levels (take j t ++ u) → ⊥
  no_deeper i j f h u x = let r = shorter t u (suc i) j h in f.refused r.0 (subst (Text most_levels) r.1 x)

  one_forbidden : (i j : ℕ) → ForbiddenAt t i → ForbiddenAt t j → i ≡ j
  one_forbidden i j f g = by (cases_lt i j) (cases_lt j i)
    where
      by : (i < j) ⊎ (j ≤ i) → (j < i) ⊎ (i ≤ j) → i ≡ j
      by (inl h) s = absurd (let w = g.within in no_forbidden most_levels i j f (omega arith) (omega arith) g.before.0 g.before.1)
      by (inr h) (inl k) = absurd (let w = f.within in no_forbidden most_levels j i g (omega arith) (omega arith) f.before.0 f.before.1)
      by (inr h) (inr k) = omega arith

  one_deep : (i j : ℕ) → TooDeepAt t i → TooDeepAt t j → i ≡ j
  one_deep i j f g = by (cases_lt i j) (cases_lt j i)
    where
      by : (i < j) ⊎ (j ≤ i) → (j < i) ⊎ (i ≤ j) → i ≡ j
      by (inl h) s = absurd (no_deeper i j f (omega arith) g.before.0 g.before.1)
      by (inr h) (inl k) = absurd (no_deeper j i g (omega arith) f.before.0 f.before.1)
      by (inr h) (inr k) = omega arith

  not_both : (i j : ℕ) → ForbiddenAt t i → TooDeepAt t j → ⊥
  not_both i j f g = by (cases_lt j i)
    where
      by : (j < i) ⊎ (i ≤ j) → ⊥
      by (inl h) = no_deeper j i g (omega arith) f.before.0 f.before.1
      by (inr h) = let w = g.within in no_forbidden (suc most_levels) i (suc j) f (omega arith) (omega arith) g.deeper.0 g.deeper.1

  not_deep : (i : ℕ) → TooDeepAt t i → Text most_levels t → ⊥
  not_deep i f x = let r = begins t (suc i) in f.refused r.0 (subst (Text most_levels) r.1 x)

  one : (x y : Result (Unit {0}) TextFault) → Judged t x → Judged t y → x ≡ y
  one (Ok u) (Ok w) p q = refl
  one (Ok u) (Err (Forbidden j)) p q = absurd (q.1.none most_levels p.1)
  one (Ok u) (Err (TooDeep j)) p q = absurd (not_deep j q.1 p.1)
  one (Ok u) (Err TooLong) p q = absurd (let a = p.0 in omega arith)
  one (Err (Forbidden i)) (Ok w) p q = absurd (p.1.none most_levels q.1)
  one (Err (Forbidden i)) (Err (Forbidden j)) p q = ap (λ n. Err (Forbidden n)) (one_forbidden i j p.1 q.1)
  one (Err (Forbidden i)) (Err (TooDeep j)) p q = absurd (not_both i j p.1 q.1)
  one (Err (Forbidden i)) (Err TooLong) p q = absurd (let a = p.0 in omega arith)
  one (Err (TooDeep i)) (Ok w) p q = absurd (not_deep i p.1 q.1)
  one (Err (TooDeep i)) (Err (Forbidden j)) p q = absurd (not_both j i q.1 p.1)
  one (Err (TooDeep i)) (Err (TooDeep j)) p q = ap (λ n. Err (TooDeep n)) (one_deep i j p.1 q.1)
  one (Err (TooDeep i)) (Err TooLong) p q = absurd (let a = p.0 in omega arith)
  one (Err TooLong) (Ok w) p q = absurd (let a = q.0 in omega arith)
  one (Err TooLong) (Err (Forbidden j)) p q = absurd (let a = q.0 in omega arith)
  one (Err TooLong) (Err (TooDeep j)) p q = absurd (let a = q.0 in omega arith)
  one (Err TooLong) (Err TooLong) p q = refl

pub grammar_decides : GrammarDecides
grammar_decides t = record { said = outcome_judged t; only = λ x p. one t x (outcome t) p (outcome_judged t) }
