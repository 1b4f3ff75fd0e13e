-- The outcome of a text, said by the grammar.
use Rattle.std.proofs.Common.{◌≡◌, ℕ, zero, suc, ◌+◌, ◌<◌, ◌≤◌, Bool, true, false, leb, List, [], ◌∷◌, ◌++◌, length, take, Ok, Err, Result, sym, refl, ap, ◌∙◌, subst, arith}
use Rattle.std.proofs.lemmas.Bool.{cond-true, cond-false}
use Rattle.std.proofs.lemmas.Bool.Decides.{nat_tests}
use Rattle.text.specs.declared.fault.TextFault.{TextFault}
use Rattle.text.specs.declared.fault.TextFault.TheVariants.{Forbidden, TooDeep, TooLong}
use Rattle.text.specs.Machine.{Frame, value, run, tape, outcome, ending, good, fault, step, over, ends, go, says, forbidden, too_deep, Step}
use Rattle.text.specs.Grammar.{Text}
use Rattle.text.specs.Judged.{ForbiddenAt, TooDeepAt, Judged}
use Rattle.text.proofs.Steps.{run_go, run_says, run_forbidden, run_deep}
use Rattle.text.proofs.Stacks.{w_value, rest_none, up, up_frame, forbidden_from, too_deep_from}
use Rattle.text.proofs.Sound.{sound}
use Rattle.text.proofs.Complete.{complete, more_levels}
use Rattle.text.specs.Limits.{most_bytes, most_levels}

pub short : (t : List ℕ) → length t ≤ most_bytes → outcome t ≡ ending (tape t)
unfolding outcome
short t h = let e : leb (length t) most_bytes ≡ true = grind (arith, nat_tests) in rw (e, outcome) refl

pub long : (t : List ℕ) → most_bytes < length t → outcome t ≡ Err TooLong
unfolding outcome
long t h = let e : leb (length t) most_bytes ≡ false = grind (arith, nat_tests) in rw (e, outcome) refl

-- as many levels above the limit as one likes
above : ℕ → ℕ
above zero = most_levels
above (suc e) = suc (above e)

above_less : (d : ℕ) → d ≤ above d
unfolding above
above_less zero = omega arith
above_less (suc d) = let h = above_less d in omega arith

-- what is forbidden within the limit is forbidden at any number of levels
forbidden_above : (t : List ℕ) (j d : ℕ) → ending (run t 0 (value most_levels ∷ [])) ≡ Err (Forbidden j) → ending (run t 0 (value (above d) ∷ [])) ≡ Err (Forbidden j)
unfolding above up up_frame
forbidden_above t j zero e = e
forbidden_above t j (suc d) e = (forbidden_from t 0 j (value (above d) ∷ []) (w_value rest_none) (forbidden_above t j d e)).higher

not_both : {e : TextFault} {x : Result (Unit {0}) TextFault} → x ≡ Ok tt → x ≡ Err e → ⊥
not_both p q = cc

same_place : {n i j : ℕ} → n ≡ 0 + i → n ≡ 0 + j → i ≡ j
same_place p q = omega arith

no_text : (t : List ℕ) (j d : ℕ) → ending (run t 0 (value most_levels ∷ [])) ≡ Err (Forbidden j) → Text d t → ⊥
no_text t j d e x = not_both (complete (more_levels x (above d) (above_less d)) 0) (forbidden_above t j d e)

no_longer : (t u : List ℕ) (i j d : ℕ) → j ≡ 0 + i → i < length t → ending (run t 0 (value most_levels ∷ [])) ≡ Err (Forbidden j) → Text d (take (suc i) t ++ u) → ⊥
no_longer t u i j d q h e x =
    let b = forbidden_from t 0 j (value (above d) ∷ []) (w_value rest_none) (forbidden_above t j d e) in
    let r : b.i ≡ i = same_place b.at q in
    not_both (complete (more_levels x (above d) (above_less d)) 0) (rw r at (b.dead (rw r h) u))

pub forbidden_at : (t : List ℕ) (j : ℕ) → ending (run t 0 (value most_levels ∷ [])) ≡ Err (Forbidden j) → ForbiddenAt t j
forbidden_at t j e =
    let b = forbidden_from t 0 j (value most_levels ∷ []) (w_value rest_none) e in
    let r : j ≡ b.i = omega (arith, b.at) in
    rw r (record {
      within = b.within;
      before = (b.u, sound most_levels 0 _ b.live);
      byte = λ h d u x. no_longer t u b.i j d b.at h e x;
      none = λ d x. no_text t j d e x;
    })

pub too_deep_at : (t : List ℕ) (j : ℕ) → ending (run t 0 (value most_levels ∷ [])) ≡ Err (TooDeep j) → TooDeepAt t j
unfolding up up_frame
too_deep_at t j e =
    let b = too_deep_from t 0 j (value most_levels ∷ []) (w_value rest_none) e in
    let r : j ≡ b.i = omega (arith, b.at) in
    rw r (record {
      within = b.within;
      before = (b.u, sound most_levels 0 _ b.live);
      deeper = (b.v, sound (suc most_levels) 0 _ b.higher);
      refused = λ u x. not_both (complete x 0) (b.dead u);
    })

-- a run never finds a text too long
long_end : (s : ℕ) (k : List Frame) (x : Bool) → over k ≡ x → ending (ends k s) ≡ Err TooLong → ⊥
long_end s k true q e = cc (ap ending (cond-true (over k) good (fault (Forbidden s)) q))
long_end s k false q e = cc (ap ending (cond-false (over k) good (fault (Forbidden s)) q))

long_step : (b : ℕ) (bs : List ℕ) (s : ℕ) (k : List Frame) → ((l : List Frame) → ending (run bs (suc s) l) ≡ Err TooLong → ⊥) → (x : Step) → step k b ≡ x → ending (run (b ∷ bs) s k) ≡ Err TooLong → ⊥
long_step b bs s k ih (go l) q e = ih l (sym (ap ending (run_go b bs s k l q)) ∙ e)
long_step b bs s k ih (says n l) q e = ih l (sym (ap ending (run_says b bs s n k l q)) ∙ e)
long_step b bs s k ih forbidden q e = cc (ap ending (run_forbidden b bs s k q))
long_step b bs s k ih too_deep q e = cc (ap ending (run_deep b bs s k q))

never_long : (t : List ℕ) (s : ℕ) (k : List Frame) → ending (run t s k) ≡ Err TooLong → ⊥
unfolding run
never_long [] s k e = long_end s k (over k) refl e
never_long (b ∷ bs) s k e = long_step b bs s k (λ l. never_long bs (suc s) l) (step k b) refl e

pub judged : (t : List ℕ) (x : Result (Unit {0}) TextFault) → length t ≤ most_bytes → ending (tape t) ≡ x → Judged t x
unfolding tape
judged t (Ok y) h e = (h, sound most_levels 0 t e)
judged t (Err (Forbidden i)) h e = (h, forbidden_at t i e)
judged t (Err (TooDeep i)) h e = (h, too_deep_at t i e)
judged t (Err TooLong) h e = absurd (never_long t 0 (value most_levels ∷ []) e)

by_length : (t : List ℕ) (x : Bool) → leb (length t) most_bytes ≡ x → Judged t (outcome t)
by_length t true q = let h : length t ≤ most_bytes = grind (arith, nat_tests) in rw (short t h) (judged t (ending (tape t)) h refl)
by_length t false q = let h : most_bytes < length t = grind (arith, nat_tests) in rw (long t h) h

-- the outcome is what the grammar says
pub outcome_judged : (t : List ℕ) → Judged t (outcome t)
outcome_judged t = by_length t (leb (length t) most_bytes) refl

pub by_outcome : (t : List ℕ) (x : Result (Unit {0}) TextFault) → x ≡ outcome t → Judged t x
by_outcome t x e = subst (Judged t) (sym e) (outcome_judged t)

-- a text of the grammar within the limits is read
pub text_read : (t : List ℕ) → length t ≤ most_bytes → Text most_levels t → outcome t ≡ Ok tt
unfolding tape
text_read t h x = short t h ∙ complete x 0
