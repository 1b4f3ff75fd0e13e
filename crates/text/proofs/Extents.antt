-- Where a scalar ends, told by the machine.
use Rattle.std.proofs.Common.{◌≡◌, ℕ, suc, ◌+◌, ◌<◌, Bool, true, false, List, [], ◌∷◌, length, drop, Err, sym, refl, ap, ◌∙◌, ⊎_elim, arith, drop-cons}
use Rattle.std.proofs.lemmas.Bool.{cases_lt, cond-true, cond-false}
use Rattle.text.specs.declared.reader.Reader.{Reader}
use Rattle.text.specs.declared.fault.TextFault.TheVariants.{Forbidden}
use Rattle.text.specs.Machine.{Kind, Frame, Step, Tape, value, literal, go, says, forbidden, too_deep, good, fault, ending, step, over, ends, run}
use Rattle.text.specs.Parts.{extent, scalar_length, value_length}
use Rattle.text.specs.Ahead.{ahead, here, Inside, Passed, Halted}
use Rattle.text.proofs.Steps.{run_go, run_says, run_forbidden, run_deep, bad_here, bad_end, SameEnding, passed_halted, on}

over_offset : (i j : ℕ) (k : List Frame) (x : Bool) → over k ≡ x → ending (ends k i) ≡ Err (Forbidden j) → j ≡ i + 0
over_offset i j k true q e = cc (ap ending (cond-true (over k) good (fault (Forbidden i)) q))
over_offset i j k false q e = let f = ap ending (cond-false (over k) good (fault (Forbidden i)) q) in let h : j ≡ i = cc in omega arith

by_step : (b : ℕ) (bs : List ℕ) (i j : ℕ) (k : List Frame) → ((l : List Frame) → ending (run bs (suc i) l) ≡ Err (Forbidden j) → j ≡ suc i + extent bs l) → (x : Step) → step k b ≡ x → ending (run (b ∷ bs) i k) ≡ Err (Forbidden j) → j ≡ i + extent (b ∷ bs) k
unfolding extent
by_step b bs i j k ih (go l) q e = let h = ih l (sym (ap ending (run_go b bs i k l q)) ∙ e) in rw (q, extent) (omega arith)
by_step b bs i j k ih (says n l) q e = let h = ih l (sym (ap ending (run_says b bs i n k l q)) ∙ e) in rw (q, extent) (omega arith)
by_step b bs i j k ih forbidden q e = let f = ap ending (run_forbidden b bs i k q) in let h : j ≡ i = cc in rw (q, extent) (omega arith)
by_step b bs i j k ih too_deep q e = cc (ap ending (run_deep b bs i k q))

-- a forbidden byte stands where the text no longer goes on
pub extent_run : (t : List ℕ) (i j : ℕ) (k : List Frame) → ending (run t i k) ≡ Err (Forbidden j) → j ≡ i + extent t k
unfolding run extent
extent_run [] i j k e = over_offset i j k (over k) refl e
extent_run (b ∷ bs) i j k e = by_step b bs i j k (λ l. extent_run bs (suc i) j l) (step k b) refl e

-- nothing may come after a literal's last letter
stop_here : (r : Reader) → Halted (λ k. literal [] ∷ k) r r (Forbidden r.at)
unfolding step over
stop_here r = ⊎_elim (λ h. bad_here h refl (λ k. refl)) (λ h. bad_end h refl (λ k. refl)) (cases_lt r.at (length r.text.now))

-- a value that was read ends where its length tells
pub value_end : (d : ℕ) {a : Tape → Tape} {r s : Reader} → SameEnding a → Passed (λ k. value d ∷ k) (λ k. k) a r s → s.at ≡ r.at + value_length d (drop r.at r.text.now)
unfolding value_length ahead
value_end d {r = r} {s = s} z p = extent_run (drop r.at r.text.now) r.at s.at (value d ∷ literal [] ∷ []) ((passed_halted z (on (λ k. literal [] ∷ k) p) (stop_here s)).found [])

extent_says : (b : ℕ) (bs : List ℕ) (n : Kind) (k l : List Frame) → step k b ≡ says n l → extent (b ∷ bs) k ≡ suc (extent bs l)
unfolding extent
extent_says b bs n k l e = rw (e, extent) refl

-- a scalar that has begun is not empty
pub scalar_some : (r : Reader) (n : Kind) (l : List Frame) → Inside r → step (value 0 ∷ literal [] ∷ []) (here r) ≡ says n l → 0 < scalar_length (drop r.at r.text.now)
unfolding value_length
scalar_some r n l h e = rw (drop-cons r.text.now r.at 0 h, extent_says (here r) (drop (suc r.at) r.text.now) n _ l e) (omega arith)
