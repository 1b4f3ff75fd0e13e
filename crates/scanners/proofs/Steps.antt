-- A number is reached in whole steps from low exactly where its distance from low is divided by the step.
use Rattle.std.proofs.Common.{◌≡◌, ℕ, ◌*◌, ◌/◌, ◌%◌, eqb, ℤ, pos, ◌+ℤ◌, ◌-ℤ◌, nat_abs, ◌≤ℤ◌, Decides, ap, ◌∙◌, div-add-mod', arith}
use native.Mathlib.Nat.{mul-mod_left}
use lib.Signed.{yes_non_neg, pos-nat_abs}
use Rattle.std.proofs.lemmas.Int.{ints}
use Rattle.std.proofs.lemmas.Bool.{eqb-true, eq-eqb}
use Rattle.scanners.specs.Ranges.{Reached}

pub whole_steps : (low high : ℤ) (step : ℕ) (n : ℤ) → low ≤ℤ n → n ≤ℤ high → Decides (eqb (nat_abs (n -ℤ low) % step) 0) (Reached low high step n)
whole_steps low high step n above below =
    let d : ℕ = nat_abs (n -ℤ low) in
    let up : pos 0 ≤ℤ (n -ℤ low) = omega (arith, ints) in
    let far : pos d ≡ (n -ℤ low) = pos-nat_abs (n -ℤ low) (yes_non_neg up) in (
      λ h.
          let left : d % step ≡ 0 = eqb-true (d % step) 0 h in
          let steps : d ≡ d / step * step = omega (arith, div-add-mod' d step) in
          let from : n ≡ (low +ℤ pos d) = omega (arith, ints) in
          ((d / step, from ∙ ap (λ x. low +ℤ pos x) steps), below),
      λ h.
          let k = h.0.0 in
          let gap : (n -ℤ low) ≡ pos (k * step) = omega (arith, ints, h.0.1) in
          eq-eqb (d % step) 0 (ap (λ z. nat_abs z % step) gap ∙ mul-mod_left k step),
    )
