use Rattle.std.proofs.Common.{◌≡◌, ◌%◌, eqb, ◌-ℤ◌, nat_abs, ◌≤ℤ◌, Decides, sym, subst, w32, SFits, rules}
use Rattle.std.proofs.lemmas.Int.{to_z-of_z}
use Rattle.scanners.specs.Ranges.{Reached}
use Rattle.scanners.proofs.Steps.{whole_steps}
use Rattle.scanners.proofs.range.Range.has.Goals as goal

pub returns-then-number-self-clause-law : goal.returns-then-number-self-clause-law
returns-then-number-self-clause-law c =
    let x = c.args.self.now in
    let n = c.args.number in
    let low_fits : SFits w32 x.low = search rules in
    let number_fits : SFits w32 n = c.ranges.number in
    let far : c.abs_diff.result ≡ nat_abs (n -ℤ x.low) = simp to_z-of_z at c.abs_diff.ensures in
    let above : x.low ≤ℤ n = search rules in
    let below : n ≤ℤ x.high = search rules in
    subst (λ d. Decides (eqb (d % x.step) 0) (Reached x.low x.high x.step n)) (sym far) (whole_steps x.low x.high x.step n above below)
