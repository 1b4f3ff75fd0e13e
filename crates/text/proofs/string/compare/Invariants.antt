use Rattle.std.proofs.Common.{◌≡◌, Bool, drop}
use Rattle.text.specs.Strings.{units, alike, matching, Compares}
use Rattle.text.specs.declared.string.Mode.TheVariants.{Plain}
use Rattle.text.proofs.string.compare.Given as goal

abbrev pub invariant-loop-b : goal.invariant-loop-b
invariant-loop-b g l = (fold : Bool) → Compares (goal.F-post g l.same) (alike fold) → matching fold (units Plain l.raw) l.name ≡ matching fold (units l.mode (drop l.b-index l.raw)) l.letters.rest.now
