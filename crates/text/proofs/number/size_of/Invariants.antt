use Rattle.std.proofs.Common.{◌≡◌, ◌<◌, drop}
use Rattle.text.specs.Numbers.{decimal, magnitude}
use Rattle.text.proofs.number.size_of.Given as goal

abbrev pub invariant-loop-i : goal.invariant-loop-i
invariant-loop-i l = (l.i ≡ 0 → l.size ≡ 0) × (0 < l.i → magnitude l.digits ≡ decimal l.size (drop l.i l.digits))
