use Rattle.std.proofs.Common.{◌≡◌, ℕ, ◌-◌, true, List, length}
use Rattle.text.specs.Machine.{Frame, go, step}
use Rattle.text.specs.Ahead.{Stack, Onward}
use Rattle.text.proofs.reader.Reader.skip.Given as goal

abbrev pub invariant-loop : goal.invariant-loop
invariant-loop g l = (f : Stack) → ((k : List Frame) (b : ℕ) → goal.F-post g l.test b true → step (f k) b ≡ go (f k)) → Onward f f l.initial.self l.self

abbrev pub decreases-loop : goal.decreases-loop
decreases-loop g l = length l.self.text.now - l.self.at
