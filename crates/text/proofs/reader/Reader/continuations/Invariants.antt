use Rattle.std.proofs.Common.{◌-◌}
use Rattle.text.specs.Machine.{tails}
use Rattle.text.specs.Ahead.{Onward}
use Rattle.text.proofs.reader.Reader.continuations.Given as goal

abbrev pub invariant-loop : goal.invariant-loop
invariant-loop l = Onward (λ k. tails l.more k) (λ k. tails (l.more - l.counter) k) l.initial.self l.self
