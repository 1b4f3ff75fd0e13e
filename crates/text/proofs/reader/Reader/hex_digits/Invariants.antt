use Rattle.std.proofs.Common.{◌-◌}
use Rattle.text.specs.Machine.{hexes}
use Rattle.text.specs.Ahead.{Onward}
use Rattle.text.proofs.reader.Reader.hex_digits.Given as goal

abbrev pub invariant-loop : goal.invariant-loop
invariant-loop l = Onward (λ k. hexes 4 k) (λ k. hexes (4 - l.counter) k) l.initial.self l.self
