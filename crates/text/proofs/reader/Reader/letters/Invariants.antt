use Rattle.std.proofs.Common.{◌≡◌, ◌+◌, drop}
use Rattle.text.specs.Machine.{letters}
use Rattle.text.specs.Ahead.{Onward}
use Rattle.text.proofs.reader.Reader.letters.Given as goal

abbrev pub invariant-loop-c : goal.invariant-loop-c
invariant-loop-c l = Onward (λ k. letters l.rest k) (λ k. letters (drop l.c-index l.rest) k) l.initial.self l.self × (l.self.at ≡ l.initial.self.at + l.c-index)
