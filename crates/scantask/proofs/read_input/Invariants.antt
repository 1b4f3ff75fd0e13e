-- each turn that goes on leaves less room
use Rattle.std.proofs.Common.{◌-◌, ◌≤◌, length}
use Rattle.scantask.proofs.read_input.Given as goal

abbrev pub invariant-loop-len : goal.invariant-loop-len
invariant-loop-len l = l.len ≤ length l.room

abbrev pub decreases-loop-len : goal.decreases-loop-len
decreases-loop-len l = length l.room - l.len
