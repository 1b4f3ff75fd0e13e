use Rattle.std.proofs.Common.{◌+◌, ◌-◌, ◌*◌, true, ◌∷◌, length}
use Rattle.text.specs.Machine.{members, entries}
use Rattle.text.specs.Tree.{Members, Entries, member_events, entry_events, ProperMembers, ProperEntries}
use Rattle.text.specs.Ahead.{Passed}
use Rattle.text.proofs.reader.Reader.+array_object_value.Given as goal

abbrev pub decreases-array : goal.decreases-array
decreases-array l = 2 * l.levels + 1

abbrev pub decreases-object : goal.decreases-object
decreases-object l = 2 * l.levels + 1

abbrev pub decreases-value : goal.decreases-value
decreases-value l = 2 * l.levels

abbrev pub invariant-array-loop-self : goal.invariant-array-loop-self
invariant-array-loop-self l = (vs : Entries) × Passed (λ k. entries true l.levels ∷ k) (λ k. entries l.first l.levels ∷ k) (entry_events vs) l.initial.self l.self × ProperEntries vs

abbrev pub decreases-array-loop-self : goal.decreases-array-loop-self
decreases-array-loop-self l = length l.self.text.now - l.self.at

abbrev pub invariant-object-loop-self : goal.invariant-object-loop-self
invariant-object-loop-self l = (ms : Members) × Passed (λ k. members true l.levels ∷ k) (λ k. members l.first l.levels ∷ k) (member_events ms) l.initial.self l.self × ProperMembers ms

abbrev pub decreases-object-loop-self : goal.decreases-object-loop-self
decreases-object-loop-self l = length l.self.text.now - l.self.at
