-- From an object to the entries of its array the level goes down by one, and each turn of a loop passes a byte.
use Rattle.std.proofs.Common.{◌≡◌, ℕ, ◌+◌, ◌-◌, ◌*◌, ◌≤◌, true, eqb, List, ◌∷◌, length}
use Rattle.text.specs.Machine.{members, entries}
use Rattle.table.specs.declared.draft.Draft.{Draft}
use Rattle.table.specs.Levels.{level_code}
use Rattle.table.specs.Works.{PartsRead, at_members, at_entries}
use Rattle.table.proofs.read.Reading.+reading.Given as goal

abbrev pub decreases-array : goal.decreases-array
decreases-array l = 6 * (6 - level_code l.part) + 5

abbrev pub decreases-entries : goal.decreases-entries
decreases-entries l = 6 * (6 - level_code l.part) + 4

abbrev pub decreases-entry : goal.decreases-entry
decreases-entry l = 6 * (6 - level_code l.level) + 3

abbrev pub decreases-object : goal.decreases-object
decreases-object l = 6 * (6 - level_code l.draft.level) + 2

abbrev pub decreases-members : goal.decreases-members
decreases-members l = 6 * (6 - level_code l.draft.level) + 1

abbrev pub decreases-member : goal.decreases-member
decreases-member l = 6 * (6 - level_code l.draft.now.level)

abbrev pub invariant-entries-loop-self : goal.invariant-entries-loop-self
invariant-entries-loop-self l = record {
  place : l.place ≡ l.initial.place;
  bound : l.index ≤ 37;
  reads : (t : List ℕ) (h : Draft) → l.initial.self.reader.text.now ≡ t → PartsRead t (λ k. entries true l.levels ∷ k) (λ k. entries (eqb l.index 0) l.levels ∷ k) (at_entries l.part 0 h) (at_entries l.part l.index h) l.initial.self l.self;
}

abbrev pub decreases-entries-loop-self : goal.decreases-entries-loop-self
decreases-entries-loop-self l = length l.self.reader.text.now - l.self.reader.at

abbrev pub invariant-members-loop-name : goal.invariant-members-loop-name
invariant-members-loop-name l = record {
  place : l.place ≡ l.initial.place;
  level : l.draft.level ≡ l.initial.draft.level;
  reads : (t : List ℕ) → l.initial.self.reader.text.now ≡ t → PartsRead t (λ k. members true l.levels ∷ k) (λ k. members l.first l.levels ∷ k) (at_members l.initial.draft) (at_members l.draft) l.initial.self l.self;
}

abbrev pub decreases-members-loop-name : goal.decreases-members-loop-name
decreases-members-loop-name l = length l.self.reader.text.now - l.self.reader.at
