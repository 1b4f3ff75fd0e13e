-- The place record on going into an object and out again.
use Rattle.std.specs.Prelude.{◌≡◌, ℕ, List, Some, None, Option, drop, replicate, slice_index_or, slice_set}
use Rattle.table.specs.declared.level.Level.{Level}
use Rattle.table.specs.declared.place.Place.{Place}
use Rattle.table.specs.declared.place.Inside.{Inside}
use Rattle.table.specs.Levels.{level_code}

-- outside of every object
abbrev pub outside : Place
outside = record { steps = replicate 7 None }

-- the step of one level is this, all others are as they were
abbrev pub restored : Place → Level → Option ℕ → Place
restored p l step = record { steps = slice_set p.steps (level_code l) step }

-- inside the object with this index
abbrev pub entered : Place → Level → ℕ → Place
entered p l i = restored p l (Some i)

-- what the end of a guard makes of the record: the step of its object is again the one before
abbrev pub leaving : Inside → Place → Place
leaving g p = restored p g.level g.outer

-- the record is inside the object of this level with this index
abbrev pub InsideOf : Place → Level → ℕ → Type 0
InsideOf p l i = slice_index_or p.steps (level_code l) None ≡ Some i

-- the index at each level below the task, the actions first
abbrev pub steps_of : Place → List (Option ℕ)
steps_of p = drop 1 p.steps
