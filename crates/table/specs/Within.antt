-- A task within the limits: no array has more objects than it may have, and every number has 32 bits.
use Rattle.std.specs.Prelude.{◌≡◌, ℕ, ◌≤◌, List, length, take, Ok, Err, Some, None, Option, Result}
use Rattle.std.specs.List.{AllByRecursion}
use Rattle.text.specs.Canonical.{Within32}
use Rattle.names.specs.declared.kinds.Value.{Value}
use Rattle.table.specs.Limits.{max_actions, max_streams, max_sources, max_pixel_formats, max_attributes, max_values}
use Rattle.table.specs.Task.{ValueObject, AttributeObject, FormatObject, SourceObject, StreamObject, ActionObject}
use Rattle.table.specs.Views.{actions_in}
use Rattle.table.specs.declared.record.Record.{Record}
use Rattle.table.specs.declared.fault.TableFault.{TableFault}
use Rattle.table.specs.Verdict.{task}

-- a number, where one is asked for, has 32 bits
abbrev pub In32 : Option Value → Type 0
In32 None = Unit {0}
In32 (Some (Value.Word w)) = Unit {0}
In32 (Some (Value.Number n)) = Within32 n

abbrev pub ValueWithin : ValueObject → Type 0
ValueWithin o = In32 o.word.value

abbrev pub AttributeWithin : AttributeObject → Type 0
AttributeWithin o = (length o.parts ≤ max_values) × AllByRecursion ValueWithin o.parts

abbrev pub FormatWithin : FormatObject → Type 0
FormatWithin o = (length o.parts ≤ max_attributes) × AllByRecursion AttributeWithin o.parts

abbrev pub SourceWithin : SourceObject → Type 0
SourceWithin o = (length o.parts ≤ max_pixel_formats) × AllByRecursion FormatWithin o.parts

abbrev pub StreamWithin : StreamObject → Type 0
StreamWithin o = (length o.parts ≤ max_sources) × AllByRecursion SourceWithin o.parts

abbrev pub ActionWithin : ActionObject → Type 0
ActionWithin o = (length o.parts ≤ max_streams) × AllByRecursion StreamWithin o.parts

abbrev pub TaskWithin : List ActionObject → Type 0
TaskWithin acts = (length acts ≤ max_actions) × AllByRecursion ActionWithin acts

-- every task that a text writes is within the limits
abbrev pub TasksWithin : Type 0
TasksWithin = (t : List ℕ) (room : ℕ) (acts : List ActionObject) → task t room ≡ Ok acts → TaskWithin acts

-- the objects of the first n records, where a call read a task into them
abbrev pub ReadsWithin : List Record → Result ℕ TableFault → Type 0
ReadsWithin table (Ok n) = TaskWithin (actions_in (take n table))
ReadsWithin table (Err e) = Unit {0}
