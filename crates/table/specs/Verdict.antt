-- What a text says: the task's records, or the fault that comes first.
use Rattle.std.specs.Prelude.{◌≡◌, ℕ, ◌≤◌, min, Bool, true, false, List, length, take, Ok, Err, Result, nat_le}
use Rattle.text.specs.declared.fault.TextFault.{TextFault}
use Rattle.text.specs.Machine.{tape, outcome}
use Rattle.table.specs.declared.record.Record.{Record}
use Rattle.table.specs.declared.fault.TableFault.{TableFault}
use Rattle.table.specs.declared.fault.TableFault.TheVariants.{Text, Form, TooHeavy}
use Rattle.table.specs.Limits.{max_weight}
use Rattle.table.specs.Task.{ActionObject}
use Rattle.table.specs.Views.{actions_in}
use Rattle.table.specs.Form.{Lot, State, begins, inside, failed, done, astray, after}

-- the form of a text: its task, or the first rule of form that it breaks
unfoldable pub form : List ℕ → State
form t = after t begins (tape t)

-- a task that is not too heavy for a table with room for so many records
abbrev pub weighed : Bool → Lot → Result (List Record) TableFault
weighed true o = Ok o.records
weighed false o = Err TooHeavy

-- what the state at the end of a text comes to; a text without faults ends with a broken rule or with a whole task
abbrev pub formed : ℕ → State → Result (List Record) TableFault
formed room begins = Err TooHeavy
formed room (inside ps) = Err TooHeavy
formed room (failed rule i) = Err (Form rule i)
formed room (done o) = weighed (nat_le o.weight (min max_weight room)) o
formed room astray = Err TooHeavy

-- a fault of the text comes before one of its form
abbrev pub judged : Result (Unit {0}) TextFault → ℕ → State → Result (List Record) TableFault
judged (Err e) room s = Err (Text e)
judged (Ok x) room s = formed room s

-- the records of the task that a text writes, or the fault by which it is refused
unfoldable pub verdict : List ℕ → ℕ → Result (List Record) TableFault
verdict t room = judged (outcome t) room (form t)

-- the first n records of the table are those of the task, or the text is refused by the fault
abbrev pub ReadsTask : List ℕ → List Record → Result ℕ TableFault → Type 0
ReadsTask t table (Ok n) = (n ≤ length table) × (verdict t (length table) ≡ Ok (take n table))
ReadsTask t table (Err e) = verdict t (length table) ≡ Err e

-- the objects that records stand for
abbrev pub objects : Result (List Record) TableFault → Result (List ActionObject) TableFault
objects (Ok rs) = Ok (actions_in rs)
objects (Err e) = Err e

-- the task that a text writes, or the fault by which it is refused
abbrev pub task : List ℕ → ℕ → Result (List ActionObject) TableFault
task t room = objects (verdict t room)

-- the first n records of the table stand for the task, or the text is refused by the fault
abbrev pub HoldsTask : List ℕ → List Record → Result ℕ TableFault → Type 0
HoldsTask t table (Ok n) = task t (length table) ≡ Ok (actions_in (take n table))
HoldsTask t table (Err e) = task t (length table) ≡ Err e
