-- What each call that reads a part of a task does: to the text that is left, to the form, and to the table.
use Rattle.std.specs.Prelude.{◌≡◌, ℕ, ◌+◌, ◌-◌, ◌^◌, ◌<◌, ◌≤◌, min, Bool, true, false, List, ◌∷◌, length, Some, None, Ok, Err, Option, Result, ◌==◌, slice_index_or, slice_set}
use Rattle.text.specs.declared.reader.Reader.{Reader}
use Rattle.text.specs.declared.fault.TextFault.{TextFault}
use Rattle.text.specs.Machine.{Frame, value, members, ending, outcome}
use Rattle.text.specs.Ahead.{ahead, Stack}
use Rattle.table.specs.declared.level.Level.{Level}
use Rattle.table.specs.declared.keys.Key.{Key}
use Rattle.table.specs.declared.record.Record.{Record}
use Rattle.table.specs.declared.draft.Draft.{Draft}
use Rattle.table.specs.declared.tally.Tally.{Tally}
use Rattle.table.specs.declared.read.Reading.{Reading}
use Rattle.table.specs.declared.fault.TableFault.{TableFault}
use Rattle.table.specs.declared.fault.TableFault.TheVariants.{Text, Form, TooHeavy}
use Rattle.table.specs.declared.fault.FormRule.{FormRule}
use Rattle.table.specs.declared.fault.FormRule.TheVariants.{NamesakeMissing}
use Rattle.table.specs.Levels.{absent_weight}
use Rattle.table.specs.Drafts.{record_of}
use Rattle.table.specs.Form.{Lot, ◌⊕◌, doing, Place, between, before_array, before_value, entries, State, begins, inside, failed, given, on_name, after, is_task, own_weight}
use Rattle.table.specs.Verdict.{form, verdict, ReadsTask}

-- a state for every stack of places further out
abbrev pub States : Type 0
States = List Place → State

-- reading took r to s, the stack from f k to g k, and the form from p ps to q ps
pub record Works (t : List ℕ) (f g : Stack) (p q : States) (r s : Reader) : Type 0 where
  pub same : s.text ≡ r.text
  pub forth : r.at ≤ s.at
  pub ends : (k : List Frame) → ending (ahead r (f k)) ≡ ending (ahead s (g k))
  pub runs : (k : List Frame) (ps : List Place) → after t (p ps) (ahead r (f k)) ≡ after t (q ps) (ahead s (g k))

-- reading found a fault of the text, or one of the form
pub record Stops (t : List ℕ) (f : Stack) (p : States) (r : Reader) (e : TableFault) : Type 0 where
  pub in_text : (x : TextFault) → e ≡ Text x → (k : List Frame) → ending (ahead r (f k)) ≡ Err x
  pub in_form : (rule : FormRule) (i : ℕ) → e ≡ Form rule i → (k : List Frame) (ps : List Place) → after t (p ps) (ahead r (f k)) ≡ failed rule i
  pub light : e ≡ TooHeavy → ⊥

-- the largest number that a tally can count to
abbrev pub most : ℕ
most = 2 ^ 64 - 1

-- the records of a lot were put into the table from the first unused place on, as far as it reaches, and counted as far as a tally counts
pub record Filled (old new : List Record) (from to : Tally) (o : Lot) : Type 0 where
  pub uses : to.used ≡ min (from.used + length o.records) most
  pub weighs : to.weight ≡ min (from.weight + o.weight) most
  pub long : length new ≡ length old
  pub kept : (k : ℕ) → k < from.used → (d : Record) → slice_index_or new k d ≡ slice_index_or old k d
  pub stands : (k : ℕ) → k < length o.records → from.used + k < min (length new) most → (d : Record) → slice_index_or new (from.used + k) d ≡ slice_index_or o.records k d

-- the same between two states of a reading, which keeps its table
pub record Fills (r s : Reading) (o : Lot) : Type 0 where
  pub same : s.table.ghost_name ≡ r.table.ghost_name
  pub filled : Filled r.table.now s.table.now r.tally s.tally o

-- the members of an object up to its end were read, from the state p on
pub record ObjectRead (t : List ℕ) (d : ℕ) (p : States) (r s : Reading) : Type 0 where
  pub what : Lot
  pub works : Works t (λ k. members true d ∷ k) (λ k. k) p (λ ps. given what ps) r.reader s.reader
  pub fills : Fills r s what

abbrev pub ReadsObject : List ℕ → ℕ → States → Reading → Reading → Result (Unit {0}) TableFault → Type 0
ReadsObject t d p r s (Ok x) = ObjectRead t d p r s
ReadsObject t d p r s (Err e) = Stops t (λ k. members true d ∷ k) p r.reader e

-- a value was read that adds a lot to an object's parts: from the state p to the state q, each with the parts before it
pub record PartsRead (t : List ℕ) (f g : Stack) (p q : Lot → States) (r s : Reading) : Type 0 where
  pub what : Lot
  pub works : (b : Lot) → Works t f g (p b) (q (b ⊕ what)) r.reader s.reader
  pub fills : Fills r s what

-- the same of a call, whose state at the end depends on what it returns
abbrev pub ReadsParts : {X : Type 0} → List ℕ → Stack → Stack → (Lot → States) → (X → Lot → States) → Reading → Reading → Result X TableFault → Type 0
ReadsParts t f g p q r s (Ok x) = PartsRead t f g p (q x) r s
ReadsParts t f g p q r s (Err e) = (b : Lot) → Stops t f (p b) r.reader e

-- the states at which an object is being read: among its members, before its array, before another value, and among the entries of its array
abbrev pub at_members : Draft → Lot → States
at_members h b ps = inside (between (doing h b) ∷ ps)

abbrev pub at_array : Level → Draft → Lot → States
at_array l h b ps = inside (before_array l (doing h b) ∷ ps)

abbrev pub at_value : Key → Draft → Lot → States
at_value key h b ps = inside (before_value key (doing h b) ∷ ps)

abbrev pub at_entries : Level → ℕ → Draft → Lot → States
at_entries l n h b ps = inside (entries l n (doing h b) ∷ ps)

-- a name was read that spells the key, or none
abbrev pub at_name : Option Key → Draft → ℕ → Lot → States
at_name o h i b ps = on_name o (doing h b) i ps

-- the state before the first token
abbrev pub at_start : States
at_start ps = begins

-- the value of a known member that is no array was read into the draft
abbrev pub ReadsKnown : List ℕ → ℕ → Key → Draft → Draft → Reader → Reader → Result (Unit {0}) TableFault → Type 0
ReadsKnown t d key h h' r s (Ok x) = (b : Lot) → Works t (λ k. value d ∷ k) (λ k. k) (at_value key h b) (at_members h' b) r s
ReadsKnown t d key h h' r s (Err e) = (b : Lot) → Stops t (λ k. value d ∷ k) (at_value key h b) r e

-- where a record goes at the end of its object, by whether it is skipped and whether it is the task
abbrev pub stored : Bool → Bool → List Record → ℕ → Record → List Record
stored true task rs i r = rs
stored false true rs i r = rs
stored false false rs i r = slice_set rs i r

-- how many records are used after an object, by whether it is skipped
abbrev pub used_after : Bool → ℕ → ℕ → ℕ
used_after true before inner = before
used_after false before inner = inner

-- the weight of default parts, by whether there are parts
abbrev pub absent_if : Bool → Level → ℕ
absent_if true l = absent_weight l
absent_if false l = 0

-- an object ended: r was read up to its brace, reserved places were used before its parts, and outer before itself
pub record ObjectClosed (d : Draft) (outer : Tally) (reserved : ℕ) (r s : Reading) : Type 0 where
  pub own : Record
  pub has : record_of d ≡ Some own
  pub stays : s.reader ≡ r.reader
  pub same : s.table.ghost_name ≡ r.table.ghost_name
  pub uses : s.tally.used ≡ used_after d.skipped outer.used r.tally.used
  pub weighs : s.tally.weight ≡ min (r.tally.weight + absent_if (r.tally.used == reserved) d.level) most
  pub puts : s.table.now ≡ stored d.skipped (is_task d.level) r.table.now outer.used own

abbrev pub Closes : ℕ → Draft → Tally → ℕ → Reading → Reading → Result (Unit {0}) TableFault → Type 0
Closes brace d outer reserved r s (Ok x) = ObjectClosed d outer reserved r s
Closes brace d outer reserved r s (Err e) = (record_of d ≡ None) × (e ≡ Form NamesakeMissing brace)

-- a place is reserved for an object that is not the task
pub record Reserved (l : Level) (from to : Tally) : Type 0 where
  pub uses : to.used ≡ min (from.used + own_weight (is_task l)) most
  pub weighs : to.weight ≡ min (from.weight + own_weight (is_task l)) most

-- one pass over a text: a fault of the form may hide one of the text
abbrev pub Passes : List ℕ → List Record → Result ℕ TableFault → Type 0
Passes t new (Ok n) = ReadsTask t new (Ok n)
Passes t new (Err (Text e)) = outcome t ≡ Err e
Passes t new (Err (Form rule i)) = form t ≡ failed rule i
Passes t new (Err TooHeavy) = verdict t (length new) ≡ Err TooHeavy
