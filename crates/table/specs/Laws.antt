-- Laws of the verdict on a text.
use Rattle.std.specs.Prelude.{◌≡◌, ◌⊎◌, ℕ, ◌<◌, ◌≤◌, min, List, length, Ok, Err, Result}
use Rattle.text.specs.declared.fault.TextFault.{TextFault}
use Rattle.text.specs.declared.fault.TextFault.TheVariants.{TooLong}
use Rattle.text.specs.Limits.{most_bytes}
use Rattle.text.specs.Machine.{outcome}
use Rattle.text.specs.Tree.{Json}
use Rattle.text.specs.Value.{ValueOf}
use Rattle.table.specs.declared.fault.TableFault.{TableFault}
use Rattle.table.specs.declared.fault.TableFault.TheVariants.{Text, Form, TooHeavy}
use Rattle.table.specs.declared.fault.FormRule.{FormRule}
use Rattle.table.specs.Limits.{max_weight}
use Rattle.table.specs.Form.{Lot, failed, done}
use Rattle.table.specs.Task.{ActionObject}
use Rattle.table.specs.Rules.{FirstBroken, Formed}
use Rattle.table.specs.TaskOf.{task_of, weight_of}
use Rattle.table.specs.Verdict.{form, verdict, task}
use Rattle.table.specs.ComesTo.{ComesTo}

-- in which order the faults of a text come: too long, then a fault anywhere in the text, then a broken rule of form, then the weight
pub record Ordered (t : List ℕ) (room : ℕ) : Type 0 where
  -- a text that is too long is refused for that, whatever else it has
  pub long_first : most_bytes < length t → verdict t room ≡ Err (Text TooLong)
  -- a fault anywhere in the text comes before any of the form
  pub text_first : (e : TextFault) → outcome t ≡ Err e → verdict t room ≡ Err (Text e)
  -- in a text without faults the broken rule at which its tokens end decides
  pub form_next : (rule : FormRule) (i : ℕ) → outcome t ≡ Ok tt → form t ≡ failed rule i → verdict t room ≡ Err (Form rule i)
  -- a task that breaks none is refused for its weight alone
  pub weight_last : (o : Lot) → outcome t ≡ Ok tt → form t ≡ done o → min max_weight room < o.weight → verdict t room ≡ Err TooHeavy
  -- and is read otherwise
  pub read_then : (o : Lot) → outcome t ≡ Ok tt → form t ≡ done o → o.weight ≤ min max_weight room → verdict t room ≡ Ok o.records

abbrev pub Order : Type 0
Order = (t : List ℕ) (room : ℕ) → Ordered t room

-- What becomes of a text without faults, by the value that it writes.
pub record ByValue (t : List ℕ) (room : ℕ) (v : Json) : Type 0 where
  -- there is one rule that the value breaks first, or it breaks none
  pub decided : Formed t v ⊎ ((rule : FormRule) × (i : ℕ) × FirstBroken t v rule i)
  -- the rule that it breaks first decides
  pub first_decides : (rule : FormRule) (i : ℕ) → FirstBroken t v rule i → verdict t room ≡ Err (Form rule i)
  -- a value that breaks none is refused for its weight alone
  pub heavy : Formed t v → min max_weight room < weight_of t v → verdict t room ≡ Err TooHeavy
  -- and is read otherwise, as the task that it writes
  pub written : Formed t v → weight_of t v ≤ min max_weight room → task t room ≡ Ok (task_of t v)
  -- the fold over the tokens ends in the one or the other
  pub ends : ((o : Lot) × (form t ≡ done o)) ⊎ ((rule : FormRule) × (i : ℕ) × (form t ≡ failed rule i))

abbrev pub ValueDecides : Type 0
ValueDecides = (t : List ℕ) (room : ℕ) (v : Json) → outcome t ≡ Ok tt → ValueOf t v → ByValue t room v

-- each text comes to one thing with every table
abbrev pub TextsJudged : Type 0
TextsJudged = (t : List ℕ) (room : ℕ) (x : Result (List ActionObject) TableFault) → task t room ≡ x → ComesTo t room x

-- and to nothing else
pub record OneResult (t : List ℕ) (room : ℕ) : Type 0 where
  pub comes : ComesTo t room (task t room)
  pub only : (x : Result (List ActionObject) TableFault) → ComesTo t room x → x ≡ task t room

abbrev pub ComeToOne : Type 0
ComeToOne = (t : List ℕ) (room : ℕ) → OneResult t room
