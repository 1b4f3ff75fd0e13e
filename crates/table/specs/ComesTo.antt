-- What a text comes to, with a table of so many records: by the grammar of JSON, by the value that the grammar gives the text,
-- and by the rules of form that this value breaks, its weight, and the task that it writes.
use Rattle.std.specs.Prelude.{◌≡◌, ℕ, ◌<◌, ◌≤◌, min, List, length, take, Ok, Err, Result}
use Rattle.text.specs.Grammar.{Text as Grammatical}
use Rattle.text.specs.Limits.{most_bytes, most_levels}
use Rattle.text.specs.Tree.{Json}
use Rattle.text.specs.Derived.{text_tree}
use Rattle.text.specs.Judged.{Judged}
use Rattle.table.specs.declared.record.Record.{Record}
use Rattle.table.specs.declared.fault.TableFault.{TableFault}
use Rattle.table.specs.declared.fault.TableFault.TheVariants.{Text, Form, TooHeavy}
use Rattle.table.specs.declared.fault.FormRule.{FormRule}
use Rattle.table.specs.Limits.{max_weight}
use Rattle.table.specs.Task.{ActionObject}
use Rattle.table.specs.Views.{actions_in}
use Rattle.table.specs.Rules.{FirstBroken, Formed}
use Rattle.table.specs.TaskOf.{task_of, weight_of}

-- a text that is not too long writes a value: the grammar has the text within the limit of levels, and gives it this value
pub record Writes (t : List ℕ) (v : Json) : Type 0 where
  pub short : length t ≤ most_bytes
  pub derived : Grammatical most_levels t
  pub gives : v ≡ text_tree derived

-- it is read: its value breaks no rule and is light enough, and this is its task
pub record Accepted (t : List ℕ) (room : ℕ) (acts : List ActionObject) : Type 0 where
  pub value : Json
  pub writes : Writes t value
  pub formed : Formed t value
  pub light : weight_of t value ≤ min max_weight room
  pub task : acts ≡ task_of t value

-- it is refused for a rule: its value breaks this rule at this offset, and no other before it
pub record Misformed (t : List ℕ) (rule : FormRule) (i : ℕ) : Type 0 where
  pub value : Json
  pub writes : Writes t value
  pub first : FirstBroken t value rule i

-- it is refused for its weight: its value breaks no rule and is too heavy
pub record Overweight (t : List ℕ) (room : ℕ) : Type 0 where
  pub value : Json
  pub writes : Writes t value
  pub formed : Formed t value
  pub heavy : min max_weight room < weight_of t value

-- a text that is too long, forbidden or too deep is refused for that
abbrev pub ComesTo : List ℕ → ℕ → Result (List ActionObject) TableFault → Type 0
ComesTo t room (Ok acts) = Accepted t room acts
ComesTo t room (Err (Text e)) = Judged t (Err e)
ComesTo t room (Err (Form rule i)) = Misformed t rule i
ComesTo t room (Err TooHeavy) = Overweight t room

-- the same of a call that read n records into the table
abbrev pub CallComesTo : List ℕ → List Record → Result ℕ TableFault → Type 0
CallComesTo t table (Ok n) = ComesTo t (length table) (Ok (actions_in (take n table)))
CallComesTo t table (Err e) = ComesTo t (length table) (Err e)
