-- What was submitted to a session, and what the box answered.
use Rattle.std.specs.Prelude.{◌≡◌, ◌⊎◌, ℕ, List, [], ◌∷◌, ◌++◌, map, Ok, Err, Result}
use Rattle.std.specs.List.{flat_map}
use Rattle.table.specs.declared.fault.TableFault.{TableFault}
use Rattle.table.specs.Task.{ActionObject}
use Rattle.table.specs.ComesTo.{ComesTo}
use Rattle.session.specs.declared.fault.SubmitFault.{SubmitFault}
use Rattle.session.specs.declared.runs.Answer.{Answer}
use Rattle.session.specs.declared.runs.Answer.TheVariants.{Submitted, Restarted, Replied, Setting, Enabled}
use Rattle.session.specs.declared.runs.Turn.{Turn}
use Rattle.session.specs.History.{Asked, submit, restart, reply, setting, enabled, asked}

-- a text, how many records the work table had that was lent with it, and the answer
pub record Submission : Type 0 where
  pub text : List ℕ
  pub room : ℕ
  pub answer : Result (Unit {0}) SubmitFault

-- the answer, where it is one to a text
abbrev pub to_a_text : Answer → List (Result (Unit {0}) SubmitFault)
to_a_text (Submitted r) = r ∷ []
to_a_text Restarted = []
to_a_text (Replied r) = []
to_a_text (Setting v) = []
to_a_text (Enabled b) = []

-- what was submitted by a call that was answered so: one text, or none
abbrev pub submitted_by : Asked → Answer → List Submission
submitted_by (submit text room) x = map (λ r. record { text = text; room = room; answer = r }) (to_a_text x)
submitted_by restart x = []
submitted_by (reply room) x = []
submitted_by (setting p) x = []
submitted_by (enabled s f) x = []

abbrev pub submitted_in : Turn → List Submission
submitted_in t = submitted_by (asked t) t.answer

-- all that was submitted in these turns, in order
abbrev pub submissions : List Turn → List Submission
submissions h = flat_map submitted_in h

-- the text could be read, as a task with these actions
abbrev pub IsTask : Submission → List ActionObject → Type 0
IsTask s acts = ComesTo s.text s.room (Ok acts)

-- the text could not be read: it has this fault
abbrev pub IsNoTask : Submission → TableFault → Type 0
IsNoTask s e = ComesTo s.text s.room (Err e)

-- what a submission adds to the accepted actions: the actions of its task where it drew no fault, else none
abbrev pub Adds : Submission → List ActionObject → Type 0
Adds s acts = ((s.answer ≡ Ok tt) × IsTask s acts) ⊎ ((e : SubmitFault) × (s.answer ≡ Err e) × (acts ≡ []))

-- these are the actions of all tasks that were accepted, in order
abbrev pub AllAccepted : List Submission → List ActionObject → Type 0
AllAccepted [] acts = acts ≡ []
AllAccepted (s ∷ l) acts = (own : List ActionObject) × (rest : List ActionObject) × Adds s own × AllAccepted l rest × (acts ≡ own ++ rest)
