-- The first text of a session.
use Rattle.std.specs.Prelude.{◌≡◌, ℕ, List, [], ◌∷◌, Ok, Result}
use Rattle.scanner.specs.Meaning.{Catalogue}
use Rattle.session.specs.declared.fault.SubmitFault.{SubmitFault}
use Rattle.session.specs.declared.runs.Answer.{Answer}
use Rattle.session.specs.declared.runs.Answer.TheVariants.{Submitted, Restarted, Replied, Setting, Enabled}
use Rattle.session.specs.declared.runs.Turn.{Turn}
use Rattle.session.specs.Submissions.{Submission, submitted_in}
use Rattle.session.specs.Promise.{TextAnswered}

-- this text, with a work table of so many records, drew this
abbrev pub drawn : List ℕ → ℕ → Result (Unit {0}) SubmitFault → Submission
drawn text room r = record { text = text; room = room; answer = r }

-- the turn submitted the text, and the text drew what is promised of it
pub record FirstText (k : Catalogue) (text : List ℕ) (room : ℕ) (turn : Turn) (r : Result (Unit {0}) SubmitFault) : Type 0 where
  pub submits : submitted_in turn ≡ drawn text room r ∷ []
  pub answered : TextAnswered k (drawn text room r)

-- what a submitted text drew; no fault where none was submitted
abbrev pub drew : Answer → Result (Unit {0}) SubmitFault
drew (Submitted r) = r
drew Restarted = Ok tt
drew (Replied r) = Ok tt
drew (Setting v) = Ok tt
drew (Enabled b) = Ok tt

-- what the first of these turns drew
abbrev pub first_drew : List Turn → Result (Unit {0}) SubmitFault
first_drew [] = Ok tt
first_drew (t ∷ ts) = drew t.answer
