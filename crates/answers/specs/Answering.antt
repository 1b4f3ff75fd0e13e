-- How a submitted text is answered.
use Rattle.std.specs.Prelude.{◌≡◌, ℕ, ◌≤◌, List, length, Ok, Err, Result, IsOk}
use Rattle.text.specs.Limits.{most_bytes}
use Rattle.scanner.specs.declared.plan.Item.{Item}
use Rattle.session.specs.declared.fault.OutputFault.{OutputFault}
use Rattle.session.specs.declared.fault.SubmitFault.{SubmitFault}
use Rattle.session.specs.Complaints.{complaint_text}
use Rattle.session.specs.Output.{WrittenInto}
use Rattle.session.specs.Reply.{reply_text}

-- the complaint where the text was refused, else the reply, which shows the plan that is kept
abbrev pub answer_text : Result (Unit {0}) SubmitFault → List Item → List ℕ
answer_text (Ok u) plan = reply_text plan
answer_text (Err e) plan = complaint_text e

-- A text drew this, and the session then kept this plan: the one answer that belongs to both was written into the buffer. A
-- buffer as long as the longest text has room for every reply.
pub record Answers (drew : Result (Unit {0}) SubmitFault) (plan : List Item) (old new : List ℕ) (told : Result ℕ OutputFault) : Type 0 where
  pub written : WrittenInto (answer_text drew plan) old new told
  pub room : drew ≡ Ok tt → most_bytes ≤ length old → IsOk told
