use Rattle.negotiation.proofs.Verdicting.{one_verdict}
use Rattle.negotiation.proofs.laws.each_task_has_one_outcome.Goals as goal

pub returns : goal.returns
returns c = one_verdict
