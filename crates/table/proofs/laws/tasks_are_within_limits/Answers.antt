use Rattle.table.proofs.Within.{tasks_within}
use Rattle.table.proofs.laws.tasks_are_within_limits.Goals as goal

pub returns : goal.returns
returns c = tasks_within c.value_decides.ensures.judged
