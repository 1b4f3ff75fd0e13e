use Rattle.std.proofs.Common.{rules}
use Rattle.table.specs.Verdict.{ReadsTask}
use Rattle.table.proofs.Within.{read_within}
use Rattle.table.proofs.read.read_task.Goals as goal

pub returns-clause-within : goal.returns-clause-within
returns-clause-within c =
    let read : ReadsTask c.args.text.now c.pass.new.table c.map_err.result = search rules in
    read_within c.value_decides.ensures.judged c.args.text.now c.pass.new.table c.map_err.result read
