use Rattle.table.proofs.Deciding.{value_decides}
use Rattle.table.proofs.Coming.{texts_judged}
use Rattle.table.proofs.laws.value_decides.Goals as goal

pub returns : goal.returns
returns c =
    let w = c.one_value_stands.ensures in
    record { decides = value_decides w.one; judged = texts_judged w.one w.derived c.grammar_decides.ensures }
