use Rattle.table.proofs.Coming.{come_to_one}
use Rattle.table.proofs.laws.texts_come_to_one_result.Goals as goal

pub returns : goal.returns
returns c = let w = c.one_value_stands.ensures in come_to_one w.one w.derived c.grammar_decides.ensures
