use Rattle.text.proofs.Outcomes.{grammar_decides}
use Rattle.text.proofs.laws.grammar_decides.Goals as goal

pub returns : goal.returns
returns c = grammar_decides
