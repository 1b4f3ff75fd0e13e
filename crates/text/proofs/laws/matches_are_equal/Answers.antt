use Rattle.text.proofs.Matching.{matches_equal}
use Rattle.text.proofs.laws.matches_are_equal.Goals as goal

pub returns : goal.returns
returns c = matches_equal
