use Rattle.negotiation.proofs.Singly.{says_what_is}
use Rattle.negotiation.proofs.laws.outcomes_say_what_is.Goals as goal

pub returns : goal.returns
returns c = says_what_is
