use Rattle.std.proofs.Common.{rules}
use Rattle.scanner.proofs.Sames.{whole}
use Rattle.scanner.proofs.plan.put_item.Goals as goal

pub returns-in-Pair : goal.returns-in-Pair
returns-in-Pair g c = let w = whole c.enable.ensures.after in search rules

pub returns-in-Line : goal.returns-in-Line
returns-in-Line g c = let w = whole c.«set».ensures.after in search rules
