use Rattle.std.proofs.Common.{rules}
use Rattle.table.proofs.Choosing.{not_chosen}
use Rattle.table.proofs.meaning.wanted.Goals as goal

pub returns-else-spells : goal.returns-else-spells
returns-else-spells g c = not_chosen _ _ _ _ _ _ c.spells.ensures.letters c.if-spells.false (search rules)
