use Rattle.std.proofs.Common.{refl}
use Rattle.table.specs.Words.{exception_spelled}
use Rattle.table.proofs.Choosing.{not_chosen}
use Rattle.table.proofs.exception.Exception.spelled.Goals as goal

pub returns : goal.returns
unfolding exception_spelled
returns c = not_chosen _ _ _ _ _ _ c.spells.ensures.letters c.if-spells.false (not_chosen _ _ _ _ _ _ c.spells-2.ensures.letters c.if-spells-2.false (not_chosen _ _ _ _ _ _ c.spells-3.ensures.letters c.if-spells-3.false refl))
