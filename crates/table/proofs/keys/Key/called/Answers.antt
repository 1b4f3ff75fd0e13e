use Rattle.std.proofs.Common.{sym, ◌∙◌, ap}
use Rattle.text.specs.Strings.{stands}
use Rattle.table.specs.Words.{key_spelled}
use Rattle.table.proofs.Called.{own_name}
use Rattle.table.proofs.keys.Key.called.Goals as goal

pub returns-then-same : goal.returns-then-same
returns-then-same c = sym (ap (λ x. key_spelled (stands x)) (c.same.ensures.tells.holds c.if-same.true ∙ c.name.ensures) ∙ own_name _)
