use Rattle.std.proofs.Common.{◌≡◌, rules}
use Rattle.text.specs.Strings.{Tells}
use Rattle.text.proofs.Matching.{tested}
use Rattle.text.proofs.string.same.Goals as goal

pub returns : goal.returns
returns c = let t : Tells _ (c.args.raw.now ≡ c.args.name.now) = search rules in record { tells = t; letters = tested _ _ _ t }
