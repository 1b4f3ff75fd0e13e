use Rattle.std.proofs.Common.{ap, ◌∙◌, arith, rules}
use Rattle.text.specs.Strings.{paired}
use Rattle.text.proofs.Literally.{plain_units, plain_paired}
use Rattle.text.proofs.string.unescaped.Goals as goal

pub returns-clause-stands : goal.returns-clause-stands
returns-clause-stands c = λ e. ap paired (plain_units c.args.raw.now (search rules)) ∙ plain_paired c.args.raw.now (λ i. omega (arith, c.type_inv.raw i))
