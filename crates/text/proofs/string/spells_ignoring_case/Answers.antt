use Rattle.std.proofs.Common.{true, refl, arith, rules}
use Rattle.text.specs.Strings.{lowered}
use Rattle.text.proofs.Matching.{key_tells, tested}
use Rattle.text.proofs.string.spells_ignoring_case.Goals as goal

pub returns : goal.returns
returns c = let t = key_tells true lowered (λ u v. refl) _ _ _ (c.compare.ensures true (λ u v x m. search rules)) (λ i. omega (arith, c.type_inv.name i)) in record { tells = t; letters = tested _ _ _ t }
