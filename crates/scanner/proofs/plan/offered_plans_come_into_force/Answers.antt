use Rattle.std.proofs.Common.{sym, ap, subst}
use Rattle.scanner.specs.Meaning.{powered}
use Rattle.scanner.specs.Plan.{items_put, InForce}
use Rattle.scanner.proofs.Plans.{in_force_lem, all_offered}
use Rattle.scanner.proofs.plan.offered_plans_come_into_force.Goals as goal

pub returns : goal.returns
returns c = record { left = λ k plan all. subst (InForce k plan) (sym (ap (items_put (powered k)) (all_offered k plan all))) (in_force_lem k plan) }
