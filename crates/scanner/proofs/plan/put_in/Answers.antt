use Rattle.std.proofs.Common.{◌≡◌, sym, refl, ap, ◌∙◌, subst}
use Rattle.scanner.specs.Meaning.{powered}
use Rattle.scanner.specs.Plan.{items_put, offered_of, plan_put, InForce}
use Rattle.scanner.proofs.Sames.{whole}
use Rattle.scanner.proofs.Plans.{going_more, going_all, in_force_lem, all_offered}
use Rattle.scanner.proofs.plan.put_in.Goals as goal

pub loop-item-init : goal.loop-item-init
loop-item-init g c =
    let e = c.reset.ensures in
    let k = g.S.Scanner.catalogue c.reset.new.self in
    record { same = refl; ends = ap (λ s. items_put s (offered_of k c.args.plan.now)) (whole e.after ∙ ap powered (sym e.same)) }

pub loop-item-preserved : goal.loop-item-preserved
loop-item-preserved g c =
    let e = c.put_item.ensures in
    going_more _ c.args.plan.now c.loop-item.item-index _ _ _ _ _ c.loop-item.invariant c.loop-item-test.true e.same e.after

pub returns : goal.returns
returns g c =
    let e = c.reset.ensures in
    let i = c.loop-item.invariant in
    let plan = c.args.plan.now in
    let k = g.S.Scanner.catalogue c.args.scanner.now in
    let st = g.S.Scanner.state c.loop-item.scanner in
    let after : st ≡ plan_put k plan = going_all _ plan c.loop-item.item-index _ _ i c.loop-item-test.false ∙ ap (λ q. plan_put q plan) e.same in
    let law = subst (InForce k (offered_of k plan)) (sym after) (in_force_lem k (offered_of k plan)) in
    record {
      same = i.same ∙ e.same;
      after = after;
      law = law;
      whole = λ all. subst (λ xs. InForce k xs st) (all_offered k plan all) law;
    }
