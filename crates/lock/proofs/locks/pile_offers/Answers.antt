use Rattle.std.proofs.Common.{vec_items, ap, ◌∙◌}
use Rattle.lock.specs.Bans.{forbidden}
use Rattle.lock.proofs.Banning.{pile_union}
use Rattle.lock.proofs.locks.pile_offers.Goals as goal

pub returns : goal.returns
returns g c =
    let x = c.args.pile.now in
    let union = pile_union (g.S.Scanner.catalogue x.below.below) (forbidden (vec_items x.below.bans)) (forbidden (vec_items x.bans)) in
    record { answer = c.offers_value.ensures ∙ ap (λ k. k.offers_value c.args.point c.args.value) union; law = pile_union }
