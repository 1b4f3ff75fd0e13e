use Rattle.std.proofs.Common.{vec_items, refl}
use Rattle.lock.specs.Bans.{forbidden}
use Rattle.lock.proofs.Banning.{pile_order}
use Rattle.lock.proofs.locks.swapped.Goals as goal

pub returns : goal.returns
returns g c =
    let x = c.args.pile in
    record {
      below = refl;
      bans = (refl, refl);
      same = pile_order (g.S.Scanner.catalogue x.below.below) (forbidden (vec_items x.bans)) (forbidden (vec_items x.below.bans));
      law = pile_order;
    }
