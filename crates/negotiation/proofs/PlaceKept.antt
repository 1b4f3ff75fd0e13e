-- Out of an object the place record is as it was before.
use Rattle.std.proofs.Common.{◌≡◌, ap, ◌∙◌}
use Rattle.table.specs.declared.place.Inside.{Inside}
use Rattle.table.specs.declared.place.Place.{Place}
use Rattle.table.specs.Places.{leaving}

pub out_of : (g : Inside) {p q new : Place} → leaving g g.place.now ≡ p → q ≡ g.place.now → new ≡ leaving g q → new ≡ p
out_of g back same left = left ∙ ap (leaving g) same ∙ back
