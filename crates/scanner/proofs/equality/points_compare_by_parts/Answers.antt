use Rattle.scanner.specs.SamePoint.{same_point_equiv}
use Rattle.scanner.proofs.Sames.{point_test}
use Rattle.scanner.proofs.equality.points_compare_by_parts.Goals as goal

pub returns : goal.returns
returns c = record { points = point_test; equivalence = same_point_equiv }
