use Rattle.scanner.proofs.Sames.{source_eq, format_eq, attribute_eq, point_eq}
use Rattle.scanner.proofs.equality.same_points_are_one.Goals as goal

pub returns : goal.returns
returns c = record { sources = source_eq; formats = format_eq; attributes = attribute_eq; points = point_eq }
