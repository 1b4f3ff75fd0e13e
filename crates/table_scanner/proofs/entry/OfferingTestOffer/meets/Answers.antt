use Rattle.std.proofs.Common.{rules}
use Rattle.table_scanner.proofs.entry.OfferingTestOffer.meets.Goals as goal

pub returns-then-eq : goal.returns-then-eq
returns-then-eq c = let e = c.points_compare_by_parts.ensures.points c.args.entry.now.point c.args.self.now.point in search rules

pub returns-else-eq : goal.returns-else-eq
returns-else-eq c = let e = c.points_compare_by_parts.ensures.points c.args.entry.now.point c.args.self.now.point in search rules
