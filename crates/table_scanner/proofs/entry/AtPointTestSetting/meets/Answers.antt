use Rattle.std.proofs.Common.{◌∙◌}
use Rattle.table_scanner.proofs.entry.AtPointTestSetting.meets.Goals as goal

pub returns : goal.returns
returns c = c.eq.ensures ∙ c.points_compare_by_parts.ensures.points c.args.entry.now.point c.args.self.now.point
