use Rattle.table.proofs.Views.{go_through}
use Rattle.table.proofs.Rows.{rows_show}
use Rattle.table.proofs.laws.records_show_objects.Goals as goal

pub returns : goal.returns
returns c = record { through = go_through; back = rows_show }
