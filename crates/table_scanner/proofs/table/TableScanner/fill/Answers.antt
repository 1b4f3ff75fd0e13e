use Rattle.std.proofs.Common.{vec_items}
use Rattle.table_scanner.proofs.Fillings.{keeps_the_laws}
use Rattle.table_scanner.specs.HomeOffered.{home_offered}
use Rattle.table_scanner.proofs.table.TableScanner.fill.Goals as goal

pub returns-clause-lawful : goal.returns-clause-lawful
returns-clause-lawful c =
    let x = c.loop-call.self in
    record { source = x.homed; format = λ s h. home_offered s (vec_items x.pairs) h }

pub returns-clause-law : goal.returns-clause-law
returns-clause-law c = keeps_the_laws
