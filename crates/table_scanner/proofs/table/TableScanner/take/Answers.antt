use Rattle.std.proofs.Common.{◌≡◌, Err, sym, ap, ◌∙◌, rules}
use Rattle.std.specs.Option.{option_map}
use Rattle.table_scanner.specs.Device.{device}
use Rattle.table_scanner.specs.Changes.{change_of}
use Rattle.table_scanner.proofs.Fillings.{refused}
use Rattle.table_scanner.proofs.table.TableScanner.take.Goals as goal

pub returns-in_err-admits : goal.returns-in_err-admits
returns-in_err-admits c =
    let is = ap (option_map change_of) (sym c.in_ok-change.ensures.ok_part) ∙ c.read.ensures in
    let same : c.from_residual-in_err-admits.result ≡ Err c.in_err-admits.field-0.0 = search rules in
    refused (device c.args.self.now) _ (change_of c.in_ok-change.change) _ _ is c.in_err-admits.ensures same
