use Rattle.std.proofs.Common.{◌≡◌, false, unwrap_or, ap, ◌∙◌, rules}
use Rattle.std.specs.Option.{option_map, option_copied}
use Rattle.table_scanner.specs.Entries.{is_pair}
use Rattle.table_scanner.proofs.Lookups.{part_found}
use Rattle.table_scanner.proofs.table.meaning.TableScannerScanner.enabled.Goals as goal

pub returns : goal.returns
returns c =
    let got : c.is_some_and.result ≡ unwrap_or (option_map (λ x. x.enabled) (option_copied c.find.result)) false = search rules in
    got ∙ ap (λ o. unwrap_or o false) (part_found (is_pair c.args.source c.args.format) (λ x. x.enabled) _ _ _ c.as_slice.ensures.value c.find.ensures)
