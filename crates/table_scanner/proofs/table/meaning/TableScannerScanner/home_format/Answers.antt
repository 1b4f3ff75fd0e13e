use Rattle.std.proofs.Common.{◌≡◌, unwrap_or, ap, ◌∙◌, rules}
use Rattle.std.specs.Option.{option_map, option_copied}
use Rattle.names.specs.declared.kinds.PixelFormat.{PixelFormat}
use Rattle.table_scanner.specs.Entries.{of_source}
use Rattle.table_scanner.proofs.Lookups.{part_found}
use Rattle.table_scanner.proofs.table.meaning.TableScannerScanner.home_format.Goals as goal

pub returns : goal.returns
returns c =
    let got : c.map_or.result ≡ unwrap_or (option_map (λ x. x.format) (option_copied c.find-home.result)) PixelFormat.Gray8 = search rules in
    got ∙ ap (λ o. unwrap_or o PixelFormat.Gray8) (part_found (of_source c.args.source) (λ x. x.format) _ _ _ c.as_slice.ensures.value c.find-home.ensures)
