use Rattle.std.proofs.Common.{◌≡◌, true, vec_items, sym, ◌∙◌, rules}
use Rattle.std.specs.Option.{option_map, option_copied}
use Rattle.std.proofs.lemmas.Bool.{cond-true}
use Rattle.table_scanner.specs.Entries.{at_point, pair_there}
use Rattle.table_scanner.proofs.Lookups.{part_found}
use Rattle.table_scanner.proofs.table.meaning.TableScannerScanner.current.Goals as goal

-- the pair was found, so the first setting at the point is what is looked up
pub returns : goal.returns
returns c =
    let there : pair_there (vec_items c.args.self.now.pairs) c.args.point ≡ true = search rules in
    let got : c.map.result ≡ option_map (λ x. x.current) (option_copied c.find.result) = search rules in
    got ∙ part_found (at_point c.args.point) (λ x. x.current) _ _ _ c.as_slice.ensures.value c.find.ensures ∙ sym (cond-true _ _ _ there)
