use Rattle.std.proofs.Common.{◌≡◌, true, ◌&&◌, vec_items, sym, ap, ◌∙◌}
use Rattle.std.specs.List.{list_any}
use Rattle.table_scanner.specs.Entries.{at_point, pair_there}
use Rattle.table_scanner.specs.PointsKept.{looked_any}
use Rattle.table_scanner.proofs.table.meaning.TableScannerScanner.offers_attribute.Goals as goal

-- the pair was found, so the settings decide
pub returns-then-offers_format : goal.returns-then-offers_format
returns-then-offers_format c =
    let x = c.args.self.now in
    let p = c.args.point in
    let there : pair_there (vec_items x.pairs) p ≡ true = sym c.offers_format.ensures ∙ c.if-offers_format.true in
    c.any.ensures
    ∙ ap (list_any (at_point p)) c.as_slice.ensures.value
    ∙ sym (ap (λ b. b && list_any (at_point p) (vec_items x.settings)) there)
    ∙ sym (looked_any (λ z. z.initial) (vec_items x.pairs) (vec_items x.settings) p)
