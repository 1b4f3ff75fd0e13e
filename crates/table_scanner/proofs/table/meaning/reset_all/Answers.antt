use Rattle.std.proofs.Common.{set, sym, ap, ◌∙◌}
use Rattle.std.proofs.lemmas.List.Edits.{map_over_more}
use Rattle.table_scanner.proofs.table.meaning.reset_all.Goals as goal

pub loop-entry-preserved : goal.loop-entry-preserved
loop-entry-preserved g c =
    let after = g.T.Reset.after in
    let ys = c.loop-entry.entries in
    let i = c.loop-entry.entry-index in
    let here = c.entry-item.is in
    ap (set ys i) (c.reset.ensures ∙ ap after (sym here)) ∙ map_over_more after c.args.entries.now ys i _ c.loop-entry-test.true c.loop-entry.invariant here
