use Rattle.std.proofs.Common.{◌≡◌, None, sym, ap, ◌∙◌, rules}
use Rattle.std.specs.Option.{option_copied}
use Rattle.table_scanner.proofs.Lookups.{found_none}
use Rattle.table_scanner.proofs.Moves.{part_some}
use Rattle.table_scanner.proofs.table.meaning.find.Goals as goal

pub returns-in_err-i : goal.returns-in_err-i
returns-in_err-i g c =
    let gone : c.from_residual.result ≡ None = search rules in
    ap option_copied gone ∙ sym (found_none (g.P.Test.holds c.args.test.now) (λ x. x) c.args.entries.now c.in_err-i.ensures.first)

pub returns : goal.returns
returns g c = part_some (g.P.Test.holds c.args.test.now) (λ x. x) c.args.entries.now c.in_ok-i.i c.index-entries-i.result c.in_ok-i.ensures.first c.index-entries-i.is
