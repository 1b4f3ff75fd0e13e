use Rattle.std.proofs.Common.{rules}
use Rattle.scanners.specs.Search.{FirstOf}
use Rattle.scanners.proofs.Searches.{first_any}
use Rattle.scanners.proofs.search.first.Goals as goal

pub returns-clause-some : goal.returns-clause-some
returns-clause-some g c =
    let found : FirstOf (g.P.Test.holds c.args.test.now) c.args.entries.now c.position.result = search rules in
    first_any (g.P.Test.holds c.args.test.now) c.args.entries.now c.position.result found
