use Rattle.std.proofs.Common.{drop}
use Rattle.scanner.proofs.Plans.{Going}
use Rattle.scanner.proofs.plan.put_in.Given as goal

abbrev pub invariant-loop-item : goal.invariant-loop-item
invariant-loop-item g l =
    let m = g.S.Scanner in
    Going (m.catalogue l.initial.scanner) l.plan (drop l.item-index l.plan) (m.catalogue l.scanner) (m.state l.scanner)
