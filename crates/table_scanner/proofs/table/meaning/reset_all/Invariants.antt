use Rattle.std.proofs.Common.{◌≡◌, ◌++◌, map, take, drop}
use Rattle.table_scanner.proofs.table.meaning.reset_all.Given as goal

abbrev pub invariant-loop-entry : goal.invariant-loop-entry
invariant-loop-entry g l = l.entries ≡ map g.T.Reset.after (take l.entry-index l.initial.entries) ++ drop l.entry-index l.initial.entries
