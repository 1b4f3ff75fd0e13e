use Rattle.std.proofs.Common.{◌≡◌, drop}
use Rattle.table_scanner.specs.Device.{device}
use Rattle.table_scanner.specs.Filling.{all_given}
use Rattle.table_scanner.proofs.table.TableScanner.fill.Given as goal

abbrev pub invariant-loop-call : goal.invariant-loop-call
invariant-loop-call l = all_given (device l.self) (drop l.call-index l.calls) ≡ all_given (device l.initial.self) l.calls
