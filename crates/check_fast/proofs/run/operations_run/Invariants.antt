-- What is still to do decides.
use Rattle.std.proofs.Common.{◌≡◌, ◌-◌}
use Rattle.std.specs.Prelude.{false}
use Rattle.check_fast.specs.Run.{operations_from}
use Rattle.check_fast.proofs.run.operations_run.Given as goal

abbrev pub invariant-loop-i : goal.invariant-loop-i
invariant-loop-i l =
    operations_from l.width l.file l.pools l.directory l.table l.last l.count l.start false ≡ operations_from l.width l.file l.pools l.directory l.table l.last (l.count - l.i) l.at l.si22
