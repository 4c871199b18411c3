-- What is still to do decides.
use Rattle.std.proofs.Common.{◌≡◌, ◌-◌}
use Rattle.check_fast.specs.Run.{records_run}
use Rattle.check_fast.proofs.run.records_run.Given as goal

abbrev pub invariant-loop-i : goal.invariant-loop-i
invariant-loop-i l = records_run l.file l.table l.last l.count l.start ≡ records_run l.file l.table l.last (l.count - l.i) l.at
