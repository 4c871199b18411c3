-- The loop's invariant: planning what is left from here is planning all.
use Rattle.std.proofs.Common.{◌≡◌, ◌≤◌, ◌+◌, ◌-◌}
use Rattle.play_laws.specs.Plan.{planned_operations}
use Rattle.base_format.specs.Player.{placed, operations_left, as25}
use Rattle.play_plan_part.proofs.operations.plan_operations.Given as goal

abbrev pub invariant-loop-i : goal.invariant-loop-i
invariant-loop-i l =
    (l.free ≤ l.room) × (l.operations ≡ l.progress.operation_index + l._i)
    × (as25 (planned_operations l.state l.file l.limit (operations_left l.progress) l.room l.progress)
    ≡ as25 (planned_operations l.state l.file l.limit (operations_left l.progress - l._i) l.free (placed l.progress l.cursor l.operations l.writes l.waves)))
