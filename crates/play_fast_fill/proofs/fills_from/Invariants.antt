-- The loop's invariant: the walk from the start is the walk from where the loop is.
use Rattle.std.proofs.Common.{◌-◌, ◌≡◌}
use Rattle.play_fast_fill.specs.Fills.{fills_from}
use Rattle.play_fast_fill.proofs.fills_from.Given as goal

abbrev pub invariant-loop-i : goal.invariant-loop-i
invariant-loop-i l =
    fills_from l.file l.width l.starts l.ends l.limit l.left l.room l.cursor l.writes
    ≡ fills_from l.file l.width l.starts l.ends l.limit (l.left - l.i) l.free l.at l.done
