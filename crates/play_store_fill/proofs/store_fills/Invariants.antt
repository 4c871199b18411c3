-- The loop's invariant: so many of the records stand at the run's front, and the place is that of the last one.
use Rattle.std.proofs.Common.{◌≡◌}
use Rattle.play_store_fill.proofs.Fills.{placed, pasted}
use Rattle.play_store_fill.proofs.store_fills.Given as goal

abbrev pub invariant-loop-i : goal.invariant-loop-i
invariant-loop-i l =
    (l.place ≡ placed l.file l.version l.from l.made l.i)
    × (l.run ≡ pasted l.file l.version l.from l.made l.count l.initial.run l.i)
