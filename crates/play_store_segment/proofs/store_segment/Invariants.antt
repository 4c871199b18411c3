-- The loop's invariant: so many of the segment's records stand in the run, and no other is touched.
use Rattle.std.proofs.Common.{◌≡◌}
use Rattle.play_store_segment.proofs.Segments.{pasted}
use Rattle.play_store_segment.proofs.store_segment.Given as goal

abbrev pub invariant-loop-i : goal.invariant-loop-i
invariant-loop-i l = l.run ≡ pasted l.file l.segment l.at l.initial.run l.i
