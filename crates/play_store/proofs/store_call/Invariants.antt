-- The loop's invariant: what is still to be stored from the place on makes the whole call. Each turn leaves less than there was.
use Rattle.std.proofs.Common.{◌≡◌}
use Rattle.play_store.specs.Stored.{stored_from, stored_call}
use Rattle.play_store.proofs.store_call.Given as goal

abbrev pub invariant-loop-place : goal.invariant-loop-place
invariant-loop-place l = stored_call l.file l.state l.count l.initial.run ≡ stored_from l.file l.state l.place l.run

abbrev pub decreases-loop-place : goal.decreases-loop-place
decreases-loop-place l = l.place.left
