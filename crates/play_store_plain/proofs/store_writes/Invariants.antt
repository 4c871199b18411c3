-- The loop's invariant: so many of the writes stand at the run's front.
use Rattle.std.proofs.Common.{◌≡◌}
use Rattle.play_store_plain.proofs.Writes.{pasted}
use Rattle.play_store_plain.proofs.store_writes.Given as goal

abbrev pub invariant-loop-i : goal.invariant-loop-i
invariant-loop-i l = l.run ≡ pasted l.file l.version l.from l.count l.initial.run l.i
