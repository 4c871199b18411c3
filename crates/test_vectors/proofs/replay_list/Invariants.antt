-- The entries so far are replayed, and the closure may be called again.
use denote.Param.Always.{always_mut}
use Rattle.test_vectors.specs.Replays.{Replays}
use Rattle.test_vectors.proofs.replay_list.Given as goal

abbrev pub invariant-loop-entry : goal.invariant-loop-entry
invariant-loop-entry g l = always_mut g.F.FnMut l.replay × Replays g.F.FnMut l.fn.replay l._entry l.replay l.counts
