-- The steps so far are replayed, and the closure may be called again.
use Rattle.std.proofs.Common.{◌≤◌}
use denote.Param.Always.{always_mut}
use Rattle.test_vectors.specs.Replays.{Steps}
use Rattle.test_vectors.proofs.replay_steps.Given as goal

abbrev pub invariant-loop-step : goal.invariant-loop-step
invariant-loop-step g l = always_mut g.F.FnMut l.replay × (l.as_stored ≤ l._step) × Steps g.F.FnMut l.fn.replay l._step l.as_stored l.replay
