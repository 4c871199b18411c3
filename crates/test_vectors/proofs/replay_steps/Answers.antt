-- No step is replayed at first; each turn replays one more.
use Rattle.std.proofs.Common.{arith, rules, of_calls, refl}
use Rattle.std.proofs.lemmas.Fn.{called_at}
use Rattle.test_vectors.specs.Replays.{unbegun_steps, step}
use Rattle.test_vectors.proofs.replay_steps.Goals as goal

pub loop-step-init : goal.loop-step-init
loop-step-init g c = (c.requires, omega arith, unbegun_steps)

pub loop-step-preserved : goal.loop-step-preserved
loop-step-preserved g c =
    let l = c.loop-step in
    (search of_calls, search rules, step _ _ _ _ _ _ l.invariant.2 (called_at g.F.FnMut c.replay.ensures refl))
