-- No entry is replayed at first; each turn replays one more.
use Rattle.std.proofs.Common.{rules, of_calls}
use Rattle.std.proofs.lemmas.Fn.{Called-on}
use Rattle.test_vectors.specs.Replays.{unbegun, entry}
use Rattle.test_vectors.proofs.replay_list.Goals as goal

pub loop-entry-init : goal.loop-entry-init
loop-entry-init g c = (c.requires, unbegun _ (search rules) (search rules))

pub loop-entry-preserved : goal.loop-entry-preserved
loop-entry-preserved g c =
    let l = c.loop-entry in
    (search of_calls, entry _ _ _ _ _ _ _ _ _ l.invariant.1 c.if-number.false (Called-on g.F.FnMut c.replay.ensures c.in_ok-entry.was) c.add_assign.ensures.after)
