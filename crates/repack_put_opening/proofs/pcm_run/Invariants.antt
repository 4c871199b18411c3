-- What the loop keeps: the records still to look at decide.
use Rattle.std.proofs.Common.{◌≡◌, ◌≤◌, ◌+◌, ◌*◌, ◌-◌}
use Rattle.base_master.specs.Places.{records_at}
use Rattle.base_master.specs.Result.{pcm_from}
use Rattle.repack_put_opening.proofs.pcm_run.Given as goal

abbrev pub invariant-loop-i : goal.invariant-loop-i
invariant-loop-i l = record {
  few : l.pcm ≤ l.i;
  same : pcm_from 0 (records_at l.file l.count 20) ≡ pcm_from l.pcm (records_at l.file (l.count - l.i) (20 + l.i * 5));
}
