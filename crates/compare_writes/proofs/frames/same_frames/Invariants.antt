-- What the loop keeps: all frames agree exactly where those that are left do, and their places are small: a frame has at most 65,535 records of
-- 5 bytes, or operations of 16.
use Rattle.std.proofs.Common.{◌≡◌, ◌≤◌, ◌+◌, ◌*◌, ◌-◌}
use Rattle.compare_writes.specs.Match.{same_frames_at}
use Rattle.compare_writes.proofs.frames.same_frames.Given as goal

abbrev pub invariant-loop-i : goal.invariant-loop-i
invariant-loop-i l = record {
  records_near : l.at ≤ l.start + l._i * 327677;
  operations_near : l.from ≤ l.other_start + l._i * 1048562;
  same : same_frames_at l.master l.other l.directory l.frames l.start l.other_start
      ≡ same_frames_at l.master l.other l.directory (l.frames - l._i) l.at l.from;
}
