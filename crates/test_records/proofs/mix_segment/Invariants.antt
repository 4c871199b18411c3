-- The records from `i` on are still to be mixed.
use Rattle.std.proofs.Common.{◌≡◌, ◌-◌}
use Rattle.test_records.specs.Mixed.{records_mixed, segment_mixed}
use Rattle.test_records.proofs.mix_segment.Given as goal

abbrev pub invariant-loop-i : goal.invariant-loop-i
invariant-loop-i l =
    segment_mixed l.fn.file l.fn.segment l.fn.at l.fn.sum ≡ records_mixed l.fn.file l.fn.segment (l.fn.segment.count - l.i) l.i l.place l.address l.mixed
