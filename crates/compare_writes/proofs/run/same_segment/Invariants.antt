-- What the loop keeps: the match of all is the match of the records and writes that are left, and their places are small. Each turn takes a record.
use Rattle.std.proofs.Common.{◌≡◌, ◌≤◌, ◌+◌, ◌*◌}
use Rattle.base_format.specs.Size.{record_size}
use Rattle.compare_segment.specs.Segments.{source_step}
use Rattle.compare_writes.specs.Match.{matched, matched_segment}
use Rattle.compare_writes.proofs.run.same_segment.Given as goal

abbrev pub invariant-loop-count : goal.invariant-loop-count
invariant-loop-count l = record {
  records_near : l.at + l.left * record_size ≤ 0x1000000500000000;
  address_near : l.address + l.count ≤ 0x200000000;
  source_near : l.source + l.count ≤ 0x2000000100000000;
  same : matched_segment l.all l.master l.other l.fn.records.left l.fn.records.at l.segment
      ≡ matched l.all l.master l.other l.left l.at l.segment.target l.address l.source (source_step l.segment.copied) l.count;
}

abbrev pub decreases-loop-count : goal.decreases-loop-count
decreases-loop-count l = l.left
