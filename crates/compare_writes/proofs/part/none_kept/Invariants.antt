-- What the loop keeps: none of all records counts exactly where none of those that are left does.
use Rattle.std.proofs.Common.{◌≡◌, ◌+◌, ◌*◌, ◌-◌, []}
use Rattle.base_format.specs.Compare.{same_writes}
use Rattle.base_format.specs.Size.{record_size}
use Rattle.compare_segment.specs.Segments.{record_writes}
use Rattle.compare_writes.specs.Match.{kept}
use Rattle.compare_writes.proofs.part.none_kept.Given as goal

abbrev pub invariant-loop-i : goal.invariant-loop-i
invariant-loop-i l = record {
  place : l.at ≡ l.fn.records.at + l._i * record_size;
  same : same_writes (kept l.all (record_writes l.master l.fn.records.left l.fn.records.at)) []
      ≡ same_writes (kept l.all (record_writes l.master (l._i-end - l._i) l.at)) [];
}
