-- What the loop keeps: the match of all is the match of the records and operations that are left, and their places are small.
use Rattle.std.proofs.Common.{◌≡◌, ◌≤◌, ◌+◌, ◌*◌, ◌-◌}
use Rattle.base_format.specs.Size.{record_size, operation_most}
use Rattle.compare_writes.specs.Match.{matched_part}
use Rattle.compare_writes.proofs.part.same_part.Given as goal

abbrev pub invariant-loop-i : goal.invariant-loop-i
invariant-loop-i l = record {
  records_near : l.rest.at + l.rest.left * record_size ≡ l.fn.records.at + l.fn.records.left * record_size;
  operations_near : l.from ≤ l.other_start + l._i * operation_most;
  same : matched_part l.all l.master l.other l.directory l.fn.records.left l.fn.records.at l.operations l.other_start
      ≡ matched_part l.all l.master l.other l.directory l.rest.left l.rest.at (l.operations - l._i) l.from;
}
