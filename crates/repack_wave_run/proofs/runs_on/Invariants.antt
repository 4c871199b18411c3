-- What the loop keeps: the records still to look at decide.
use Rattle.std.proofs.Common.{◌≡◌, ◌+◌, ◌*◌, ◌-◌}
use Rattle.base_format.specs.Repack.{runs}
use Rattle.base_master.specs.Places.{records_at}
use Rattle.repack_wave_run.proofs.runs_on.Given as goal

abbrev pub invariant-loop-i : goal.invariant-loop-i
invariant-loop-i l = record {
  place_is : l.place ≡ l._i * 5;
  head_is : l.head ≡ l.target * 16777216 + l.address + l._i;
  same : runs 256 l.target l.address (records_at l.records 256 0) ≡ runs (256 - l._i) l.target (l.address + l._i) (records_at l.records (256 - l._i) l.place);
}
