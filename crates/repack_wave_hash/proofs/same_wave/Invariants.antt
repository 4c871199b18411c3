-- What the loop keeps: the records still to compare decide.
use Rattle.std.proofs.Common.{◌≡◌, ◌+◌, ◌*◌, ◌-◌}
use Rattle.base_format.specs.Bytes.{same_bytes}
use Rattle.base_master.specs.Places.{values_at, wave_at}
use Rattle.repack_wave_hash.proofs.same_wave.Given as goal

abbrev pub invariant-loop-i : goal.invariant-loop-i
invariant-loop-i l = record {
  one : l.one ≡ l.a + l._i * 5;
  other : l.other ≡ l.b + l._i * 5;
  same : same_bytes (wave_at l.file l.a) (wave_at l.file l.b) ≡ same_bytes (values_at l.file (256 - l._i) l.one) (values_at l.file (256 - l._i) l.other);
}
