-- What the loop keeps: the records still to take decide.
use Rattle.std.proofs.Common.{◌≡◌, ◌+◌, ◌*◌, ◌-◌, ◌<◌}
use Rattle.repack_wave_hash.specs.Hash.{hashed}
use Rattle.repack_wave_hash.proofs.bucket.Given as goal

abbrev pub invariant-loop-i : goal.invariant-loop-i
invariant-loop-i l = record {
  short : l.hash < 4294967296;
  there : l.place ≡ l.at + l._i * 20;
  same : hashed l.file 64 l.at 0 ≡ hashed l.file (64 - l._i) l.place l.hash;
}
