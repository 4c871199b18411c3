-- `value` is the number in the first `i` bytes; each turn reads one more.
use Rattle.std.proofs.Common.{◌≡◌}
use Rattle.base_format.specs.Bytes.{be}
use Rattle.bytes_load.proofs.load_each.Given as goal

abbrev pub invariant-loop-i : goal.invariant-loop-i
invariant-loop-i g l = l.value ≡ be l.i l.file l.at
