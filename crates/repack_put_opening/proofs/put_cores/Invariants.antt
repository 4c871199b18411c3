-- What the loop keeps: the bytes still to write, behind those that stand, are the whole.
use Rattle.std.proofs.Common.{◌+◌, ◌*◌, ◌-◌}
use Rattle.base_master.specs.Result.{core_bytes}
use Rattle.bytes_put_fields.proofs.Writing.{Writing}
use Rattle.repack_put_opening.proofs.put_cores.Given as goal

abbrev pub invariant-loop-i : goal.invariant-loop-i
invariant-loop-i l = Writing (core_bytes l.file l.count 20) l.at l.initial.buffer (core_bytes l.file (l.count - l.i) (20 + l.i * 5)) l.place l.buffer
