-- The loop's invariant: the bytes still to write, behind those that stand, are the whole.
use Prim.Native.Nat.{◌+◌, ◌-◌, ◌*◌, ◌≤◌}
use mathlib.Core.Path.{◌≡◌, ◌∙◌}
use mathlib.Core.List.{◌∷◌}
use lib.ListN.{length}
use Rattle.base_master.specs.Result.{pcm_bytes}
use Rattle.bytes_put_fields.proofs.Writing.{Writing}
use Rattle.repack_put_payloads.proofs.put_pcm.Given as goal

abbrev pub invariant-loop-left : goal.invariant-loop-left
invariant-loop-left l = (l.from + l.left * 5 ≤ length l.file) × Writing (pcm_bytes l.file l.count 20) l.at l.initial.buffer (pcm_bytes l.file l.left l.from) l.place l.buffer

abbrev pub decreases-loop-left : goal.decreases-loop-left
decreases-loop-left l = l.left
