-- What the loop keeps: playing the values that are left in the image is playing all in the first one.
use Rattle.std.proofs.Common.{◌≡◌, ◌+◌, ◌-◌}
use Rattle.std.specs.Prelude.{replicate}
use Rattle.base_format.specs.Compare.{played}
use Rattle.base_format.specs.Writes.{upward}
use Rattle.compare_image_bytes.proofs.fill.Given as goal

abbrev pub invariant-loop-i : goal.invariant-loop-i
invariant-loop-i l = played l.initial.image (upward 2 l.address (replicate l.count l.value)) ≡ played l.image (upward 2 (l.address + l.i) (replicate (l.count - l.i) l.value))
