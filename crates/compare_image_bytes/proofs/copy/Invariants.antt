-- What the loop keeps: playing the bytes that are left in the image is playing all in the first one.
use Rattle.std.proofs.Common.{◌≡◌, ◌+◌, ◌-◌}
use Rattle.base_format.specs.Compare.{played}
use Rattle.compare_segment.specs.Segments.{spread}
use Rattle.compare_image_bytes.proofs.copy.Given as goal

abbrev pub invariant-loop-i : goal.invariant-loop-i
invariant-loop-i l = played l.initial.image (spread l.file 2 l.address l.source 1 l.count) ≡ played l.image (spread l.file 2 (l.address + l.i) (l.source + l.i) 1 (l.count - l.i))
