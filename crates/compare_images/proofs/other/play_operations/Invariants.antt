-- What the loop keeps: places are small, and playing the operations that are left in the image is playing all in the first one.
use Rattle.std.proofs.Common.{◌≡◌, ◌≤◌, ◌+◌, ◌*◌, ◌-◌}
use Rattle.base_format.specs.Compare.{played}
use Rattle.base_format.specs.Size.{operation_most}
use Rattle.compare_segment.specs.Segments.{operation_writes}
use Rattle.compare_images.proofs.other.play_operations.Given as goal

abbrev pub invariant-loop-i : goal.invariant-loop-i
invariant-loop-i l = record {
  near : l.at ≤ l.start + l._i * operation_most;
  same : played l.initial.image (operation_writes l.file l.directory l.count l.start) ≡ played l.image (operation_writes l.file l.directory (l.count - l._i) l.at);
}
