-- What the loop keeps: playing the records that are left in the image is playing all in the first one.
use Rattle.std.proofs.Common.{◌≡◌, ◌+◌, ◌*◌, ◌-◌}
use Rattle.base_format.specs.Compare.{played}
use Rattle.base_format.specs.Size.{record_size}
use Rattle.compare_segment.specs.Segments.{record_writes}
use Rattle.compare_images.proofs.master.play_records.Given as goal

abbrev pub invariant-loop-i : goal.invariant-loop-i
invariant-loop-i l =
    played l.initial.image (record_writes l.file l.count l.start) ≡ played l.image (record_writes l.file (l.count - l.i) (l.start + l.i * record_size))
