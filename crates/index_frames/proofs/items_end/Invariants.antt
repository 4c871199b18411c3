-- Where what is left ends is where all ends.
use Rattle.std.proofs.Common.{◌≡◌, ◌-◌}
use Rattle.index_laws.specs.Frames.{items_walked}
use Rattle.index_frames.proofs.items_end.Given as goal

abbrev pub invariant-loop-i : goal.invariant-loop-i
invariant-loop-i l = items_walked l.width l.file l.count l.start ≡ items_walked l.width l.file (l.count - l._i) l.at
