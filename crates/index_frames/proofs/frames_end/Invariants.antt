-- Where what is left ends is where all ends.
use Rattle.std.proofs.Common.{◌≡◌, ◌-◌}
use Rattle.index_laws.specs.Frames.{frames_walked}
use Rattle.index_frames.proofs.frames_end.Given as goal

abbrev pub invariant-loop-i : goal.invariant-loop-i
invariant-loop-i l = frames_walked l.version l.file l.count l.start ≡ frames_walked l.version l.file (l.left - l._i) l.at
