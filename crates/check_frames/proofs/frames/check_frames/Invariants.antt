-- What the frames that are left say is what all of them say; each turn leaves fewer.
use Rattle.std.proofs.Common.{◌≡◌}
use Rattle.base_format.specs.Operation.{setting_of}
use Rattle.check_frames.specs.Frames.{frames_said}
use Rattle.check_frames.proofs.frames.check_frames.Given as goal

abbrev pub invariant-loop-left : goal.invariant-loop-left
invariant-loop-left l =
    frames_said (setting_of l.file l.header l.cards) l.file l.header.frame_count l.header.frame_start l.si22 ≡ frames_said (setting_of l.file l.header l.cards) l.file l.left l.at l.seen

abbrev pub decreases-loop-left : goal.decreases-loop-left
decreases-loop-left l = l.left
