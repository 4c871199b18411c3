-- The frames that are left decide.
use Rattle.std.proofs.Common.{◌≡◌, ◌-◌}
use Rattle.check_frames.specs.Skipped.{skipped}
use Rattle.check_frames.proofs.empty_frames.skip_empty.Given as goal

abbrev pub invariant-loop-passed : goal.invariant-loop-passed
invariant-loop-passed l = skipped l.file l.count l.start ≡ skipped l.file (l.count - l.passed) l.at
