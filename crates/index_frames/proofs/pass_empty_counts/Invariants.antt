-- What is passed is empty, and four frames are passed at each turn.
use Rattle.std.proofs.Common.{◌≡◌, ◌+◌, ◌*◌}
use Rattle.index_laws.specs.Frames.{EmptyPassed}
use Rattle.index_frames.proofs.pass_empty_counts.Given as goal

abbrev pub invariant-loop-i : goal.invariant-loop-i
invariant-loop-i l = record { passed : EmptyPassed l.file l.count l.start l.left l.at; four : l._i * 4 + l.left ≡ l.count }
