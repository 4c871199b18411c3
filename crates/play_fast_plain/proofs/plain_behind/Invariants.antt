-- The loop's invariant: the place behind those that are left is the place behind all.
use Rattle.std.proofs.Common.{◌-◌, ◌≡◌}
use Rattle.play_fast_plain.specs.Plain.{plain_behind}
use Rattle.play_fast_plain.proofs.plain_behind.Given as goal

abbrev pub invariant-loop-i : goal.invariant-loop-i
invariant-loop-i l = plain_behind l.version l.file l.end l.count l.start ≡ plain_behind l.version l.file l.end (l.count - l._i) l.at
