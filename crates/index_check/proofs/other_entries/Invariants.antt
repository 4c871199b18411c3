-- The entries that are left decide.
use Rattle.std.proofs.Common.{◌≡◌, ◌-◌}
use Rattle.index_check.specs.Other.{entries_other}
use Rattle.index_check.proofs.other_entries.Given as goal

abbrev pub invariant-loop-i : goal.invariant-loop-i
invariant-loop-i l = entries_other l.version l.file l.index l.entries 0 l.start ≡ entries_other l.version l.file l.index (l.entries - l.i) l.i l.at
