-- Behind the last turn no entry is left.
use Rattle.std.proofs.Common.{◌≡◌, ◌-◌, arith, sym}
use Rattle.index_check.proofs.Steps.{none_differs}
use Rattle.index_check.proofs.other_entries.Goals as goal

pub returns : goal.returns
returns c = let none : c.args.entries - c.loop-i.i ≡ 0 = omega arith in sym (rw (none, none_differs) at c.loop-i.invariant)
