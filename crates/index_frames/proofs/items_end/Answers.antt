-- Behind the last turn nothing is left.
use Rattle.std.proofs.Common.{◌≡◌, ◌-◌, arith, sym}
use Rattle.index_laws.proofs.Frames.{items_none}
use Rattle.index_frames.proofs.items_end.Goals as goal

pub returns : goal.returns
returns c = let none : c.args.count - c.loop-i._i ≡ 0 = omega arith in sym (rw (none, items_none) at c.loop-i.invariant)
