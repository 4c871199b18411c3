-- Behind the empty frames the walk ends where all ends, and behind the last turn nothing is left.
use Rattle.std.proofs.Common.{◌≡◌, ◌-◌, arith, sym}
use Rattle.index_laws.proofs.Empty.{empty_walked}
use Rattle.index_laws.proofs.Frames.{frames_none}
use Rattle.index_frames.proofs.frames_end.Goals as goal

pub loop-i-init : goal.loop-i-init
loop-i-init c =
    let a = c.args in
    let next = c.pass_empty_counts-at in
    let left : a.count - (a.count - next.result.left) ≡ next.result.left - 0 = omega arith in
    rw next.ensures.here (rw left at (empty_walked a.version a.file.now (a.count - next.result.left) a.count a.start (omega arith) next.ensures.empty))

pub returns : goal.returns
returns c =
    let none : c.pass_empty_counts-at.result.left - c.loop-i._i ≡ 0 = omega arith in
    sym (rw (none, frames_none) at c.loop-i.invariant)
