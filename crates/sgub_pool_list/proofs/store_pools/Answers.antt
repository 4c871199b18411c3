-- Each turn stores the next entry, and behind the last turn all stand.
use Rattle.std.proofs.Common.{arith, ◌∙◌, ◌≡◌, length, min}
use Rattle.sgub_pool_list.proofs.Stored.{pasted_next, stored_is}
use Rattle.sgub_pool_list.proofs.store_pools.Goals as goal

pub loop-id-preserved : goal.loop-id-preserved
loop-id-preserved c =
    let a = c.args in
    rw (c.from.ensures, c.read_pool.ensures, c.loop-id.invariant) (pasted_next a.file.now a.directory a.count a.run.now c.loop-id.id (omega arith))

pub returns : goal.returns
returns c =
    let a = c.args in
    let all : c.loop-id.id ≡ min (length a.run.now) a.count = omega arith in
    c.loop-id.invariant ∙ rw all (stored_is a.file.now a.directory a.count a.run.now)
