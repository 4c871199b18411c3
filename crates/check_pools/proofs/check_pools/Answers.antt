-- The pool at `id` comes first of those that are left (`pools_step`); its refusal is the answer, and behind the last one no pool is left.
use Rattle.std.proofs.Common.{arith, ◌≡◌, ◌-◌, sym}
use Rattle.base_format.proofs.Answered.{passed_on}
use Rattle.check_pools.proofs.PoolWalk.{pools_step, pools_end_lem, pool_within}
use Rattle.check_pools.proofs.check_pools.Goals as goal

pub loop-id-init : goal.loop-id-init
loop-id-init c =
    let count = c.args.header.pool_count in
    let all : count - 0 ≡ count = omega arith in
    (omega arith, rw all)

pub returns-in_err-check_pool : goal.returns-in_err-check_pool
returns-in_err-check_pool c =
    let s = c.args in
    rw (
      passed_on _ _ c.from_residual.ensures.1,
      c.loop-id.invariant.1,
      pools_step s.header.version s.file.now s.header.directory_offset s.header.pool_count c.loop-id.id c.loop-id.start _ c.read_pool-pool.ensures (omega arith),
      ← c.in_err-check_pool.ensures,
    )

pub loop-id-preserved : goal.loop-id-preserved
loop-id-preserved c =
    let s = c.args in
    let within = pool_within s.header.version s.file.now _ c.loop-id.id c.loop-id.start _ (sym c.in_ok-check_pool.ensures) in (
      omega arith,
      rw (
        c.loop-id.invariant.1,
        pools_step s.header.version s.file.now s.header.directory_offset s.header.pool_count c.loop-id.id c.loop-id.start _
            c.read_pool-pool.ensures (omega arith),
        ← c.in_ok-check_pool.ensures,
      ),
    )

pub returns : goal.returns
returns c =
    let s = c.args in
    let all : c.loop-id.id ≡ s.header.pool_count = omega arith in
    rw (c.loop-id.invariant.1, all, pools_end_lem s.header.version s.file.now s.header.directory_offset s.header.pool_count)
