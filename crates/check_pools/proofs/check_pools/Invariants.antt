-- The pools from `id` on decide.
use Rattle.std.proofs.Common.{◌≡◌, ◌+◌, ◌*◌, ◌^◌, ◌-◌, ◌<◌}
use Rattle.check_pools.specs.Pools.{pools_end}
use Rattle.check_pools.proofs.check_pools.Given as goal

abbrev pub invariant-loop-id : goal.invariant-loop-id
invariant-loop-id l =
    (l.start < 2 ^ 63) × (pools_end l.version l.file l.directory l.count 0 (l.directory + l.count * 16) ≡ pools_end l.version l.file l.directory (l.count - l.id) l.id l.start)
