-- So many of the entries stand at the run's front.
use Rattle.std.proofs.Common.{◌≡◌}
use Rattle.sgub_pool_list.proofs.Stored.{pasted}
use Rattle.sgub_pool_list.proofs.store_pools.Given as goal

abbrev pub invariant-loop-id : goal.invariant-loop-id
invariant-loop-id l = l.run ≡ pasted l.file l.directory l.count l.initial.run l.id
