-- `base_targets::Target::outside` meets its contract: the tests that were taken decide it.
use borrow.Author.Rules.{rules}
use Rattle.base_targets.proofs.Decided.{decided}
use Rattle.base_targets.specs.Target.{outside}
use Rattle.base_targets.proofs.Target.outside.Statement.{statement}
use Rattle.base_targets.proofs.Target.outside.Tie as tie

returns : tie.Need-returns-then-length-eq0
unfolding outside
returns c = search decided

returns_2 : tie.Need-returns-then-address-start
unfolding outside
returns_2 c = search (decided, ← c.before.before.before.bulk_start-start.ensures)

returns_3 : tie.Need-returns
unfolding outside
returns_3 c = search (decided, ← c.before.before.before.bulk_start-start.ensures, ← c.before.before.bulk_length.ensures)

pub outside_spec : {M : Type 1} → statement M
outside_spec = tie.close (tie.spec (search rules) (search rules) (search rules) (search rules) (search rules) returns returns_2 (search rules) returns_3)
