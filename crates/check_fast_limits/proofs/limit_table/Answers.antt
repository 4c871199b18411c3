-- No value stands there at first, and each turn puts the next one into each column.
use Rattle.std.proofs.Common.{refl, ap, ◌∙◌}
use Rattle.base_format.specs.Target.{bulk_start, kind_for}
use Rattle.check_fast_limits.specs.Limits.{write_end, bulk_end}
use Rattle.check_fast_limits.proofs.Tabled.{filled_none, filled_next}
use Rattle.check_fast_limits.proofs.limit_table.Goals as goal

pub loop-number-init : goal.loop-number-init
loop-number-init c = record { writes = filled_none _ _ refl; starts = filled_none _ _ refl; ends = filled_none _ _ refl; kinds = filled_none _ _ refl }

pub loop-number-preserved : goal.loop-number-preserved
loop-number-preserved c =
    let i = c.loop-number.invariant in
    let less = c.loop-number-test.true in
    let t = c.find_target-target.ensures in
    record {
      writes = filled_next _ _ _ _ i.writes less (c.write_end.ensures ∙ ap write_end t);
      starts = filled_next _ _ _ _ i.starts less (c.bulk_start.ensures ∙ ap bulk_start t);
      ends = filled_next _ _ _ _ i.ends less (c.bulk_end.ensures ∙ ap bulk_end t);
      kinds = filled_next _ _ _ _ i.kinds less (c.kind.ensures ∙ ap kind_for t);
    }
