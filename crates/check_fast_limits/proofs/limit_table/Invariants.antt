-- The values below `number` stand in the columns.
use Rattle.std.proofs.Common.{ℕ}
use Rattle.base_format.specs.declared.card.CardTable.{CardTable}
use Rattle.base_targets.specs.declared.Target.{Target}
use Rattle.base_format.specs.Card.{cards_of}
use Rattle.base_format.specs.Target.{target_of, bulk_start, kind_for}
use Rattle.check_fast_limits.specs.Limits.{write_end, bulk_end}
use Rattle.check_fast_limits.proofs.Tabled.{Filled}
use Rattle.check_fast_limits.proofs.limit_table.Given as goal

-- what a target has, by its number
abbrev pub by : (Target → ℕ) → (version : ℕ) → CardTable → ℕ → ℕ
by f version cards number = f (target_of version (cards_of cards) number)

abbrev pub invariant-loop-number : goal.invariant-loop-number
invariant-loop-number l = record {
  writes : Filled (by write_end l.version l.cards) l.number l.write_ends;
  starts : Filled (by bulk_start l.version l.cards) l.number l.bulk_starts;
  ends : Filled (by bulk_end l.version l.cards) l.number l.bulk_ends;
  kinds : Filled (by kind_for l.version l.cards) l.number l.kinds;
}
