-- The opening is what was passed quickly, and what the rules say of the rest.
use Rattle.std.proofs.Common.{◌≡◌, ℕ, List}
use Rattle.std.specs.Prelude.{Bool, ◌||◌}
use Rattle.base_format.specs.declared.card.CardTable.{CardTable}
use Rattle.base_format.specs.declared.header.Header.{Header}
use Rattle.base_format.specs.Card.{cards_of}
use Rattle.base_format.specs.Checked.{mapped}
use Rattle.base_format.specs.Operation.{setting_of}
use Rattle.base_format.proofs.Answered.{passed_on}
use Rattle.check_items.specs.Walk.{walked}
use Rattle.check_items.proofs.Steps.{walked_with_lem}
use Rattle.check_fast_limits.specs.Limits.{limit_table}
use Rattle.check_fast.specs.declared.run.QuickRun.{QuickRun}
use Rattle.check_fast.specs.Run.{quick_run}
use Rattle.check_fast.proofs.Ran.{quick_ran}
use Rattle.check_body.proofs.opening.check_opening.Goals as goal

whole : (file : List ℕ) (h : Header) (cards : CardTable) (table : List (List ℕ)) (limit count at : ℕ) (run : QuickRun) → table ≡ limit_table h.version (cards_of cards)
    → run ≡ quick_run h.version file h.pool_count h.directory_offset table limit count at
    → walked (setting_of file h cards) file limit count at
    ≡ mapped {B = ℕ × Bool} (λ (found : ℕ × Bool). (found.0, run.si22 || found.1)) (walked (setting_of file h cards) file limit run.left run.at)
whole file h cards table limit count at run known is =
    rw (
      quick_ran h.version (cards_of cards) h.pool_count h.directory_offset file table limit count at known,
      ← is,
      walked_with_lem run.si22 (setting_of file h cards) file limit run.left run.at,
    )

pub returns-in_err-place : goal.returns-in_err-place
returns-in_err-place c =
    let a = c.args in
    rw (passed_on _ _ c.from_residual.ensures.1, ← c.opening_limit-limit.ensures, whole a.file.now a.header a.cards a.table.now _ _ _ _ c.requires c.quick_run-run.ensures, ← c.in_err-place.ensures)

pub returns : goal.returns
returns c =
    let a = c.args in
    rw (← c.opening_limit-limit.ensures, whole a.file.now a.header a.cards a.table.now _ _ _ _ c.requires c.quick_run-run.ensures, ← c.in_ok-place.ensures)
