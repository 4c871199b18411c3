-- What a call reports is what it answers: as many records as it counts, from the front of the run that it leaves, are the answer's. So a
-- listener that is fed the reports hears the answers that demand 3 speaks of (`Reports`, base_format/specs/Promises).
use Prim.Native.Nat.{ℕ}
use mathlib.Core.List.{List}
use mathlib.Core.Path.{◌≡◌, refl, ap, ap₂, ◌∙◌}
use lib.ListN.{length, take}
use Rattle.base_format.specs.declared.operation.WriteRecord.{WriteRecord}
use Rattle.base_format.specs.declared.player.StreamPlayer.{StreamPlayer}
use Rattle.base_format.specs.Checked.{Checked, ok, refused}
use Rattle.base_format.specs.Player.{Played, call, run_after}
use Rattle.base_format.proofs.Lent.{reports}
use Rattle.play_planned.specs.declared.Vsync.{Vsync}
use Rattle.play_planned.specs.Vsync.{vsync_of, records_of, Advanced}

pub reported : (state : StreamPlayer) (file : List ℕ) (run : List WriteRecord) (told : Vsync) (state' : StreamPlayer) (run' : List WriteRecord)
    → Advanced state file run told state' run' → take told.count run' ≡ records_of (call state file (length run))
reported state file run told state' run' advanced =
    ap₂ (λ (n : ℕ) (l : List WriteRecord). take n l) (ap (λ (v : Vsync). v.count) advanced.0) advanced.2 ∙ go (call state file (length run)) refl
  where
    go : (answer : Checked Played) → call state file (length run) ≡ answer → take (vsync_of answer).count (run_after run answer) ≡ records_of answer
    go (ok answer) e = rw e at (reports state file run answer e)
    go (refused number place) e = refl
