-- A list of pitches: its rule is computed once over all entries, and carried to each.
use Prim.Native.Nat.{ℕ, ◌<◌}
use mathlib.Core.Path.{◌≡◌}
use mathlib.Core.Bool.{Bool, true, ◌&&◌}
use mathlib.Core.List.{List}
use borrow.Author.Tests.{leb-true}
use lib.Dec.{leb}
use lib.ListN.{get_or}
use Rattle.base_format.proofs.Checks.{and_true}
use Rattle.base_format.proofs.Every.{every, each}
use Rattle.pitch_table.specs.Pitch.{is_pitch, pitch_of, sum_at}
use Rattle.pitch_table.proofs.Rule.{pitch_is}

-- an entry is a number up to 65,535 that meets the rule of its sum
unfoldable pub is_entry : (pitches : List ℕ) (place : ℕ) → Bool
is_entry pitches place = leb (get_or pitches place 0) 65535 && is_pitch (sum_at place) (get_or pitches place 0)

pub entry_is : (pitches : List ℕ) → every 224 (is_entry pitches) ≡ true → (place : ℕ) → place < 224 → get_or pitches place 0 ≡ pitch_of (sum_at place)
unfolding is_entry
entry_is pitches rule place h =
    let e = and_true _ _ (each 224 (is_entry pitches) rule place h) in
    pitch_is (sum_at place) (get_or pitches place 0) (leb-true _ _ e.0) e.1
