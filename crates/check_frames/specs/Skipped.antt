-- Passing over empty frames.
use Rattle.std.specs.Prelude.{ℕ, zero, suc, ◌+◌, cond, not, ◌||◌, List, eqb, ltb, length}
use Rattle.base_format.specs.Bytes.{be}
use Rattle.check_frames.specs.declared.empty_frames.FramesLeft.{FramesLeft}

-- behind the empty frames in front of so many, but for the last
unfoldable pub skipped : List ℕ → (left at : ℕ) → FramesLeft
skipped file zero at = record { at = at; left = 0 }
skipped file (suc n) at =
    cond (eqb n 0 || ltb (length file) (at + 2) || not (eqb (be 2 file at) 0)) (record { at = at; left = suc n }) (skipped file n (at + 2))
