-- The rules 13 to 20 as the code checks them: no list is built, and of the operations it keeps where they end and whether one has
-- target 11.
use Rattle.std.specs.Prelude.{ℕ, Bool, not, List, eqb, length}
use Rattle.base_format.specs.declared.header.Header.{Header}
use Rattle.base_format.specs.Checked.{Checked, ok, refuse, ◌>>=◌, ◌>>◌}
use Rattle.base_format.specs.Operation.{Setting}
use Rattle.base_format.specs.Stream.{opening_limit}
use Rattle.check_items.specs.Walk.{walked}
use Rattle.check_frames.specs.Frames.{frames_said}

-- the frames behind an opening, with rule 20
abbrev pub frames_checked : Setting → Header → List ℕ → Bool → Checked Bool
frames_checked setting header file si22 = do
  frames ← frames_said setting file header.frame_count header.frame_start si22
  refuse 20 frames.0 (not (eqb frames.0 (length file)))
  ok frames.1

-- the rules 13 to 20: whether an operation has target 11
abbrev pub body_from : Setting → Header → List ℕ → Checked Bool
body_from setting header file = do
  opening ← walked setting file (opening_limit header file) header.initial_count header.initial_start
  refuse 20 opening.0 (not (eqb opening.0 header.frame_start))
  frames_checked setting header file opening.1
