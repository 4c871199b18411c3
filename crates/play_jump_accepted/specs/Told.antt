-- The jump by what a start of the lent file records.
use Rattle.std.specs.Prelude.{ℕ, ◌-◌, true, false, List, length}
use Rattle.base_format.specs.declared.player.StreamPlayer.{StreamPlayer}
use Rattle.base_format.specs.Checked.{Checked, ok, refuse, ◌>>◌}
use Rattle.base_format.specs.Jump.{no_frame}
use Rattle.base_format.specs.State.{between_at, progress_at, moved}
use Rattle.index_check.specs.Other.{other_index}
use Rattle.index_check.specs.Place.{place_by}
use Rattle.play_jump_belongs.specs.Foreign.{foreign_jump}

-- the state before the frame that an index finds in a file of a version
abbrev pub found_by : StreamPlayer → (version : ℕ) → (file index : List ℕ) → (frame : ℕ) → StreamPlayer
found_by state version file index frame =
    moved state (progress_at (between_at (place_by version file index frame) (frame - 1)) true false state.progress.wave_sources)

-- the jump in an accepted file whose start records so: it needs the file's bytes for the index and the frame's place alone
unfoldable pub jumped_by : (state recorded : StreamPlayer) → (file index : List ℕ) → (frame : ℕ) → Checked StreamPlayer
jumped_by state recorded file index frame = do
  refuse 25 0 (foreign_jump (length file) state recorded)
  refuse 26 0 (other_index file recorded.header index)
  refuse 27 0 (no_frame recorded.header.frame_count frame)
  ok (found_by state recorded.header.version file index frame)
