-- The place before the first record of a call.
use Rattle.std.specs.Prelude.{ℕ, ◌+◌, ◌-◌, true, false, cond, List, eqb, ltb, length}
use Rattle.base_format.specs.State.{part_of}
use Rattle.base_format.specs.declared.header.Header.{Header}
use Rattle.base_format.specs.declared.player.Part.{Part}
use Rattle.base_format.specs.declared.player.Part.TheVariants.{Between, Opening, Frame, Closing}
use Rattle.base_format.specs.declared.player.StreamPlayer.{StreamPlayer}
use Rattle.base_format.specs.Bytes.{be}
use Rattle.base_format.specs.Next.{next_part, by_next}
use Rattle.base_format.specs.Writes.{closing_count}
use Rattle.base_format.specs.Player.{operations_left}
use Rattle.play_segments.specs.declared.place.Place.{Place}

-- no record is taken
abbrev pub nowhere : (total : ℕ) → Place
nowhere total = record {
  closing = false;
  left = 0;
  opening = 0;
  after = 0;
  cursor = 0;
  done = 0;
  total = total;
  room = total;
}

-- the closing writes behind so many
abbrev pub closing_from : StreamPlayer → (done total : ℕ) → Place
closing_from state done total =
    record {
      closing = true;
      left = closing_count state.uses_si22 - done;
      opening = 0;
      after = 0;
      cursor = 0;
      done = 0;
      total = total;
      room = total;
    }

-- so many operations of a frame from a cursor on
abbrev pub frame_place : (left cursor done total : ℕ) → Place
frame_place left cursor done total =
    record {
      closing = false;
      left = left;
      opening = 0;
      after = cursor;
      cursor = cursor;
      done = done;
      total = total;
      room = total;
    }

-- the frame whose count stands at a cursor
unfoldable pub frame_at : List ℕ → (cursor total : ℕ) → Place
frame_at file cursor total = cond (ltb (length file) (cursor + 2)) (nowhere total) (frame_place (be 2 file cursor) (cursor + 2) 0 total)

-- so many operations of the opening from a cursor on, and then the first frame
unfoldable pub opening_place : List ℕ → Header → (left cursor done total : ℕ) → Place
opening_place file header left cursor done total =
    let frame = frame_at file header.frame_start total in
    cond (eqb left 0) frame
    (record {
      closing = false;
      left = left + frame.left;
      opening = left;
      after = frame.cursor;
      cursor = cursor;
      done = done;
      total = total;
      room = total;
    })

-- between vsyncs the next one begins
unfoldable pub between_place : List ℕ → StreamPlayer → (total : ℕ) → Place
between_place file state total =
    let header = state.header in
    by_next (next_part header state.progress) (opening_place file header header.initial_count header.initial_start 0 total)
    (λ (place frame : ℕ). frame_at file place total)
    (closing_from state 0 total)

-- the part that is under way goes on
abbrev pub part_place : List ℕ → StreamPlayer → (total : ℕ) → Part → Place
part_place file state total Between = between_place file state total
part_place file state total Opening =
    opening_place file state.header (operations_left state.progress) state.progress.cursor state.progress.write_index total
part_place file state total Frame = frame_place (operations_left state.progress) state.progress.cursor state.progress.write_index total
part_place file state total Closing = closing_from state state.progress.write_index total

-- of a call that takes so many records and has a run of `total`
unfoldable pub first_place : List ℕ → StreamPlayer → (count total : ℕ) → Place
first_place file state count total = cond (eqb count 0) (nowhere total) (part_place file state total (part_of state.progress.part))
