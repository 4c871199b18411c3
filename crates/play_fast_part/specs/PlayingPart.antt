-- What a vsync call goes on with: the part that is under way, or the one that the call begins.
use Rattle.std.specs.Prelude.{ℕ, ◌+◌, ◌-◌, cond, not, List, eqb, ltb, length, Option, Some, None}
use Rattle.base_format.specs.declared.header.Header.{Header}
use Rattle.base_format.specs.declared.player.Part.TheVariants.{Between, Opening, Frame}
use Rattle.base_format.specs.declared.player.Position.{Position}
use Rattle.base_format.specs.declared.player.Progress.{Progress}
use Rattle.base_format.specs.Bytes.{be}
use Rattle.base_format.specs.Next.{next_part, by_next}
use Rattle.base_format.specs.State.{part_number, opening_from, frame_from, position_of, moved_to}
use Rattle.base_format.specs.Stream.{opening_limit}
use Rattle.play_belongs.specs.Foreign.{foreign_to}
use Rattle.play_fast_part.specs.declared.PlayingPart.{PlayingPart}

-- a part that goes on at a position
abbrev pub going_on : (limit : ℕ) → Position → PlayingPart
going_on limit at = record { limit = limit; at = at }

-- the opening or a frame goes on
unfoldable pub under_way : List ℕ → Header → Progress → Option PlayingPart
under_way file header p =
    cond (eqb p.part (part_number Opening)) (Some (going_on (opening_limit header file) (position_of p)))
    (cond (not (eqb p.part (part_number Frame))) None
    (cond (not p.initialized) None (Some (going_on (length file) (position_of p)))))

-- a frame that begins, counted from 0, behind its count that stands at a place
abbrev pub frame_on : List ℕ → (place frame : ℕ) → PlayingPart
frame_on file place frame = going_on (length file) (frame_from (place + 2) (be 2 file place) (frame + 1))

-- where the file has the count
unfoldable pub frame_begun_at : List ℕ → (place frame : ℕ) → Option PlayingPart
frame_begun_at file place frame = cond (ltb (length file) (place + 2)) None (Some (frame_on file place frame))

-- between vsyncs the next one begins
unfoldable pub part_between : List ℕ → Header → Progress → Option PlayingPart
part_between file header p =
    by_next (next_part header p) (Some (going_on (opening_limit header file) (opening_from header))) (frame_begun_at file) None

-- what the call of a state with so many cards goes on with
unfoldable pub playing_part_of : List ℕ → Header → (cards : ℕ) → Progress → Option PlayingPart
playing_part_of file header cards p =
    cond p.finished None
    (cond (foreign_to (length file) header cards p) None
    (cond (eqb p.part (part_number Between)) (part_between file header p) (under_way file header p)))

-- the operations that are left of it
abbrev pub left_of : PlayingPart → ℕ
left_of c = c.at.operation_count - c.at.operation_index

-- the progress in that part
abbrev pub playing : Progress → PlayingPart → Progress
playing p c = moved_to p c.at
