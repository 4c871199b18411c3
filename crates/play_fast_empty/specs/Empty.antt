-- The call of an empty frame: it takes no write, and the player is then behind the frame's count.
use Rattle.std.specs.Prelude.{ℕ, ◌+◌, cond, not, List, eqb, ltb, length}
use Rattle.base_format.specs.declared.header.Header.{Header}
use Rattle.base_format.specs.declared.player.Part.TheVariants.{Between}
use Rattle.base_format.specs.declared.player.Progress.{Progress}
use Rattle.base_format.specs.Bytes.{be}
use Rattle.base_format.specs.Next.{next_part, by_next}
use Rattle.base_format.specs.State.{part_number, between_at}
use Rattle.play_belongs.specs.Foreign.{foreign_to}
use Rattle.play_fast_empty.specs.declared.EmptyStep.{EmptyStep}
use Rattle.play_fast_empty.specs.declared.EmptyStep.TheVariants.{UnderWay, NotTaken, Taken}

-- the call of an empty frame whose count stands at a place
abbrev pub empty_at : (place frame : ℕ) → EmptyStep
empty_at place frame = Taken (between_at (place + 2) (frame + 1))

-- the frame whose count stands there, if it is empty
unfoldable pub empty_frame : List ℕ → (place frame : ℕ) → EmptyStep
empty_frame file place frame =
    cond (ltb (length file) (place + 2)) NotTaken
    (cond (not (eqb (be 2 file place) 0)) NotTaken (empty_at place frame))

-- the call of a state with so many cards
unfoldable pub empty_of : List ℕ → Header → (cards : ℕ) → Progress → EmptyStep
empty_of file header cards p =
    cond (not (eqb p.part (part_number Between))) UnderWay
    (cond p.finished NotTaken
    (cond (foreign_to (length file) header cards p) NotTaken (by_next (next_part header p) NotTaken (empty_frame file) NotTaken)))
