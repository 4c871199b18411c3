-- What a vsync plays next. The plan, the records, the quick paths and the theorem of the player go by this one decision.
use Rattle.std.specs.Prelude.{ℕ, cond, not, ltb}
use Rattle.base_format.specs.declared.header.Header.{Header}
use Rattle.base_format.specs.declared.player.NextPart.{NextPart}
use Rattle.base_format.specs.declared.player.NextPart.TheVariants.{Opening, Frame, Closing}
use Rattle.base_format.specs.declared.player.Progress.{Progress}

-- the frame whose count stands at a place, with so many frames of the pass begun before it
abbrev pub frame_next : (place frame : ℕ) → NextPart
frame_next place frame = Frame place frame

abbrev pub opening_next : NextPart
opening_next = Opening

abbrev pub closing_next : NextPart
closing_next = Closing

-- how many frames of the pass are begun before a frame that is next
abbrev pub frames_before : NextPart → ℕ
frames_before Opening = 0
frames_before (Frame place frame) = frame
frames_before Closing = 0

-- between vsyncs: the first one "plays opening and frame 1 together". Behind the last frame a repeating file "plays frame 1 again without the
-- opening", and any other has the closing writes
unfoldable pub next_part : Header → Progress → NextPart
next_part header p =
    cond (not p.initialized) opening_next
    (cond (ltb p.frame_index header.frame_count) (frame_next p.cursor p.frame_index)
    (cond header.repeat (frame_next header.frame_start 0) closing_next))

-- what is done with it: one thing for the opening, one for a frame, and one for the closing writes
abbrev pub by_next : {A : Type 0} → NextPart → (opening : A) → (frame : ℕ → ℕ → A) → (closing : A) → A
by_next Opening opening frame closing = opening
by_next (Frame place number) opening frame closing = frame place number
by_next Closing opening frame closing = closing
