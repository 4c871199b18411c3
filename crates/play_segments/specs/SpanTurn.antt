-- The turn of an item whose writes are numbers alone.
use Rattle.std.specs.Prelude.{ℕ, ◌+◌, ◌-◌, min, Bool, cond, ◌||◌, leb, ltb}
use Rattle.play_store_segment.specs.declared.Segment.{Segment}
use Rattle.play_segments.specs.declared.place.Place.{Place}
use Rattle.play_segments.specs.declared.place.Turn.{Turn}
use Rattle.play_item_span.specs.declared.span.Span.{Span}
use Rattle.play_segments.specs.Place.{stopped, onward, run_place}
use Rattle.play_segments.specs.Turn.{halted}

-- more writes are done than there are, or the next one's address has more than 32 bits
unfoldable pub span_ended : Span → (done : ℕ) → Bool
span_ended span done = ltb span.count done || ltb 0xFFFFFFFF (span.address + done)

-- where the copied bytes begin behind those that are done
abbrev pub from_behind : Span → (done : ℕ) → ℕ
from_behind span done = cond span.copied (span.offset + (span.source + done)) 0

-- so many writes behind those that are done
abbrev pub span_segment : Span → (done count : ℕ) → Segment
span_segment span done count =
    record { target = span.target; address = span.address + done; count = count; copied = span.copied; value = span.value; from = from_behind span done }

-- the place behind so many writes; with no room behind them nothing is left
abbrev pub place_behind : Place → (next rest : ℕ) → Place
place_behind place next rest = cond (leb place.room rest) (stopped place) (onward place next rest)

unfoldable pub span_turn : Place → Span → Turn
span_turn place span =
    let rest = span.count - place.done in
    cond (span_ended span place.done) (halted place)
    (record { at = run_place place; segment = span_segment span place.done (min place.room rest); place = place_behind place span.next rest })
