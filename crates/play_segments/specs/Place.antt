-- How the storing of a call's records goes on from a place.
use Rattle.std.specs.Prelude.{ℕ, ◌-◌, false, cond, eqb}
use Rattle.play_store_segment.specs.declared.Segment.{Segment}
use Rattle.play_segments.specs.declared.place.Place.{Place}

-- so many records of one value, upward from an address
abbrev pub one_value : (target address count value : ℕ) → Segment
one_value target address count value =
    record { target = target; address = address; count = count; copied = false; value = value; from = 0 }

-- nothing is left
abbrev pub stopped : Place → Place
stopped place =
    record { closing = place.closing; left = 0; opening = place.opening; after = place.after; cursor = place.cursor; done = place.done; total = place.total; room = place.room }

-- where the next operation is: behind the opening's last one comes the frame's first one
abbrev pub next_cursor : Place → (cursor : ℕ) → ℕ
next_cursor place cursor = cond (eqb place.opening 1) place.after cursor

-- one closing write or operation more is done, and so many records are taken
abbrev pub onward : Place → (cursor taken : ℕ) → Place
onward place cursor taken =
    record { closing = place.closing; left = place.left - 1; opening = place.opening - 1; after = place.after; cursor = next_cursor place cursor; done = 0; total = place.total; room = place.room - taken }

-- where in the run the next record goes
abbrev pub run_place : Place → ℕ
run_place place = place.total - place.room
