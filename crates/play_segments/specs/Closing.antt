-- The closing writes, each a segment: with (11, 0x0C, 0) there are 33, and without it the same ones from the second on.
use Rattle.std.specs.Prelude.{ℕ, ◌+◌, ◌*◌, ◌-◌, ◌/◌, ◌%◌, cond, eqb}
use Rattle.play_store_segment.specs.declared.Segment.{Segment}
use Rattle.play_segments.specs.Place.{one_value}

-- one record of value 0
abbrev pub zero_to : (target address : ℕ) → Segment
zero_to target address = one_value target address 1 0

-- the closing write of an index
unfoldable pub closing_segment : (index : ℕ) → Segment
closing_segment index =
    cond (eqb index 0) (zero_to 11 0x0C)
    (cond (eqb ((index - 1) % 2) 0) (zero_to ((index - 1) / 16) (0x800 + 32 * ((index - 1) % 16 / 2) + 3))
    (zero_to ((index - 1) / 16) (0x800 + 32 * ((index - 1) % 16 / 2) + 0x19)))
