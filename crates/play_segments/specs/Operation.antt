-- The writes of one operation as a segment.
use Rattle.std.specs.Prelude.{ℕ, ◌+◌, Bool, true, ◌||◌, List, ltb}
use Rattle.base_format.specs.declared.operation.Operation.{Operation}
use Rattle.base_format.specs.declared.operation.Operation.TheVariants.{Write, Fill, Copy}
use Rattle.play_laws.specs.Plan.{count_of, address_of}
use Rattle.base_format.specs.Pool.{pool_at}
use Rattle.play_store_segment.specs.declared.Segment.{Segment}
use Rattle.play_segments.specs.Place.{one_value}

-- more writes are done than there are, or the next one's address has more than 32 bits
unfoldable pub unplayable : Operation → (done : ℕ) → Bool
unplayable operation done = ltb (count_of operation) done || ltb 0xFFFFFFFF (address_of operation + done)

-- so many writes behind those that are done, upward from an address
abbrev pub segment_from : List ℕ → (directory : ℕ) → Operation → (address done count : ℕ) → Segment
segment_from file directory (Write target first value) address done count = one_value target address count value
segment_from file directory (Fill target first size value) address done count = one_value target address count value
segment_from file directory (Copy target first id source size) address done count =
    record { target = target; address = address; count = count; copied = true; value = 0; from = (pool_at file directory id).offset + (source + done) }
