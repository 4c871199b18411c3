-- The number that is made of a call's records, segment by segment.
use Rattle.std.specs.Prelude.{ℕ, zero, suc, ◌+◌, ◌*◌, ◌%◌, ◌^◌, cond, List, ◌==◌, nat_lt}
use Rattle.base_format.specs.declared.player.StreamPlayer.{StreamPlayer}
use Rattle.base_format.specs.Bytes.{byte}
use Rattle.play_segments.specs.declared.place.Place.{Place}
use Rattle.play_segments.specs.Turn.{turn}
use Rattle.play_segments_first.specs.First.{first_place}
use Rattle.play_store_segment.specs.declared.Segment.{Segment}

-- one value more
abbrev pub mixed : (sum value : ℕ) → ℕ
mixed sum value = (sum * 33 + value) % 2 ^ 32

abbrev pub next32 : ℕ → ℕ
next32 n = (n + 1) % 2 ^ 32

-- a record: its place in the run, its target, its address and its value
abbrev pub record_mixed : (sum place target address value : ℕ) → ℕ
record_mixed sum place target address value = mixed (mixed (mixed (mixed sum place) target) address) value

-- the value of a segment's record
unfoldable pub value_at : List ℕ → Segment → (i : ℕ) → ℕ
value_at file segment i = cond segment.copied (byte file (segment.from + i)) segment.value

-- so many records of a segment from one on
unfoldable pub records_mixed : List ℕ → Segment → (count i place address sum : ℕ) → ℕ
records_mixed file segment zero i place address sum = sum
records_mixed file segment (suc count) i place address sum =
    records_mixed file segment count (i + 1) (next32 place) (next32 address) (record_mixed sum place segment.target address (value_at file segment i))

-- a segment that is stored from a place of the run on; a run of the stored lists has at most 65,535 records
unfoldable pub segment_mixed : List ℕ → Segment → (at sum : ℕ) → ℕ
segment_mixed file segment at sum = cond (nat_lt 0xFFFF at) 0 (records_mixed file segment segment.count 0 at segment.address sum)

-- so many turns at most, until nothing is left
unfoldable pub mixed_in : (turns : ℕ) → List ℕ → StreamPlayer → Place → (sum : ℕ) → ℕ
mixed_in zero file state place sum = sum
mixed_in (suc turns) file state place sum =
    let next = turn file state place in
    cond (place.left == 0) sum (mixed_in turns file state next.place (segment_mixed file next.segment next.at sum))

-- the records of a call that takes so many and has a run of a length
unfoldable pub mixed_call : List ℕ → StreamPlayer → (count room : ℕ) → ℕ
mixed_call file state count room =
    let first = first_place file state count room in
    mixed_in first.left file state first 0x811C9DC5
