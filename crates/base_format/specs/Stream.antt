-- A whole file, read by the sheet's list of checks 1 to 20.
use Rattle.std.specs.Prelude.{ℕ, zero, suc, ◌+◌, ◌*◌, Bool, cond, not, ◌||◌, List, [], ◌∷◌, length, eqb, ltb}
use Rattle.base_format.specs.declared.card.CardRequirement.{CardRequirement}
use Rattle.base_format.specs.declared.header.Header.{Header}
use Rattle.base_format.specs.declared.operation.Operation.{Operation}
use Rattle.base_format.specs.Bytes.{be}
use Rattle.base_format.specs.Card.{cards_from}
use Rattle.base_format.specs.Checked.{Checked, ok, refuse, mapped, ◌>>=◌, ◌>>◌}
use Rattle.base_format.specs.Header.{header_size, header_from}
use Rattle.base_format.specs.Operation.{Setting, item_at}
use Rattle.base_format.specs.Pool.{Payload, pool_at, pools_from}
use Rattle.base_format.specs.Size.{card_size, entry_size, file_limit}

-- what a file says
pub record Stream : Type 0 where
  pub version : ℕ
  pub repeat : Bool
  pub period : ℕ
  pub cards : List CardRequirement
  pub pools : List Payload
  pub opening : List Operation
  pub frames : List (List Operation)

-- so many operations from a place, with where the last one ends
unfoldable pub operations_from : Setting → List ℕ → (limit count at : ℕ) → Checked (List Operation × ℕ)
operations_from setting file limit zero at = ok ([], at)
operations_from setting file limit (suc count) at = do
  item ← item_at setting file limit at
  (operations, end) ← operations_from setting file limit count item.next
  ok (item.operation ∷ operations, end)

-- where they end
abbrev pub operations_end : Setting → List ℕ → (limit count at : ℕ) → Checked ℕ
operations_end setting file limit count at = mapped (λ (found : List Operation × ℕ). found.1) (operations_from setting file limit count at)

-- so many frames from a place, with where the last one ends. "Frames: a u16 count, then its records" or operations
unfoldable pub frames_from : Setting → List ℕ → (count at : ℕ) → Checked (List (List Operation) × ℕ)
frames_from setting file zero at = ok ([], at)
frames_from setting file (suc count) at = do
  refuse 14 at (ltb (length file) (at + 2))
  (frame, next) ← operations_from setting file (length file) (be 2 file at) (at + 2)
  (frames, end) ← frames_from setting file count next
  ok (frame ∷ frames, end)

-- the limit of rule 14 for the opening: the frames' start for a pooled one and else the file's end
unfoldable pub opening_limit : Header → List ℕ → ℕ
opening_limit header file = cond (eqb header.version 1) (length file) header.frame_start

-- rule 8: "The frame count is 0", "total size exceeds 0xE00000 or is not the file's length", "the pool count exceeds 65,536", or "the directory
-- offset is wrong"
unfoldable pub counts_wrong : Header → (length' : ℕ) → Bool
counts_wrong header length' =
    eqb header.frame_count 0
    || ltb file_limit header.total_size
    || not (eqb header.total_size length')
    || ltb 65536 header.pool_count
    || not (eqb header.directory_offset (header_size header.version + header.card_count * card_size))

-- rule 12: an opening "does not start where the payloads end", which is at `end`, or "the frames start before the opening or after the file's
-- end". Of version 1 this says that its opening records pass the file's end
unfoldable pub sections_wrong : Header → (end length' : ℕ) → Bool
sections_wrong header end length' =
    not (eqb header.initial_start end) || ltb header.frame_start header.initial_start || ltb length' header.frame_start

-- the checks 1 to 20
unfoldable pub read : List ℕ → Checked Stream
read file = do
  -- 1 to 6: the header
  header ← header_from file
  -- 7: the cards
  cards ← cards_from file header.card_count (header_size header.version) 0
  -- 8: the counts
  refuse 8 0 (counts_wrong header (length file))
  -- 9: "the pool directory passes the file's end"
  let payloads = header.directory_offset + header.pool_count * entry_size
  refuse 9 0 (ltb (length file) payloads)
  -- 10 and 11: the pools
  (pools, end) ← pools_from header.version file header.directory_offset header.pool_count 0 payloads
  -- 12: the sections
  refuse 12 0 (sections_wrong header end (length file))
  -- 13 to 19 for the opening, and 20 before any frame
  let setting : Setting = record { version = header.version; cards = cards; pools = header.pool_count; pool_of = pool_at file header.directory_offset }
  (opening, stop) ← operations_from setting file (opening_limit header file) header.initial_count header.initial_start
  refuse 20 stop (not (eqb stop header.frame_start))
  -- 13 to 19 for the frames, and 20 behind the last one
  (frames, last) ← frames_from setting file header.frame_count header.frame_start
  refuse 20 last (not (eqb last (length file)))
  ok (record { version = header.version; repeat = header.repeat; period = header.frame_period; cards = cards; pools = pools; opening = opening; frames = frames })
