-- Where the waves of a master are used: the places of the records that start one, in the order of the file, and the frames by the
-- numbers that are noted for them.
use Rattle.std.specs.Prelude.{ℕ, zero, suc, ◌+◌, ◌*◌, ◌≤◌, true, false, List, [], ◌∷◌, ◌++◌, ◌≡◌, length, get_or, drop}
use Rattle.base_format.specs.declared.operation.Operation.{Operation}
use Rattle.base_format.specs.declared.operation.Operation.TheVariants.{Copy}
use Rattle.base_format.specs.Bytes.{be, u16, bytes_of_all}
use Rattle.base_format.specs.Repack.{Piece, wave, single, starts_wave, pieces}
use Rattle.base_format.specs.Written.{operations_bytes}
use Rattle.base_format.specs.Size.{record_size}
use Rattle.base_master.specs.Places.{records_at, behind_frame}
use Rattle.base_master.specs.Result.{piece_count}

-- among so many records of a frame; `skip` of them belong to the wave before
unfoldable pub uses_in : (file : List ℕ) → (skip count at : ℕ) → List ℕ
uses_in file skip zero at = []
uses_in file (suc skip) (suc count) at = uses_in file skip count (at + 5)
uses_in file zero (suc count) at =
    elim (starts_wave (records_at file (suc count) at)) [
      | true ↦ at ∷ uses_in file 255 count (at + 5)
      | false ↦ uses_in file 0 count (at + 5)
    ]

abbrev pub uses_at : (file : List ℕ) → (count at : ℕ) → List ℕ
uses_at file count at = uses_in file 0 count at

-- in so many frames from a place
unfoldable pub all_uses : (file : List ℕ) → (count at : ℕ) → List ℕ
all_uses file zero at = []
all_uses file (suc count) at = uses_at file (be 2 file at) (at + 2) ++ all_uses file count (behind_frame file at)

-- a place that is noted, where one is, lies behind another
abbrev pub Later : (at spot : ℕ) → Type 0
Later at spot = (spot ≡ 0 → ⊥) → at ≤ spot

-- the uses of so many records from a place are noted from a number on; at most 11,468 are noted at all
pub record Marked (file spots : List ℕ) (used count at : ℕ) : Type 0 where
  pub more : List ℕ
  pub marks : drop used spots ≡ uses_at file count at ++ more
  pub later : Later (at + count * record_size) (get_or more 0 0)
  pub few : used + length (uses_at file count at) ≤ 11468

-- the uses of so many frames from a place are all that is still noted
pub record MarkedFrames (file spots : List ℕ) (used count at : ℕ) : Type 0 where
  pub uses : ℕ
  pub marks : drop used spots ≡ all_uses file count at ++ drop uses spots
  pub last : get_or spots uses 0 ≡ 0
  pub few : used + length (all_uses file count at) ≡ uses
  pub most : uses ≤ 11468

-- ---- a frame by the numbers of its waves

-- the pieces as operations: each wave has the next of the numbers
unfoldable pub numbered : (numbers : List ℕ) → (base used : ℕ) → List Piece → List Operation
numbered numbers base used [] = []
numbered numbers base used (single operation ∷ rest) = operation ∷ numbered numbers base used rest
numbered numbers base used (wave target a bytes ∷ rest) = Copy target a (base + get_or numbers used 0) 0 256 ∷ numbered numbers base (used + 1) rest

-- the pieces of so many records from a place
unfoldable pub pieces_by : (numbers : List ℕ) → (base used : ℕ) → (file : List ℕ) → (count at : ℕ) → List ℕ
pieces_by numbers base used file count at = operations_bytes 2 (numbered numbers base used (pieces 0 (records_at file count at)))

-- the frame at a place: its count and its pieces
unfoldable pub frame_by : (numbers : List ℕ) → (base used : ℕ) → (file : List ℕ) → (at : ℕ) → List ℕ
frame_by numbers base used file at =
    bytes_of_all (u16 (piece_count file (be 2 file at) (at + 2)) ∷ []) ++ pieces_by numbers base used file (be 2 file at) (at + 2)

-- so many frames
unfoldable pub frames_by : (numbers : List ℕ) → (base used : ℕ) → (file : List ℕ) → (count at : ℕ) → List ℕ
frames_by numbers base used file zero at = []
frames_by numbers base used file (suc count) at =
    frame_by numbers base used file at ++ frames_by numbers base (used + length (uses_at file (be 2 file at) (at + 2))) file count (behind_frame file at)
