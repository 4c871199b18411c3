-- Passing over frames by the sizes of their operations alone: of an accepted file no rule is asked again. The walk is there for any bytes, so that
-- no function asks anything of its file: it stands still from the file's end on, and from where no accepted file goes on.
use Rattle.std.specs.Prelude.{ℕ, zero, suc, ◌+◌, ◌*◌, ◌-◌, ◌≤◌, ◌<◌, min, cond, List, ◌≡◌, eqb, ltb, length}
use Rattle.base_format.specs.Bytes.{byte, be}
use Rattle.base_format.specs.Operation.{address_width, size_of}
use Rattle.base_format.specs.Size.{record_size, count_size, file_limit}

-- where the walk stands still
abbrev pub walk_limit : List ℕ → ℕ
walk_limit file = min (length file) file_limit

-- the bytes of the operation at a place; what is no opcode counts as a COPY
abbrev pub item_size : (width : ℕ) → List ℕ → (at : ℕ) → ℕ
item_size width file at = size_of width (min (byte file at) 2)

-- where so many operations from a place end
unfoldable pub items_walked : (width : ℕ) → List ℕ → (count at : ℕ) → ℕ
items_walked width file zero at = at
items_walked width file (suc count) at = cond (ltb at (walk_limit file)) (items_walked width file count (at + item_size width file at)) at

-- where the frame whose count stands at a place ends: in version 1 behind so many records, which are all alike
unfoldable pub frame_walked : (version : ℕ) → List ℕ → (at : ℕ) → ℕ
frame_walked version file at =
    cond (ltb at (walk_limit file))
    (cond (eqb version 1) (at + count_size + be 2 file at * record_size) (items_walked (address_width version) file (be 2 file at) (at + count_size)))
    at

-- and so many frames from a place
unfoldable pub frames_walked : (version : ℕ) → List ℕ → (count at : ℕ) → ℕ
frames_walked version file zero at = at
frames_walked version file (suc count) at = frames_walked version file count (frame_walked version file at)

-- so many frames from a place are empty, and the walk goes through them
abbrev pub EmptyFrames : List ℕ → (count at : ℕ) → Type 0
EmptyFrames file count at = (k : ℕ) → k < count → (at + k * count_size < walk_limit file) × (be 2 file (at + k * count_size) ≡ 0)

-- of so many frames from a place, all but those that are left at another are empty
pub record EmptyPassed (file : List ℕ) (count start left at : ℕ) : Type 0 where
  pub most : left ≤ count
  pub here : at ≡ start + (count - left) * count_size
  pub empty : EmptyFrames file (count - left) start
