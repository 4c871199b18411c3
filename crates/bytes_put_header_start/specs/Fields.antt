-- The first 28 bytes of a pooled file's header, in two parts.
use Rattle.std.specs.Prelude.{ℕ, Bool, cond, List, [], ◌∷◌}
use Rattle.base_format.specs.Bytes.{Field, u8, u32}
use Rattle.base_format.specs.Header.{letters}

abbrev pub front_fields : (version : ℕ) → (repeat : Bool) → (frames : ℕ) → List Field
front_fields version repeat frames = u32 letters ∷ u8 version ∷ u8 16 ∷ u8 (cond repeat 1 0) ∷ u8 0 ∷ u32 frames ∷ []

abbrev pub count_fields : (pools operations directory opening : ℕ) → List Field
count_fields pools operations directory opening = u32 pools ∷ u32 operations ∷ u32 directory ∷ u32 opening ∷ []
