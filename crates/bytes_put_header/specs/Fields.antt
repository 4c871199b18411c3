-- What follows the first 28 bytes of a pooled file's header, in two parts; the last one is version 4's.
use Rattle.std.specs.Prelude.{ℕ, List, [], ◌∷◌}
use Rattle.base_format.specs.Bytes.{Field, u8, u16, u32}

abbrev pub size_fields : (frames total size cards : ℕ) → List Field
size_fields frames total size cards = u32 frames ∷ u32 total ∷ u16 size ∷ u8 cards ∷ u8 0 ∷ []

abbrev pub period_fields : (period : ℕ) → List Field
period_fields period = u32 period ∷ u32 0 ∷ []
