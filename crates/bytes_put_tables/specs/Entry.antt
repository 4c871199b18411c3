-- An entry of the pool directory by its numbers, as bytes.
use Rattle.std.specs.Prelude.{ℕ, List, [], ◌∷◌}
use Rattle.base_format.specs.Bytes.{Field, u8, u16, u32, bytes_of_all}

-- the codec is 0, and the size stands twice
abbrev pub fields_of : (id kind size start : ℕ) → List Field
fields_of id kind size start = u16 id ∷ u8 kind ∷ u8 0 ∷ u32 size ∷ u32 size ∷ u32 start ∷ []

unfoldable pub entry_bytes : (id kind size start : ℕ) → List ℕ
entry_bytes id kind size start = bytes_of_all (fields_of id kind size start)
