-- The padding of a card's name, byte by byte.
use Rattle.std.specs.Prelude.{ℕ, cond, ltb}

-- a byte of the name where it stands behind the name's length, else 0
abbrev pub padding_at : (byte place size : ℕ) → ℕ
padding_at byte place size = cond (ltb place size) 0 byte
