-- Bytes written into lent memory.
use Rattle.std.specs.Prelude.{ℕ, ◌+◌, cond, List, ◌++◌, leb, length, take, drop}

-- the bytes stand from a place on where all of them fit, else the memory is as it was
unfoldable pub put : (bytes : List ℕ) (at : ℕ) → List ℕ → List ℕ
put bytes at buffer =
    cond (leb (at + length bytes) (length buffer)) (take at buffer ++ bytes ++ drop (at + length bytes) buffer) buffer
