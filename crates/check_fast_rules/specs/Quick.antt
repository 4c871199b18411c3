-- The quick tests of a range, and of the pool of a COPY.
use Rattle.std.specs.Prelude.{ℕ, ◌+◌, ◌%◌, Bool, not, ◌&&◌, ◌||◌, List, eqb, leb, ltb}
use Rattle.base_format.specs.Bytes.{byte, be}

-- a range that is empty, starts before `start` or does not end before `end`
unfoldable pub out_of_bulk : (address size start end : ℕ) → Bool
out_of_bulk address size start end = eqb size 0 || ltb address start || leb end (address + size)

-- a wave whole, to where one stands
unfoldable pub whole_wave : (address source size : ℕ) → Bool
whole_wave address source size = eqb (address % 256) 0 && eqb source 0 && eqb size 256

-- the pool of a COPY, by its entry
unfoldable pub pool_fits : List ℕ → (kind address source size : ℕ) → Bool
pool_fits entry kind address source size =
    not (ltb (be 4 entry 4) (source + size)) && eqb (byte entry 2) kind && (not (eqb kind 1) || whole_wave address source size)
