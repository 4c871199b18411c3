-- Laws of bytes that are all 0.
use Prim.Native.Nat.{ℕ, suc, ◌+◌, ◌<◌, max}
use mathlib.Core.Path.{◌≡◌}
use mathlib.Core.Bool.{◌&&◌, and-true, and_assoc}
use mathlib.Core.List.{List}
use native.Mathlib.Numerals.{add-one}
use native.Mathlib.Omega.{arith}
use Rattle.std.proofs.lemmas.Bool.Decides.{nat_tests}
use lib.Bits.{bit_or, or_add_and, and_le_l, and_le_r, or_zero_r}
use lib.Dec.{eqb}
use lib.ListN.{length, drop, get_or}
use lib.Seq.{drop-cons}
use Rattle.base_format.specs.Bytes.{byte, part, all_zero}
use Rattle.check_card.specs.Padding.{padding_at}

-- the two reserved bytes of a card are 0
pub zeros_two : (file : List ℕ) (at : ℕ) → at + 3 < length file → all_zero (part file (at + 2) 2) ≡ (eqb (byte file (at + 2)) 0 && eqb (byte file (at + 3)) 0)
zeros_two file at h =
    let second : at + 3 ≡ suc (at + 2) = omega arith in
    rw (second, drop-cons file (at + 2) 0 (omega arith), drop-cons file (suc (at + 2)) 0 (omega arith), and-true)

-- all bytes from a place on are 0: the one there, and those behind it
pub zeros_step : (bytes : List ℕ) (i : ℕ) → i < length bytes → all_zero (drop i bytes) ≡ (eqb (get_or bytes i 0) 0 && all_zero (drop (i + 1) bytes))
zeros_step bytes i h = rw (add-one, drop-cons bytes i 0)

-- two numbers whose bits together are 0 are both 0
zero_or : (a b : ℕ) → eqb (bit_or a b) 0 ≡ (eqb a 0 && eqb b 0)
zero_or a b = grind (arith, nat_tests, or_add_and a b, and_le_l a b, and_le_r a b)

-- the bytes behind a size and not before `i` are 0: with the one at `i`, and those behind it
pub padding_step : (bytes : List ℕ) (size i some : ℕ) → i < length bytes → (eqb some 0 && all_zero (drop (max size i) bytes)) ≡ (eqb (bit_or some (padding_at (get_or bytes i 0) i size)) 0 && all_zero (drop (max size (i + 1)) bytes))
padding_step bytes size i some h = grind (arith, nat_tests, zeros_step, zero_or, or_zero_r, and_assoc)
