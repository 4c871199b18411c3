-- The pitch register of a sum s of a note and a shift: "the whole number nearest to 440 × 2^((s − 69)/12), halves going up, and 65,535 where
-- that is exceeded". The rule says this in whole numbers, and the pitch is the number that meets it.
use Rattle.std.specs.Prelude.{ℕ, zero, suc, ◌+◌, ◌*◌, ◌-◌, ◌^◌, Bool, cond, ◌&&◌, ◌||◌, eqb, leb, ltb, ℤ, pos, negsuc, ◌-ℤ◌}

-- an exponent, and 0 in the place of a negative one
abbrev pub exponent : ℤ → ℕ
exponent (pos n) = n
exponent (negsuc n) = 0

-- "880^12 × 2^(s − 69)", and a twelfth power that it is compared with, "with the power moved across for negative exponents"
unfoldable pub middle : (s : ℤ) → ℕ
middle s = 880 ^ 12 * 2 ^ exponent (s -ℤ pos 69)

unfoldable pub twelfth : (s : ℤ) (n : ℕ) → ℕ
twelfth s n = n ^ 12 * 2 ^ exponent (pos 69 -ℤ s)

-- "that (2f − 1)^12 ≤ 880^12 × 2^(s − 69) < (2f + 1)^12 for an entry f below 65,535, and its left half alone for 65,535"
unfoldable pub is_pitch : (s : ℤ) (f : ℕ) → Bool
is_pitch s f = leb (twelfth s (2 * f - 1)) (middle s) && (eqb f 65535 || ltb (middle s) (twelfth s (2 * f + 1)))

-- the first of so many numbers from f on that meets the rule; the one behind them where none does
abbrev pub pitch_from : (s : ℤ) (count f : ℕ) → ℕ
pitch_from s zero f = f
pitch_from s (suc count) f = cond (is_pitch s f) f (pitch_from s count (suc f))

-- the number up to 65,535 that meets the rule
unfoldable pub pitch_of : (s : ℤ) → ℕ
pitch_of s = pitch_from s 65535 0

-- the sum whose pitch stands at a place of the list, which begins with that of −48
abbrev pub sum_at : (place : ℕ) → ℤ
sum_at place = pos place -ℤ pos 48
