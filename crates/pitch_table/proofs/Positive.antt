-- No sum from −48 on has the pitch 0: 2^117, the greatest power that is moved across, does not pass 880^12.
use Prim.Native.Nat.{ℕ, zero, suc, ◌-◌, ◌^◌, ◌≤◌, ◌<◌, zero-le, suc-le-suc}
use mathlib.Core.Path.{◌≡◌, sym, subst}
use mathlib.Core.Bool.{Bool, true, false, cond}
use native.Mathlib.Nat.{le_trans, lt_of_lt_of_le, lt_irrefl, one-mul, pow-le-pow_right, one-le-pow, le-mul_of_pos_right}
use native.Mathlib.Omega.{arith}
use lib.Dec.{ltb, lit≤, lit<}
use lib.IntN.{ℤ, pos, negsuc, ◌-ℤ◌, sub_ℕ}
use Rattle.pitch_table.specs.Pitch.{exponent, middle, twelfth, is_pitch, pitch_of, sum_at}
use Rattle.pitch_table.specs.Promises.{PitchPositive}
use Rattle.pitch_table.proofs.Rule.{meets, pitch_meets}

-- a difference of two numbers is at most the first
exponent_of : (a b : ℕ) → exponent (sub_ℕ a b) ≤ a
exponent_of a b = go (ltb a b)
  where
    go : (c : Bool) → exponent (cond c (negsuc (b - suc a)) (pos (a - b))) ≤ a
    go true = zero-le
    go false = omega arith

below_69 : (n : ℕ) → exponent (pos 69 -ℤ pos n) ≤ 117
below_69 zero = lit≤ tt
below_69 (suc n) = le_trans (exponent_of 69 (suc n)) (lit≤ tt)

-- the power that is moved across is 2^117 at most: 69 is 117 above −48
moved_most : (place : ℕ) → exponent (pos 69 -ℤ sum_at place) ≤ 117
moved_most place = go (ltb place 48)
  where
    go : (c : Bool) → exponent (pos 69 -ℤ cond c (negsuc (48 - suc place)) (pos (place - 48))) ≤ 117
    go true = omega arith
    go false = below_69 (place - 48)

-- so the twelfth power of 1 is not above the middle
one_below : (s : ℤ) → exponent (pos 69 -ℤ s) ≤ 117 → twelfth s 1 ≤ middle s
unfolding twelfth middle
one_below s most =
    subst (λ (n : ℕ). n ≤ middle s) (sym (one-mul (2 ^ exponent (pos 69 -ℤ s))))
    (le_trans (pow-le-pow_right {n = 2} (lit< tt) most)
    (le_trans (lit≤ tt) (le-mul_of_pos_right (880 ^ 12) (one-le-pow (exponent (s -ℤ pos 69)) 2 (lit< tt)))))

pub pitch_positive : PitchPositive
pitch_positive place = go (pitch_of s) (pitch_meets s).1
  where
    s : ℤ
    s = sum_at place

    go : (f : ℕ) → is_pitch s f ≡ true → 0 < f
    go zero e = absurd (lt_irrefl _ (lt_of_lt_of_le ((meets s 0 e).right (lit< tt)) (one_below s (moved_most place))))
    go (suc f) e = suc-le-suc zero-le
