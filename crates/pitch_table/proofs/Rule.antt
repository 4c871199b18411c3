-- The rule of a pitch: of the numbers up to 65,535 exactly one meets it, and that is the pitch.
use Prim.Native.Nat.{ℕ, zero, suc, ◌+◌, ◌*◌, ◌-◌, ◌≤◌, ◌<◌, zero-le}
use mathlib.Core.Path.{◌≡◌, refl, sym, ◌∙◌, subst}
use mathlib.Core.Bool.{Bool, true, false, cond, ◌||◌}
use native.Mathlib.Nat.{le_trans, lt_of_lt_of_le, lt_irrefl, zero-mul, mul-le-mul_right, pow-le-pow_left}
use native.Mathlib.Omega.{arith}
use borrow.Author.Tests.{eqb-true, leb-true, ltb-true, ltb-false, le-leb, eq-eqb, ne_eqb}
use lib.Dec.{eqb, ltb}
use lib.IntN.{ℤ}
use Rattle.base_format.proofs.Checks.{and_true}
use Rattle.pitch_table.specs.Pitch.{middle, twelfth, is_pitch, pitch_from, pitch_of}
use Rattle.pitch_table.specs.Promises.{NoChoice, PitchMeets}

-- a greater number has no smaller twelfth power
twelfth_mono : (s : ℤ) {m n : ℕ} → m ≤ n → twelfth s m ≤ twelfth s n
unfolding twelfth
twelfth_mono s h = mul-le-mul_right _ (pow-le-pow_left h 12)

-- the two halves of the rule
pub record Meets (s : ℤ) (f : ℕ) : Type 0 where
  pub left : twelfth s (2 * f - 1) ≤ middle s
  pub right : f < 65535 → middle s < twelfth s (2 * f + 1)

pub meets : (s : ℤ) (f : ℕ) → is_pitch s f ≡ true → Meets s f
unfolding is_pitch
meets s f e =
    let both = and_true _ _ e in
    record { left = leb-true _ _ both.0; right = λ h. go (eqb f 65535) refl h both.1 }
  where
    go : (b : Bool) → eqb f 65535 ≡ b → f < 65535 → (b || ltb (middle s) (twelfth s (2 * f + 1))) ≡ true → middle s < twelfth s (2 * f + 1)
    go true t h o = let same = eqb-true f 65535 t in omega arith
    go false t h o = ltb-true _ _ o

-- of two numbers that meet the rule none is below the other
not_below : (s : ℤ) (f g : ℕ) → g ≤ 65535 → Meets s f → Meets s g → f < g → ⊥
not_below s f g most a b h =
    lt_irrefl _ (lt_of_lt_of_le (a.right (omega arith)) (le_trans (twelfth_mono s {m = 2 * f + 1} {n = 2 * g - 1} (omega arith)) b.left))

-- the rule leaves no choice
pub no_choice : NoChoice
no_choice s f g f-most g-most a b = go (ltb f g) (ltb g f) refl refl
  where
    go : (c d : Bool) → ltb f g ≡ c → ltb g f ≡ d → f ≡ g
    go true d t u = absurd (not_below s f g g-most (meets s f a) (meets s g b) (ltb-true f g t))
    go false true t u = absurd (not_below s g f f-most (meets s g b) (meets s f a) (ltb-true g f u))
    go false false t u = omega (arith, ltb-false f g t, ltb-false g f u)

-- a number below 65,535 whose left half holds meets the rule by its right half alone
right_half : (s : ℤ) (f : ℕ) → f < 65535 → twelfth s (2 * f - 1) ≤ middle s → is_pitch s f ≡ ltb (middle s) (twelfth s (2 * f + 1))
unfolding is_pitch
right_half s f h left = rw (le-leb _ _ left, ne_eqb f 65535 (λ e. omega arith)) refl

-- the search keeps the left half: where the right half fails at f, the left half holds at f + 1
search_meets : (s : ℤ) (count f : ℕ) → f + count ≡ 65535 → twelfth s (2 * f - 1) ≤ middle s → is_pitch s (pitch_from s count f) ≡ true
unfolding is_pitch
search_meets s zero f end left =
    let last : f ≡ 65535 = omega arith in
    rw (le-leb _ _ left, eq-eqb f 65535 last) refl
search_meets s (suc count) f end left = go (is_pitch s f) refl (search_meets s count (suc f) (omega arith))
  where
    next : is_pitch s f ≡ false → twelfth s (2 * suc f - 1) ≤ middle s
    next t =
        let same : 2 * suc f - 1 ≡ 2 * f + 1 = omega arith in
        rw same (ltb-false _ _ (sym (right_half s f (omega arith) left) ∙ t))

    go : (b : Bool) → is_pitch s f ≡ b → (twelfth s (2 * suc f - 1) ≤ middle s → is_pitch s (pitch_from s count (suc f)) ≡ true)
        → is_pitch s (cond b f (pitch_from s count (suc f))) ≡ true
    go true t rest = t
    go false t rest = rest (next t)

-- the search goes no further than to 65,535
search_most : (s : ℤ) (count f : ℕ) → pitch_from s count f ≤ f + count
search_most s zero f = omega arith
search_most s (suc count) f = go (is_pitch s f) (search_most s count (suc f))
  where
    go : (b : Bool) → pitch_from s count (suc f) ≤ suc f + count → cond b f (pitch_from s count (suc f)) ≤ f + suc count
    go true rest = omega arith
    go false rest = omega (arith, rest)

-- the pitch meets it, whatever the sum is
pub pitch_meets : PitchMeets
unfolding pitch_of twelfth
pitch_meets s = (search_most s 65535 0, search_meets s 65535 0 refl (subst (λ (n : ℕ). n ≤ middle s) (sym (zero-mul _)) zero-le))

-- so a number that meets the rule is the pitch
pub pitch_is : (s : ℤ) (f : ℕ) → f ≤ 65535 → is_pitch s f ≡ true → f ≡ pitch_of s
pitch_is s f most a = no_choice s f (pitch_of s) most (pitch_meets s).0 a (pitch_meets s).1
