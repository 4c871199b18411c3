-- What an accepted row of checks says of each of its lines. By these a fact of `read file ≡ ok s` is taken out line by line.
use Prim.Native.Nat.{ℕ, zero, suc, ◌<◌}
use mathlib.Core.Bool.{Bool, true, false, cond, ◌&&◌, ◌||◌, true≢false, false≢true}
use mathlib.Core.Path.{◌≡◌, refl, subst}
use native.Mathlib.Omega.{arith}
use lib.Dec.{eqb}
use Rattle.base_format.specs.Checked.{Checked, ok, refused, refuse, ◌>>=◌, ◌>>◌}

-- a refusal is no value
pub refused_not_ok : {A : Type 0} {number place : ℕ} {a : A} → refused number place ≡ ok a → ⊥
refused_not_ok e = let z : ◌≡◌ {A = ℕ} 0 1 = cc in omega arith

-- the value of the first line, and the rest with it
pub record Through {A B : Type 0} (first : Checked A) (rest : A → Checked B) (b : B) : Type 0 where
  pub value : A
  pub is : first ≡ ok value
  pub then : rest value ≡ ok b

pub through : {A B : Type 0} (first : Checked A) (rest : A → Checked B) {b : B} → (first >>= rest) ≡ ok b → Through first rest b
through (ok a) rest e = record { value = a; is = refl; then = e }
through (refused number place) rest e = absurd (refused_not_ok e)

-- a test that did not refuse was false; and the rest
pub passed_test : {A : Type 0} (number place : ℕ) (test : Bool) {rest : Checked A} {a : A} → (refuse number place test >> rest) ≡ ok a → (test ≡ false) × (rest ≡ ok a)
passed_test number place true e = absurd (refused_not_ok e)
passed_test number place false e = (refl, e)

-- the last test of a row
pub passed_last : (number place : ℕ) (test : Bool) → refuse number place test ≡ ok tt → test ≡ false
passed_last number place true e = absurd (refused_not_ok e)
passed_last number place false e = refl

-- a check without a value that did not refuse, and the rest
pub passed_check : {A : Type 0} (first : Checked (Unit {0})) {rest : Checked A} {a : A} → (first >> rest) ≡ ok a → (first ≡ ok tt) × (rest ≡ ok a)
passed_check (ok tt) e = (refl, e)
passed_check (refused number place) e = absurd (refused_not_ok e)

pub ok_is : {A : Type 0} {a b : A} → ok a ≡ ok b → a ≡ b
ok_is e = cc

-- what holds of the value that was computed holds of the one that was given
pub given : {A : Type 0} (P : A → Type 0) {a b : A} → ok a ≡ ok b → P a → P b
given P e p = subst P (ok_is e) p

-- a choice whose test is known
pub cond_true : {A : Type 0} (b : Bool) (x y : A) → b ≡ true → cond b x y ≡ x
cond_true true x y e = refl
cond_true false x y e = absurd (false≢true e)

pub cond_false : {A : Type 0} (b : Bool) (x y : A) → b ≡ false → cond b x y ≡ y
cond_false true x y e = absurd (true≢false e)
cond_false false x y e = refl

pub or_false : (a b : Bool) → (a || b) ≡ false → (a ≡ false) × (b ≡ false)
or_false true b e = absurd (true≢false e)
or_false false b e = (refl, e)

pub and_true : (a b : Bool) → (a && b) ≡ true → (a ≡ true) × (b ≡ true)
and_true true b e = (refl, e)
and_true false b e = absurd (false≢true e)

pub positive : (n : ℕ) → eqb n 0 ≡ false → 0 < n
positive zero e = absurd (true≢false e)
positive (suc n) e = omega arith
