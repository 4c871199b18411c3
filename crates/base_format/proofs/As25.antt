-- Laws of `as25`: a row of checks, each of whose refusals is 25.
use Prim.Native.Nat.{ℕ}
use mathlib.Core.Bool.{Bool, true, false}
use mathlib.Core.Path.{◌≡◌, refl}
use Rattle.base_format.specs.Checked.{Checked, ok, refused, refuse, ◌>>=◌, ◌>>◌}
use Rattle.base_format.specs.Player.{as25}

pub as25_refuse : (number place : ℕ) (test : Bool) → as25 (refuse number place test) ≡ refuse 25 0 test
as25_refuse number place true = refl
as25_refuse number place false = refl

pub as25_bind : {A B : Type 0} (first : Checked A) (rest : A → Checked B) → as25 (first >>= rest) ≡ (as25 first >>= λ (a : A). as25 (rest a))
as25_bind (ok a) rest = refl
as25_bind (refused number place) rest = refl

pub as25_then : {A B : Type 0} (first : Checked A) (rest : Checked B) → as25 (first >> rest) ≡ (as25 first >> as25 rest)
as25_then (ok a) rest = refl
as25_then (refused number place) rest = refl

-- a test is the last check of a row where nothing stands behind it
pub refuse_last : (number place : ℕ) (test : Bool) → (refuse number place test >> ok tt) ≡ refuse number place test
refuse_last number place true = refl
refuse_last number place false = refl
