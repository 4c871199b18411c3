-- The library's comparison of two slices of bytes is the definition's.
use mathlib.Core.Path.{◌≡◌, refl, ap}
use mathlib.Core.Bool.{◌&&◌}
use mathlib.Core.List.{List, [], ◌∷◌}
use Prim.Native.Nat.{ℕ}
use lib.Dec.{eqb}
use Rattle.std.specs.Str.{bytes_eq}
use Rattle.base_format.specs.Bytes.{same_bytes}

pub bytes_equal : (a b : List ℕ) → bytes_eq a b ≡ same_bytes a b
bytes_equal [] [] = refl
bytes_equal [] (y ∷ b) = refl
bytes_equal (x ∷ a) [] = refl
bytes_equal (x ∷ a) (y ∷ b) = ap (λ r. eqb x y && r) (bytes_equal a b)
