-- Lists that are filled from the left.
use Prim.Native.Nat.{ℕ, suc, ◌-◌, ◌<◌}
use mathlib.Core.Path.{◌≡◌}
use mathlib.Core.List.{List, [], ◌∷◌, ◌++◌}
use native.Mathlib.Omega.{arith}
use lib.ListN.{length, set, replicate, length-append}
use lib.Seq.{append_snoc, set_at}

-- a list with so many elements, the last of them all alike
abbrev pub padded : {A : Type 0} → (n : ℕ) → A → List A → List A
padded n d xs = xs ++ replicate (n - length xs) d

-- the next element takes the place of the first that is padding
pub padded_next : {A : Type 0} (n : ℕ) (d : A) (xs : List A) (i : ℕ) (a : A) → length xs ≡ i → i < n → set (padded n d xs) i a ≡ padded n d (xs ++ (a ∷ []))
padded_next n d xs i a e h =
    let k = n - length (xs ++ (a ∷ [])) in
    let more : n - length xs ≡ suc k = simp length-append (omega arith) in
    rw (more, set_at xs d (replicate k d) a i e, append_snoc)
