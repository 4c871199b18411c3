-- One entry of a lent index, and those behind it.
use Prim.Native.Nat.{ℕ, zero, suc, ◌+◌, ◌*◌, ◌-◌, ◌<◌}
use mathlib.Core.Bool.{true, false}
use mathlib.Core.List.{List}
use mathlib.Core.Path.{◌≡◌, refl}
use native.Mathlib.Omega.{arith}
use borrow.Author.Tests.{eq-eqb, ne_eqb}
use Rattle.base_format.specs.Bytes.{be}
use Rattle.index_laws.specs.Frames.{frames_walked}
use Rattle.index_check.specs.Other.{entries_other}

module _ (version : ℕ) (file index : List ℕ) where
  pub entry_same : (count entry at : ℕ) → 0 < count → be 4 index (entry * 4) ≡ at
      → entries_other version file index count entry at ≡ entries_other version file index (count - 1) (entry + 1) (frames_walked version file 64 at)
  unfolding entries_other
  entry_same zero entry at some same = absurd (omega arith)
  entry_same (suc count) entry at some same = let left : suc count - 1 ≡ count = omega arith in rw (left, eq-eqb _ _ same)

  pub entry_differs : (count entry at : ℕ) → 0 < count → (be 4 index (entry * 4) ≡ at → ⊥) → entries_other version file index count entry at ≡ true
  unfolding entries_other
  entry_differs zero entry at some other = absurd (omega arith)
  entry_differs (suc count) entry at some other = rw (ne_eqb _ _ other)

  pub none_differs : (entry at : ℕ) → entries_other version file index 0 entry at ≡ false
  unfolding entries_other
  none_differs entry at = refl
