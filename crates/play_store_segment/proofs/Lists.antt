-- Lists of which some elements are replaced one by one, from a place on: `paste` of the library says what is there after some of them.
use Prim.Native.Nat.{ℕ, ◌+◌, ◌≤◌}
use mathlib.Core.List.{List, [], ◌++◌}
use mathlib.Core.Path.{◌≡◌, refl, sym, ap, ◌∙◌}
use native.Mathlib.Nat.{add-zero, le_refl}
use lib.ListN.{length, take, drop, take-append-drop}
use lib.Seq.{paste, length-paste, take-length}
use Rattle.play_store_segment.specs.Segment.{inserted}

module _ {A : Type 0} (old : List A) (at : ℕ) (new : List A) where
  -- all of them
  pub paste_all : (n : ℕ) → n ≡ length new → paste old at new n ≡ inserted at new old
  paste_all n e = ap (paste old at new) e ∙ ap (λ (l : List A). take at old ++ l ++ drop (at + length new) old) (take-length new)

  pub length_inserted : at + length new ≤ length old → length (inserted at new old) ≡ length old
  length_inserted within = ap length (sym (paste_all (length new) refl)) ∙ length-paste old at new (length new) within (le_refl (length new))

-- none of them
pub inserted_none : {A : Type 0} (old : List A) (at : ℕ) → inserted at [] old ≡ old
inserted_none old at = rw (add-zero, mathlib.Core.List.append-nil) (take-append-drop at old)
