-- Laws of `Each`, and the two ways to say that a list is of bytes.
use Prim.Native.Nat.{ℕ, zero, suc, ◌+◌, ◌<◌}
use mathlib.Core.List.{List, [], ◌∷◌, ◌++◌}
use native.Mathlib.Nat.{not-suc-le-zero, le_of_suc-le-suc}
use lib.Dec.{lit<}
use lib.ListN.{length, get_or, take, drop}
use lib.Seq.{get_or-drop}
use Rattle.base_format.specs.Bytes.{AllBytes, part}
use Rattle.base_format.specs.Limits.{Each, Bytes}

module _ {A : Type 0} where
  pub each_map : (P Q : A → Type 0) → ((a : A) → P a → Q a) → (l : List A) → Each P l → Each Q l
  each_map P Q f [] h = tt
  each_map P Q f (a ∷ l) h = (f a h.0, each_map P Q f l h.1)

  pub each_append : (P : A → Type 0) (a b : List A) → Each P a → Each P b → Each P (a ++ b)
  each_append P [] b h k = k
  each_append P (x ∷ a) b h k = (h.0, each_append P a b h.1 k)

  pub each_at : (P : A → Type 0) (l : List A) (i : ℕ) (d : A) → Each P l → i < length l → P (get_or l i d)
  each_at P [] i d h k = absurd (not-suc-le-zero k)
  each_at P (x ∷ l) zero d h k = h.0
  each_at P (x ∷ l) (suc i) d h k = each_at P l i d h.1 (le_of_suc-le-suc k)

-- every element, and every index
pub each_byte : (l : List ℕ) → AllBytes l → Bytes l
each_byte [] h = tt
each_byte (b ∷ l) h = (h 0, each_byte l (λ i. h (suc i)))

pub all_bytes : (l : List ℕ) → Bytes l → AllBytes l
all_bytes [] h i = lit< tt
all_bytes (b ∷ l) h zero = h.0
all_bytes (b ∷ l) h (suc i) = all_bytes l h.1 i

-- the bytes of a part
bytes_take : (n : ℕ) (l : List ℕ) → Bytes l → Bytes (take n l)
bytes_take zero l h = tt
bytes_take (suc n) [] h = tt
bytes_take (suc n) (b ∷ l) h = (h.0, bytes_take n l h.1)

pub part_bytes : (file : List ℕ) (at n : ℕ) → AllBytes file → Bytes (part file at n)
part_bytes file at n h = bytes_take n (drop at file) (each_byte (drop at file) (λ i. rw get_or-drop (h (at + i))))
