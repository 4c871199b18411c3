-- The walk that renumbers, step by step.
use Prim.Native.Nat.{ℕ, zero, suc, ◌+◌, ◌*◌, ◌-◌, ◌<◌, ◌≤◌}
use mathlib.Core.Path.{◌≡◌, refl, sym, ◌∙◌}
use mathlib.Core.Bool.{Bool, true, false, cond}
use mathlib.Core.List.{List}
use native.Mathlib.Omega.{arith}
use borrow.Author.Tests.{eq-eqb, ne_eqb, lt-ltb, le-ltb}
use lib.Dec.{eqb, ltb}
use lib.ListN.{length}
use Rattle.base_format.specs.Bytes.{byte, be, bytes_of}
use Rattle.base_format.specs.Size.{count_size}
use Rattle.bytes_read.specs.Put.{put}
use Rattle.bytes_read.proofs.Laws.{length_put}
use Rattle.index_laws.specs.Frames.{walk_limit, item_size, items_walked, EmptyFrames, EmptyPassed}
use Rattle.index_laws.proofs.Empty.{first_empty, rest_empty}
use Rattle.index_laws.proofs.Frames as Walked
use Rattle.join_renumber.specs.Renumbered.{item_renumbered, items_renumbered, frames_renumbered}

-- one of two lists of the same length
either : (b : Bool) (l l' : List ℕ) → length l' ≡ length l → length (cond b l' l) ≡ length l
either true l l' e = e
either false l l' e = refl

module _ (before shift : ℕ) (file : List ℕ) where
  -- a COPY gets its pool, and no other operation changes
  pub copy_renumbered : (at : ℕ) (buffer : List ℕ) → byte file at ≡ 2
      → put (bytes_of 2 (before + be 2 file (at + 5))) (at + 5 + shift) buffer ≡ item_renumbered before shift file at buffer
  unfolding item_renumbered
  copy_renumbered at buffer e = rw (eq-eqb (byte file at) 2 e)

  pub other_stays : (at : ℕ) (buffer : List ℕ) → (byte file at ≡ 2 → ⊥) → buffer ≡ item_renumbered before shift file at buffer
  unfolding item_renumbered
  other_stays at buffer e = rw (ne_eqb (byte file at) 2 e)

  -- the buffer keeps its length
  pub item_length : (at : ℕ) (buffer : List ℕ) → length (item_renumbered before shift file at buffer) ≡ length buffer
  unfolding item_renumbered
  item_length at buffer =
      either (eqb (byte file at) 2) buffer (put (bytes_of 2 (before + be 2 file (at + 5))) (at + 5 + shift) buffer) (length_put (bytes_of 2 (before + be 2 file (at + 5))) (at + 5 + shift) buffer)

  pub items_length : (count at : ℕ) (buffer : List ℕ) → length (items_renumbered before shift file count at buffer) ≡ length buffer
  unfolding items_renumbered
  items_length zero at buffer = refl
  items_length (suc count) at buffer =
      let item = item_renumbered before shift file at buffer in
      let next = at + item_size 3 file at in
      either (ltb at (walk_limit file)) buffer (items_renumbered before shift file count next item) (items_length count next item ∙ item_length at buffer)

  -- no operation is left
  pub items_none : (at : ℕ) (buffer : List ℕ) → items_renumbered before shift file 0 at buffer ≡ buffer
  unfolding items_renumbered
  items_none at buffer = refl

  -- the walk stands still
  pub items_still : (count at : ℕ) (buffer : List ℕ) → walk_limit file ≤ at → items_renumbered before shift file count at buffer ≡ buffer
  unfolding items_renumbered
  items_still zero at buffer past = refl
  items_still (suc count) at buffer past = rw (le-ltb at (walk_limit file) past)

  -- one operation more
  pub items_step : (count at : ℕ) (buffer : List ℕ) → 0 < count → at < walk_limit file
      → items_renumbered before shift file count at buffer
      ≡ items_renumbered before shift file (count - 1) (at + item_size 3 file at) (item_renumbered before shift file at buffer)
  unfolding items_renumbered
  items_step zero at buffer some less = absurd (omega arith)
  items_step (suc count) at buffer some less = let left : suc count - 1 ≡ count = omega arith in rw (left, lt-ltb at (walk_limit file) less)

  -- and the same of frames
  pub frames_none : (at : ℕ) (buffer : List ℕ) → frames_renumbered before shift file 0 at buffer ≡ buffer
  unfolding frames_renumbered
  frames_none at buffer = refl

  pub frames_still : (count at : ℕ) (buffer : List ℕ) → walk_limit file ≤ at → frames_renumbered before shift file count at buffer ≡ buffer
  unfolding frames_renumbered
  frames_still zero at buffer past = refl
  frames_still (suc count) at buffer past = rw (le-ltb at (walk_limit file) past)

  pub frames_step : (count at : ℕ) (buffer : List ℕ) → 0 < count → at < walk_limit file
      → frames_renumbered before shift file count at buffer
      ≡ frames_renumbered before shift file (count - 1) (items_walked 3 file (be 2 file at) (at + count_size)) (items_renumbered before shift file (be 2 file at) (at + count_size) buffer)
  unfolding frames_renumbered
  frames_step zero at buffer some less = absurd (omega arith)
  frames_step (suc count) at buffer some less = let left : suc count - 1 ≡ count = omega arith in rw (left, lt-ltb at (walk_limit file) less)

  -- empty frames are passed over
  pub frames_empty : (n count at : ℕ) (buffer : List ℕ) → n ≤ count → EmptyFrames file n at
      → frames_renumbered before shift file count at buffer ≡ frames_renumbered before shift file (count - n) (at + n * 2) buffer
  frames_empty zero count at buffer most empty =
      let all : count ≡ count - 0 = omega arith in
      let here : at ≡ at + 0 * 2 = omega arith in
      λ i. frames_renumbered before shift file (all i) (here i) buffer
  frames_empty (suc n) count at buffer most empty =
      let first = first_empty file n at empty in
      let left : count - 1 - n ≡ count - suc n = omega arith in
      let next : at + 2 + n * 2 ≡ at + suc n * 2 = omega arith in
      frames_step count at buffer (omega arith) first.0
      ∙ (λ i. frames_renumbered before shift file (count - 1) (items_walked 3 file (first.1 i) (at + 2)) (items_renumbered before shift file (first.1 i) (at + 2) buffer))
      ∙ (λ i. frames_renumbered before shift file (count - 1) (Walked.items_none 3 file (at + 2) i) (items_none (at + 2) buffer i))
      ∙ frames_empty n (count - 1) (at + 2) buffer (omega arith) (rest_empty file n at empty)
      ∙ (λ i. frames_renumbered before shift file (left i) (next i) buffer)

  -- what passing over them gives
  pub frames_passed : (count start left at : ℕ) (buffer : List ℕ) → EmptyPassed file count start left at
      → frames_renumbered before shift file count start buffer ≡ frames_renumbered before shift file left at buffer
  frames_passed count start left at buffer p =
      let same : count - (count - left) ≡ left = omega (arith, p.most) in
      frames_empty (count - left) count start buffer (omega arith) p.empty ∙ (λ i. frames_renumbered before shift file (same i) (sym p.here i) buffer)
