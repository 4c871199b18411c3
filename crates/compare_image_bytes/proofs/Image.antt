-- What is played into an image: one step of each loop, and that what lies past its end is left out.
use Prim.Native.Nat.{ℕ, zero, suc, ◌+◌, ◌-◌, ◌≤◌, ◌<◌, min}
use mathlib.Core.Path.{◌≡◌, refl, sym, ap, ◌∙◌}
use mathlib.Core.Bool.{Bool, true, false, cond}
use mathlib.Core.List.{List, [], ◌∷◌, ◌++◌}
use native.Mathlib.Nat.{add-zero, zero-add, not-suc-le-zero}
use native.Mathlib.Numerals.{add-one}
use native.Mathlib.Omega.{arith}
use borrow.Author.Tests.{ltb-true, ltb-false}
use lib.Dec.{eqb, ltb}
use lib.ListN.{length, set, replicate, length-set, length-replicate}
use lib.Seq.{set_out, set_at}
use Rattle.base_format.specs.declared.operation.WriteRecord.{WriteRecord}
use Rattle.base_format.specs.Bytes.{byte}
use Rattle.base_format.specs.Compare.{played}
use Rattle.base_format.specs.Size.{record_size}
use Rattle.base_format.specs.Writes.{write, upward}
use Rattle.base_format.proofs.Equal.{played_append}
use Rattle.compare_segment.specs.Segments.{spread, segment_writes, segment_at, operation_writes, record_write, record_writes}
use Rattle.compare_segment.proofs.Streams.{spread_fill}

-- the number before one that is not 0
less : (n : ℕ) → suc n - 1 ≡ n
less n = omega arith

-- one write to a target
pub write_in : (memory : List ℕ) (address value : ℕ) → played memory (write 2 address value ∷ []) ≡ set memory address value
unfolding played
write_in memory address value = refl

pub write_other : (memory : List ℕ) (target address value : ℕ) → eqb target 2 ≡ false → played memory (write target address value ∷ []) ≡ memory
unfolding played
write_other memory target address value e = rw e

pub write_past : (memory : List ℕ) (address value : ℕ) → length memory ≤ address → played memory (write 2 address value ∷ []) ≡ memory
unfolding played
write_past memory address value h = set_out memory address value h

-- ONE VALUE

pub fill_step_lem : (memory : List ℕ) (address count value : ℕ) → 0 < count
    → played memory (upward 2 address (replicate count value)) ≡ played (set memory address value) (upward 2 (address + 1) (replicate (count - 1) value))
unfolding played upward
fill_step_lem memory address zero value h = absurd (not-suc-le-zero h)
fill_step_lem memory address (suc count) value h = rw (less count)

pub fill_end : (memory : List ℕ) (address count value : ℕ) → count ≡ 0 → played memory (upward 2 address (replicate count value)) ≡ memory
unfolding played upward
fill_end memory address count value e = rw e

-- all of a memory
replicate_next : (n v : ℕ) (rest : List ℕ) → replicate n v ++ (v ∷ rest) ≡ replicate (n + 1) v ++ rest
replicate_next n v rest = rw (add-one n) (go n)
  where
    go : (n : ℕ) → replicate n v ++ (v ∷ rest) ≡ v ∷ (replicate n v ++ rest)
    go zero = refl
    go (suc n) = ap (λ (l : List ℕ). v ∷ l) (go n)

fill_rest : (n v : ℕ) (rest : List ℕ) → played (replicate n v ++ rest) (upward 2 n (replicate (length rest) v)) ≡ replicate (n + length rest) v
unfolding played upward
fill_rest n v [] = rw (add-zero, mathlib.Core.List.append-nil)
fill_rest n v (b ∷ rest) =
    let more : n + 1 + length rest ≡ n + suc (length rest) = omega arith in
    ap (λ (m : List ℕ). played m (upward 2 (n + 1) (replicate (length rest) v))) (set_at (replicate n v) b rest v n (length-replicate n v) ∙ replicate_next n v rest)
    ∙ fill_rest (n + 1) v rest
    ∙ ap (λ (k : ℕ). replicate k v) more

pub fill_all : (memory : List ℕ) (v : ℕ) → played memory (upward 2 0 (replicate (length memory) v)) ≡ replicate (length memory) v
fill_all memory v = fill_rest 0 v memory ∙ ap (λ (k : ℕ). replicate k v) (zero-add (length memory))

-- BYTES OF A FILE

module _ (file : List ℕ) where
  pub copy_step : (memory : List ℕ) (address source step count : ℕ) → 0 < count
      → played memory (spread file 2 address source step count) ≡ played (set memory address (byte file source)) (spread file 2 (address + 1) (source + step) step (count - 1))
  unfolding played spread
  copy_step memory address source step zero h = absurd (not-suc-le-zero h)
  copy_step memory address source step (suc count) h = rw (less count)

  pub copy_end : (memory : List ℕ) (address source step count : ℕ) → count ≡ 0 → played memory (spread file 2 address source step count) ≡ memory
  unfolding played spread
  copy_end memory address source step count e = rw e

  -- another target
  pub copy_other : (memory : List ℕ) (target address source step count : ℕ) → eqb target 2 ≡ false → played memory (spread file target address source step count) ≡ memory
  unfolding played spread
  copy_other memory target address source step zero e = refl
  copy_other memory target address source step (suc count) e =
      ap (λ (b : Bool). played (cond b (set memory address (byte file source)) memory) (spread file target (address + 1) (source + step) step count)) e
      ∙ copy_other memory target (address + 1) (source + step) step count e

  -- past the end
  pub copy_past : (memory : List ℕ) (address source step count : ℕ) → length memory ≤ address → played memory (spread file 2 address source step count) ≡ memory
  unfolding played spread
  copy_past memory address source step zero h = refl
  copy_past memory address source step (suc count) h =
      ap (λ (m : List ℕ). played m (spread file 2 (address + 1) (source + step) step count)) (set_out memory address (byte file source) h)
      ∙ copy_past memory (address + 1) (source + step) step count (omega arith)

  -- as far as the end
  copy_whole : (memory : List ℕ) (address source step room more : ℕ) → length memory ≡ address + room
      → played memory (spread file 2 address source step (room + more)) ≡ played memory (spread file 2 address source step room)
  unfolding played spread
  copy_whole memory address source step zero more e = rw zero-add (copy_past memory address source step more (omega arith))
  copy_whole memory address source step (suc room) more e =
      let next : suc room + more ≡ suc (room + more) = omega arith in
      rw next (copy_whole (set memory address (byte file source)) (address + 1) (source + step) step room more (rw length-set (omega arith)))

  pub copy_min : (memory : List ℕ) (address source step count : ℕ) → address ≤ length memory
      → played memory (spread file 2 address source step (min count (length memory - address))) ≡ played memory (spread file 2 address source step count)
  copy_min memory address source step count h =
      go (length memory - address) (omega arith) (ltb count (length memory - address)) refl
    where
      go : (room : ℕ) → length memory ≡ address + room → (b : Bool) → ltb count room ≡ b
          → played memory (spread file 2 address source step (min count room)) ≡ played memory (spread file 2 address source step count)
      go room end true e =
          let short : min count room ≡ count = omega (arith, ltb-true count room e) in
          rw short
      go room end false e =
          let long : min count room ≡ room = omega (arith, ltb-false count room e) in
          let split : count ≡ room + (count - room) = omega (arith, ltb-false count room e) in
          rw long
          (sym (ap (λ (n : ℕ). played memory (spread file 2 address source step n)) split ∙ copy_whole memory address source step room (count - room) end))

  pub fill_min : (memory : List ℕ) (address source count : ℕ) → address ≤ length memory
      → played memory (upward 2 address (replicate (min count (length memory - address)) (byte file source))) ≡ played memory (spread file 2 address source 0 count)
  fill_min memory address source count h =
      rw (← (spread_fill file 2 address source (min count (length memory - address)))) (copy_min memory address source 0 count h)

  -- OPERATIONS AND RECORDS

  pub operations_step : (memory : List ℕ) (directory count at : ℕ) → 0 < count
      → played memory (operation_writes file directory count at)
      ≡ played (played memory (segment_writes file (segment_at file directory at))) (operation_writes file directory (count - 1) (segment_at file directory at).next)
  unfolding operation_writes
  operations_step memory directory zero at h = absurd (not-suc-le-zero h)
  operations_step memory directory (suc count) at h = rw (less count) (played_append memory (segment_writes file (segment_at file directory at)) _)

  pub operations_end_lem : (memory : List ℕ) (directory count at : ℕ) → count ≡ 0 → played memory (operation_writes file directory count at) ≡ memory
  unfolding operation_writes played
  operations_end_lem memory directory count at e = rw e

  pub records_step : (memory : List ℕ) (count at : ℕ) → 0 < count
      → played memory (record_writes file count at) ≡ played (played memory (record_write file at ∷ [])) (record_writes file (count - 1) (at + record_size))
  unfolding record_writes played
  records_step memory zero at h = absurd (not-suc-le-zero h)
  records_step memory (suc count) at h = rw (less count)

  pub records_end : (memory : List ℕ) (count at : ℕ) → count ≡ 0 → played memory (record_writes file count at) ≡ memory
  unfolding record_writes played
  records_end memory count at e = rw e

-- a memory keeps its length
pub played_length : (memory : List ℕ) (writes : List WriteRecord) → length (played memory writes) ≡ length memory
unfolding played
played_length memory [] = refl
played_length memory (w ∷ writes) = played_length (cond (eqb w.target 2) (set memory w.address w.value) memory) writes ∙ go (eqb w.target 2)
  where
    go : (b : Bool) → length (cond b (set memory w.address w.value) memory) ≡ length memory
    go true = length-set memory w.address w.value
    go false = refl
