-- Laws of the writes that are stored: how many they are, and the run after some turns of the loop.
use Prim.Native.Nat.{ℕ, zero, suc, ◌+◌, ◌*◌, ◌≤◌, ◌<◌}
use mathlib.Core.Bool.{Bool, true, false, cond, ◌||◌, or-true}
use mathlib.Core.List.{List}
use mathlib.Core.Path.{◌≡◌, refl, sym}
use native.Mathlib.Nat.{suc-mul, mul-le-mul_right}
use native.Mathlib.Omega.{arith}
use borrow.Author.Tests.{lt-ltb, le-ltb, ltb-false, leb-true}
use lib.Dec.{ltb}
use Rattle.std.specs.Prelude.{Some}
use lib.ListN.{length, set}
use Rattle.base_format.specs.declared.operation.WriteRecord.{WriteRecord}
use Rattle.base_format.proofs.Checks.{and_true}
use Rattle.play_fast_plain.specs.Plain.{plain_size, plain_at, plain_behind, plain_write, plain_writes}
use Rattle.play_fast_plain.proofs.Gather.{all_plain}
use Rattle.play_fast_plain.proofs.Writes.{writes_long, write_at_lem}
use Rattle.base_format.proofs.Lent as front
use Rattle.play_store_plain.specs.Stored.{storable, writes_stored}

-- HOW MANY

module _ (room size version from count : ℕ) where
  -- the run is too short for them
  pub storable_room : room < count → storable room size version from count ≡ 0
  unfolding storable
  storable_room less = rw (lt-ltb room count less)

  -- the file is
  pub storable_file : size + plain_size version < from + count * plain_size version + 16 → storable room size version from count ≡ 0
  unfolding storable
  storable_file less = rw (lt-ltb _ _ less, or-true)

  -- all of them fit
  pub storable_fit : count ≤ room → from + count * plain_size version + 16 ≤ size + plain_size version → storable room size version from count ≡ count
  unfolding storable
  storable_fit inside within = rw (le-ltb room count inside, le-ltb _ _ within)

  -- those that are stored fit into the run, and each of them into the file
  pub storable_fits : (storable room size version from count ≤ room) × ((i : ℕ) → i < storable room size version from count → from + i * plain_size version + 16 ≤ size)
  unfolding storable
  storable_fits = go (ltb room count) refl (ltb (size + plain_size version) (from + count * plain_size version + 16)) refl
    where
      go : (a : Bool) → ltb room count ≡ a → (b : Bool) → ltb (size + plain_size version) (from + count * plain_size version + 16) ≡ b
          → (cond (a || b) 0 count ≤ room) × ((i : ℕ) → i < cond (a || b) 0 count → from + i * plain_size version + 16 ≤ size)
      go true e b f = (omega arith, λ i less. absurd (omega (arith, less)))
      go false e true f = (omega arith, λ i less. absurd (omega (arith, less)))
      go false e false f = (
        ltb-false room count e,
        λ i less. omega (arith, less, ltb-false (size + plain_size version) (from + count * plain_size version + 16) f, suc-mul i (plain_size version), mul-le-mul_right {m = suc i} {n = count} (plain_size version) (omega (arith, less))),
      )

-- so many plain WRITEs have 16 bytes from the last one on before the end
behind_room : (version : ℕ) (file : List ℕ) (end count at behind : ℕ) → Some behind ≡ plain_behind version file end (suc count) at → at + count * plain_size version + 16 ≤ end
unfolding plain_at
behind_room version file end zero at behind some = omega (arith, leb-true (at + 16) end (and_true _ _ (all_plain version file end zero at behind some).0).0)
behind_room version file end (suc count) at behind some =
    omega (arith, behind_room version file end count (at + plain_size version) behind (all_plain version file end (suc count) at behind some).1, suc-mul count (plain_size version))

-- where so many are plain, all of them are stored
pub storable_all : (version : ℕ) (file : List ℕ) (room end from count behind : ℕ) → end ≤ length file → count ≤ room → Some behind ≡ plain_behind version file end count from → storable room (length file) version from count ≡ count
unfolding storable
storable_all version file room end from zero behind within inside some = go (ltb room zero || ltb (length file + plain_size version) (from + zero * plain_size version + 16))
  where
    go : (b : Bool) → ◌≡◌ {A = ℕ} (cond b 0 0) 0
    go true = refl
    go false = refl
storable_all version file room end from (suc count) behind within inside some =
    storable_fit room (length file) version from (suc count) inside (omega (arith, within, behind_room version file end count from behind some, suc-mul count (plain_size version)))

-- THE RUN AFTER SOME TURNS

module _ (file : List ℕ) (version from count : ℕ) (run : List WriteRecord) where
  abbrev n : ℕ
  n = storable (length run) (length file) version from count

  abbrev records : List WriteRecord
  records = plain_writes version file n from

  fits : length records ≤ length run
  fits = omega (arith, writes_long version file n from, (storable_fits (length run) (length file) version from count).0)

  abbrev pub pasted : (i : ℕ) → List WriteRecord
  pasted i = front.pasted records run i

  pub pasted_long : (i : ℕ) → i ≤ n → length (pasted i) ≡ length run
  pasted_long i few = front.pasted_long records run fits i (rw (writes_long version file n from) few)

  pub pasted_next : (i : ℕ) → i < n → set (pasted i) i (plain_write version file (from + i * plain_size version)) ≡ pasted (i + 1)
  pasted_next i less =
      front.pasted_next records run fits i (plain_write version file (from + i * plain_size version)) (rw (writes_long version file n from) less) (write_at_lem version file n from i (plain_write version file (from + i * plain_size version)) less)

  pub stored_is : pasted n ≡ writes_stored file version from count run
  unfolding writes_stored
  stored_is = front.pasted_all records run fits n (sym (writes_long version file n from))

  -- the run keeps its length
  pub stored_long : length (writes_stored file version from count run) ≡ length run
  unfolding writes_stored
  stored_long = front.stored_long records run fits
