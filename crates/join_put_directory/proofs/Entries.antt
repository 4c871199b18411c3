-- The entries as bytes: their steps and their size, and that they are the directory that the definitions write.
use Prim.Native.Nat.{ℕ, zero, suc, ◌+◌, ◌*◌, ◌-◌, ◌≤◌, ◌<◌}
use mathlib.Core.Path.{◌≡◌, refl, sym, ap, ◌∙◌}
use mathlib.Core.List.{List, [], ◌++◌}
use native.Mathlib.Numerals.{add-one}
use native.Mathlib.Omega.{arith}
use lib.ListN.{length, length-append}
use Rattle.base_format.specs.declared.pool.Pool.{Pool}
use Rattle.base_format.specs.Bytes.{part, bytes_of_all}
use Rattle.base_format.specs.Checked.{ok}
use Rattle.base_format.specs.Pool.{Payload, pool_at, pools_from}
use Rattle.base_format.specs.Written.{directory_bytes}
use Rattle.base_format.proofs.Bytes.{part_length}
use Rattle.base_format.proofs.Checks.{ok_is}
use Rattle.base_format.proofs.Fields.{fields_size_lem}
use Rattle.base_format.proofs.Steps.{pool_step}
use Rattle.bytes_put_tables.specs.Entry.{fields_of, entry_bytes}
use Rattle.join_put_directory.specs.Entries.{entry_moved, entries_moved}

pub entry_long : (file : List ℕ) (id moved entry : ℕ) → length (entry_moved file id moved entry) ≡ 16
unfolding entry_bytes
entry_long file id moved entry =
    let pool : Pool = pool_at file 40 entry in
    fields_size_lem (fields_of (id + entry) pool.kind pool.size (pool.offset + moved))

pub entries_long : (file : List ℕ) (id moved entry count : ℕ) → length (entries_moved file id moved entry count) ≡ count * 16
unfolding entries_moved
entries_long file id moved entry zero = refl
entries_long file id moved entry (suc count) =
    length-append (entry_moved file id moved entry) (entries_moved file id moved (entry + 1) count)
    ∙ omega (arith, entry_long file id moved entry, entries_long file id moved (entry + 1) count)

pub entries_none : (file : List ℕ) (id moved entry : ℕ) → entries_moved file id moved entry 0 ≡ []
unfolding entries_moved
entries_none file id moved entry = refl

pub entries_next : (file : List ℕ) (id moved entry count : ℕ) → entry < count
    → entries_moved file id moved entry (count - entry) ≡ entry_moved file id moved entry ++ entries_moved file id moved (entry + 1) (count - (entry + 1))
unfolding entries_moved
entries_next file id moved entry count less = go (count - entry) refl
  where
    go : (left : ℕ) → count - entry ≡ left → entries_moved file id moved entry left ≡ entry_moved file id moved entry ++ entries_moved file id moved (entry + 1) (count - (entry + 1))
    go zero e = absurd (omega (arith, e))
    go (suc left) e = let rest : left ≡ count - (entry + 1) = omega (arith, e) in ap (λ (n : ℕ). entry_moved file id moved entry ++ entries_moved file id moved (entry + 1) n) rest

module _ (file : List ℕ) (id moved : ℕ) where
  -- the pools of a file, behind so many others, with their payloads so many bytes further on
  pub directory_is : (count entry start : ℕ) (found : List Payload × ℕ) → pools_from 2 file 40 count entry start ≡ ok found
      → directory_bytes (id + entry) (start + moved) found.0 ≡ entries_moved file id moved entry count
  unfolding pools_from directory_bytes entries_moved entry_bytes
  directory_is zero entry start found e = ap (λ (f : List Payload × ℕ). directory_bytes (id + entry) (start + moved) f.0) (sym (ok_is e))
  directory_is (suc count) entry start found e =
      let step = pool_step 2 file 40 count entry start found e in
      let pool : Pool = pool_at file 40 entry in
      let bytes = part file start pool.size in
      let long : length bytes ≡ pool.size = part_length file start pool.size step.within in
      let here : start ≡ pool.offset = sym step.fine.here in
      let next : suc (id + entry) ≡ id + (entry + 1) = omega arith in
      let place : start + moved + length bytes ≡ start + pool.size + moved = omega arith in
      let more = directory_is count (suc entry) (start + pool.size) step.others step.from in
      ap (λ (f : List Payload × ℕ). directory_bytes (id + entry) (start + moved) f.0) (sym step.is)
      ∙ (λ i. bytes_of_all (fields_of (id + entry) pool.kind (long i) (here i + moved)) ++ directory_bytes (next i) (place i) step.others.0)
      ∙ ap (λ (l : List ℕ). entry_moved file id moved entry ++ l) (rw add-one more)

  -- every payload starts within the file
  pub offset_inside : (count entry start : ℕ) (found : List Payload × ℕ) → pools_from 2 file 40 count entry start ≡ ok found
      → (k : ℕ) → k < count → (pool_at file 40 (entry + k)).offset ≤ length file
  unfolding pools_from
  offset_inside zero entry start found e k less = absurd (omega arith)
  offset_inside (suc count) entry start found e zero less =
      let step = pool_step 2 file 40 count entry start found e in
      let same : entry + 0 ≡ entry = omega arith in
      rw same (omega (arith, step.within, step.fine.here))
  offset_inside (suc count) entry start found e (suc k) less =
      let step = pool_step 2 file 40 count entry start found e in
      let next : entry + suc k ≡ suc entry + k = omega arith in
      rw next (offset_inside count (suc entry) _ step.others step.from k (omega arith))
