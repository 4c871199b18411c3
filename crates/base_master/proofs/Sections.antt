-- Laws of the sections of a file of version 2: operations and payloads one behind the other, and how many records go where.
use Prim.Native.Nat.{ℕ, zero, suc, ◌+◌, ◌*◌, ◌-◌}
use mathlib.Core.Path.{◌≡◌, refl, sym, ap}
use mathlib.Core.Bool.{Bool, true, false, cond}
use mathlib.Core.List.{List, [], ◌∷◌, ◌++◌, append_assoc, append-nil}
use native.Mathlib.Omega.{arith}
use borrow.Author.Tests.{eqb-true, eqb-false}
use lib.Dec.{eqb}
use lib.ListN.{length, length-append}
use Rattle.base_format.specs.declared.operation.Operation.{Operation}
use Rattle.base_format.specs.Bytes.{byte}
use Rattle.base_format.specs.Pool.{Payload}
use Rattle.base_format.specs.Repack.{to_pcm, to_cores, pcm_pools}
use Rattle.base_format.specs.Writes.{target_number}
use Rattle.base_format.specs.Written.{item_bytes, operations_bytes, payloads_bytes}
use Rattle.base_master.specs.Places.{frames_at, behind_frame}
use Rattle.base_master.specs.Result.{pcm_bytes, core_bytes}
use Rattle.base_master.proofs.Result.{pcm_byte, pcm_skip, core_item, core_skip, opening_none, write_size, write_six}

-- ---- sequences

pub operations_append : (version : ℕ) (a b : List Operation) → operations_bytes version (a ++ b) ≡ operations_bytes version a ++ operations_bytes version b
unfolding operations_bytes
operations_append version [] b = refl
operations_append version (operation ∷ a) b = rw (operations_append version a b) (sym (append_assoc (item_bytes version operation) (operations_bytes version a) (operations_bytes version b)))

pub payloads_append : (a b : List Payload) → payloads_bytes (a ++ b) ≡ payloads_bytes a ++ payloads_bytes b
unfolding payloads_bytes
payloads_append [] b = refl
payloads_append (pool ∷ a) b = rw (payloads_append a b) (sym (append_assoc pool.bytes (payloads_bytes a) (payloads_bytes b)))

pub five_size : (a b c d e : List ℕ) → length (a ++ (b ++ (c ++ (d ++ e)))) ≡ length a + (length b + (length c + (length d + length e)))
five_size a b c d e = simp length-append

pub pcm_payload : (pcm : List ℕ) → payloads_bytes (pcm_pools pcm) ≡ pcm
unfolding payloads_bytes
pcm_payload [] = refl
pcm_payload (v ∷ pcm) = append-nil (v ∷ pcm)

-- ---- the records of an opening, and the frames

-- each record goes to PCM or to a core
pub record_each : (file : List ℕ) (count at : ℕ) → (length (core_bytes file count at) + length (pcm_bytes file count at) * 6 ≡ count * 6)
record_each file zero at = rw ((opening_none file at).0, (opening_none file at).1) (omega arith)
record_each file (suc count) at = go (record_each file count (at + 5)) (eqb (byte file at) 2) refl
  where
    less : suc count - 1 ≡ count
    less = omega arith

    go : length (core_bytes file count (at + 5)) + length (pcm_bytes file count (at + 5)) * 6 ≡ count * 6 → (b : Bool) → eqb (byte file at) 2 ≡ b
        → length (core_bytes file (suc count) at) + length (pcm_bytes file (suc count) at) * 6 ≡ suc count * 6
    go more true e =
        rw (pcm_byte file (suc count) at (omega arith) (eqb-true _ _ e), core_skip file (suc count) at (omega arith) (eqb-true _ _ e), less) (omega arith)
    go more false e =
        rw (pcm_skip file (suc count) at (omega arith) (eqb-false _ _ e), core_item file (suc count) at (omega arith) (eqb-false _ _ e), less, length-append, write_size, write_six) (omega arith)

pub split_count : (records : List Operation) → length (to_cores records) + length (to_pcm records) ≡ length records
unfolding to_pcm to_cores
split_count [] = refl
split_count (record' ∷ records) = go (split_count records) (eqb (target_number record') 2)
  where
    go : length (to_cores records) + length (to_pcm records) ≡ length records → (b : Bool)
        → length (cond b (to_cores records) (record' ∷ to_cores records)) + length (cond b (record' ∷ to_pcm records) (to_pcm records)) ≡ suc (length records)
    go more true = omega arith
    go more false = omega arith

pub frames_count : (file : List ℕ) (count at : ℕ) → length (frames_at file count at) ≡ count
unfolding frames_at
frames_count file zero at = refl
frames_count file (suc count) at = ap suc (frames_count file count (behind_frame file at))
