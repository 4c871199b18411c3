-- The bytes of lists in two parts.
use Prim.Native.Nat.{ℕ, suc, ◌+◌}
use mathlib.Core.Path.{◌≡◌, refl}
use mathlib.Core.List.{List, [], ◌∷◌, ◌++◌, append_assoc}
use native.Mathlib.Nat.{add-zero}
use native.Mathlib.Omega.{arith}
use lib.ListN.{length, length-append}
use Rattle.base_format.specs.declared.operation.Operation.{Operation}
use Rattle.base_format.specs.Bytes.{u16, bytes_of_all}
use Rattle.base_format.specs.Pool.{Payload}
use Rattle.base_format.specs.Written.{operations_bytes, frames_bytes, directory_bytes, payloads_bytes}
use Rattle.base_master.proofs.Sections.{operations_append}
use Rattle.join_stream.specs.Join.{put_before}

-- two lists of pools: the second's entries go on counting, and their payloads start where the first's end
pub directory_append : (id start : ℕ) (a b : List Payload)
    → directory_bytes id start (a ++ b) ≡ directory_bytes id start a ++ directory_bytes (id + length a) (start + length (payloads_bytes a)) b
unfolding directory_bytes payloads_bytes
directory_append id start [] b = rw (add-zero id, add-zero start)
directory_append id start (pool ∷ a) b =
    let next : suc id + length a ≡ id + suc (length a) = omega arith in
    let place : start + length pool.bytes + length (payloads_bytes a) ≡ start + length (pool.bytes ++ payloads_bytes a) = rw (length-append pool.bytes (payloads_bytes a)) (omega arith) in
    rw (directory_append (suc id) (start + length pool.bytes) a b, next, place, append_assoc)

pub frames_append : (version : ℕ) (a b : List (List Operation)) → frames_bytes version (a ++ b) ≡ frames_bytes version a ++ frames_bytes version b
unfolding frames_bytes
frames_append version [] b = refl
frames_append version (frame ∷ a) b = simp (frames_append version a b, append_assoc)

-- the frame that grows: one count, the opening's operations, its own, and the frames behind it as they were
pub put_bytes : (version : ℕ) (opening frame : List Operation) (frames : List (List Operation))
    → frames_bytes version (put_before opening (frame ∷ frames))
    ≡ bytes_of_all (u16 (length opening + length frame) ∷ []) ++ (operations_bytes version opening ++ (operations_bytes version frame ++ frames_bytes version frames))
unfolding frames_bytes
put_bytes version opening frame frames = rw (length-append opening frame, operations_append version opening frame, append_assoc)
