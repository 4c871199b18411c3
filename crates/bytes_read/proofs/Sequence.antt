-- Bytes written one after the other are written as one.
use Prim.Native.Nat.{ℕ, ◌+◌, ◌≤◌, ◌<◌}
use mathlib.Core.Path.{◌≡◌, sym, ap, ◌∙◌}
use mathlib.Core.List.{List, [], ◌∷◌, ◌++◌, append_assoc, append-nil}
use native.Mathlib.Nat.{add-zero, add_assoc}
use native.Mathlib.Numerals.{add-one}
use native.Mathlib.Omega.{arith}
use lib.ListN.{length, take, drop, set, length-append, take-append-drop}
use lib.Seq.{append_snoc, set_split, take_at, drop_at, drop-drop, take-take, length-take-le}
use Rattle.bytes_read.specs.Put.{put}
use Rattle.bytes_read.proofs.Laws.{put_fits, put_before_lem, put_behind, length_put}

-- the second bytes behind the first
pub put_append : (a b : List ℕ) (at : ℕ) (buffer : List ℕ) → at + length (a ++ b) ≤ length buffer → put (a ++ b) at buffer ≡ put b (at + length a) (put a at buffer)
put_append a b at buffer h =
    let size = length-append a b in
    let room : at + length a ≤ length buffer = omega arith in
    let front : take (at + length a) (put a at buffer) ≡ take at buffer ++ a =
    rw (put_fits a at buffer room) (take_at (take at buffer ++ a) (drop (at + length a) buffer) (at + length a) (rw (length-append, length-take-le at buffer (omega arith)))) in
    let back : drop (at + length a + length b) (put a at buffer) ≡ drop (at + length (a ++ b)) buffer =
    sym (drop-drop (length b) (at + length a) (put a at buffer)) ∙ ap (drop (length b)) (put_behind a at buffer) ∙ drop-drop (length b) (at + length a) buffer ∙ rw (size, add_assoc) in
    put_fits (a ++ b) at buffer h
    ∙ sym (put_fits b (at + length a) (put a at buffer) (omega (arith, length_put a at buffer)) ∙ rw (front, back) (simp append_assoc))

-- the first bytes in front of the second
pub put_prepend : (a b : List ℕ) (at : ℕ) (buffer : List ℕ) → at + length (a ++ b) ≤ length buffer → put (a ++ b) at buffer ≡ put a at (put b (at + length a) buffer)
put_prepend a b at buffer h =
    let size = length-append a b in
    let mid = at + length a in
    let room : mid + length b ≤ length buffer = omega arith in
    let front : take at (put b mid buffer) ≡ take at buffer = sym (take-take at mid (put b mid buffer) (omega arith)) ∙ ap (take at) (put_before_lem b mid buffer) ∙ take-take at mid buffer (omega arith) in
    let back : drop mid (put b mid buffer) ≡ b ++ drop (mid + length b) buffer =
    rw (put_fits b mid buffer room, append_assoc) (drop_at (take mid buffer) (b ++ drop (mid + length b) buffer) mid (length-take-le mid buffer (omega arith))) in
    put_fits (a ++ b) at buffer h
    ∙ sym (put_fits a at (put b mid buffer) (omega (arith, length_put b mid buffer)) ∙ rw (front, back, size) (simp (append_assoc, add_assoc)))

-- the same with the size of the first bytes
pub put_next : (a b : List ℕ) (at size : ℕ) (buffer : List ℕ) → length a ≡ size → at + length (a ++ b) ≤ length buffer → put (a ++ b) at buffer ≡ put b (at + size) (put a at buffer)
put_next a b at size buffer e h = rw e at (put_append a b at buffer h)

-- no bytes
pub put_none : (at : ℕ) (buffer : List ℕ) → at ≤ length buffer → put [] at buffer ≡ buffer
put_none at buffer h = put_fits [] at buffer (omega arith) ∙ rw (append-nil, add-zero) (take-append-drop at buffer)

-- one byte
pub put_byte : (b at : ℕ) (buffer : List ℕ) → at < length buffer → set buffer at b ≡ put (b ∷ []) at buffer
put_byte b at buffer h = set_split buffer at b h ∙ sym (put_fits (b ∷ []) at buffer (omega arith) ∙ rw (append_snoc, add-one))
