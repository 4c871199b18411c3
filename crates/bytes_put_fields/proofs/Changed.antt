-- Bytes that are written over some of others.
use Prim.Native.Nat.{ℕ, ◌+◌, ◌≤◌}
use mathlib.Core.Path.{◌≡◌, sym, ap, ap₂, ◌∙◌}
use mathlib.Core.List.{List, ◌++◌}
use native.Mathlib.Omega.{arith}
use lib.ListN.{length, drop, length-append}
use Rattle.bytes_read.specs.Put.{put}
use Rattle.bytes_read.proofs.Laws.{put_fits, put_before_lem, put_behind, length_put}
use Rattle.bytes_read.proofs.Sequence.{put_append, put_prepend}

-- as many bytes in the place of others
put_over : (new old : List ℕ) (at : ℕ) (buffer : List ℕ) → length new ≡ length old → at + length new ≤ length buffer → put new at (put old at buffer) ≡ put new at buffer
put_over new old at buffer same fits =
    let behind : drop (at + length new) (put old at buffer) ≡ drop (at + length new) buffer = rw same (put_behind old at buffer) in
    put_fits new at (put old at buffer) (omega (arith, length_put old at buffer))
    ∙ ap₂ (λ (front back : List ℕ). front ++ new ++ back) (put_before_lem old at buffer) behind
    ∙ sym (put_fits new at buffer fits)

-- some of the bytes that stand at a place are others now
pub put_changed : (head old new rest : List ℕ) (at : ℕ) (buffer : List ℕ) → length new ≡ length old → at + length (head ++ (old ++ rest)) ≤ length buffer
    → put new (at + length head) (put (head ++ (old ++ rest)) at buffer) ≡ put (head ++ (new ++ rest)) at buffer
put_changed head old new rest at buffer same fits =
    let whole : length (head ++ (old ++ rest)) ≡ length head + (length old + length rest) = simp length-append in
    let whole' : length (head ++ (new ++ rest)) ≡ length head + (length new + length rest) = simp length-append in
    let behind : length (old ++ rest) ≡ length old + length rest = length-append old rest in
    let behind' : length (new ++ rest) ≡ length new + length rest = length-append new rest in
    let here = at + length head in
    let front = put head at buffer in
    let long = length_put head at buffer in
    let tail = put rest (here + length old) front in
    ap (put new here) (put_append head (old ++ rest) at buffer fits ∙ put_prepend old rest here front (omega arith))
    ∙ put_over new old here tail same (omega (arith, length_put rest (here + length old) front))
    ∙ ap (λ (n : ℕ). put new here (put rest (here + n) front)) (sym same)
    ∙ sym (put_append head (new ++ rest) at buffer (omega arith) ∙ put_prepend new rest here front (omega arith))
