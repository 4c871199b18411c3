-- The last bytes that the library makes of a number are its bytes at a width, and a part that is written with them.
use Prim.Native.Nat.{ℕ, zero, suc, ◌+◌, ◌-◌, ◌/◌, ◌%◌, ◌≤◌}
use mathlib.Core.Path.{◌≡◌, refl, ◌∙◌}
use mathlib.Core.List.{List, [], ◌∷◌}
use native.Mathlib.Omega.{arith}
use borrow.Rule.Slice.PartMut.{put_mid}
use lib.ListN.{length, take, drop}
use lib.Seq.{take_all}
use Rattle.std.specs.Int.{w32, to_be_bytes}
use Rattle.base_format.specs.Bytes.{bytes_of}
use Rattle.base_format.proofs.Bytes.{length_bytes_of}
use Rattle.bytes_store.specs.Put.{put}
use Rattle.bytes_store.proofs.Laws.{put_part}

pub low_bytes : (width n : ℕ) → width ≤ 4 → drop (4 - width) (to_be_bytes w32 n) ≡ bytes_of width n
unfolding bytes_of
low_bytes zero n h = refl
low_bytes (suc zero) n h = refl
low_bytes (suc (suc zero)) n h = refl
low_bytes (suc (suc (suc zero))) n h =
    let third : n / 65536 % 256 ≡ n / 256 / 256 % 256 = omega arith in
    λ i. third i ∷ (n / 256 % 256) ∷ (n % 256) ∷ []
low_bytes (suc (suc (suc (suc zero)))) n h =
    let fourth : n / 16777216 % 256 ≡ n / 256 / 256 / 256 % 256 = omega arith in
    let third : n / 65536 % 256 ≡ n / 256 / 256 % 256 = omega arith in
    λ i. fourth i ∷ third i ∷ (n / 256 % 256) ∷ (n % 256) ∷ []
low_bytes (suc (suc (suc (suc (suc width))))) n h = absurd (omega (arith, h))

pub put_low : (width n at : ℕ) (buffer whole copied : List ℕ) → width ≤ 4 → at + width ≤ length buffer → whole ≡ to_be_bytes w32 n
    → copied ≡ take (4 - (4 - width)) (drop (4 - width) whole) → put_mid at (at + width - at) buffer copied ≡ put (bytes_of width n) at buffer
put_low width n at buffer whole copied h room w e =
    let low = low_bytes width n h in
    let size = length_bytes_of width n in
    let four : 4 - (4 - width) ≡ width = omega arith in
    let last : copied ≡ bytes_of width n = e ∙ rw (w, four, low) (take_all width (bytes_of width n) (omega (arith, size))) in
    rw last (put_part (bytes_of width n) at (at + width) buffer (omega (arith, size)) room)
