-- Laws of numbers that are read from and written into bytes, over the width.
use Prim.Native.Nat.{ℕ, suc, ◌+◌, ◌-◌, ◌/◌, ◌%◌, ◌^◌, ◌≤◌, ◌<◌}
use mathlib.Core.Path.{◌≡◌, refl, sym, ◌∙◌}
use mathlib.Core.Bool.{Bool, true, false, cond}
use mathlib.Core.List.{List, [], ◌∷◌, ◌++◌, append_assoc}
use native.Mathlib.Nat.{add-zero}
use native.Mathlib.Numerals.{add-one}
use native.Mathlib.Omega.{arith}
use borrow.Rule.Slice.PartMut.{put_mid}
use borrow.Author.Tests.{le-leb, lt-leb, leb-true}
use lib.Dec.{leb}
use lib.ListN.{length, take, drop, set, length-append}
use lib.Seq.{paste-zero, paste-suc, take_all, take_at, get_or_at, length-take-le, drop_at, length-paste, drop-paste, drop-drop, take-length}
use Rattle.base_format.specs.Bytes.{be, bytes_of}
use Rattle.base_format.proofs.Bytes.{length_bytes_of, be_here}
use Rattle.bytes_store.specs.Put.{put}

-- bytes that fit stand at their place, with what was before and behind them
pub put_fits : (bytes : List ℕ) (at : ℕ) (buffer : List ℕ) → at + length bytes ≤ length buffer → put bytes at buffer ≡ take at buffer ++ bytes ++ drop (at + length bytes) buffer
unfolding put
put_fits bytes at buffer h = rw (le-leb (at + length bytes) (length buffer) h)

-- bytes that do not fit change nothing
pub put_passes : (bytes : List ℕ) (at : ℕ) (buffer : List ℕ) → length buffer < at + length bytes → put bytes at buffer ≡ buffer
unfolding put
put_passes bytes at buffer h = rw (lt-leb (at + length bytes) (length buffer) h)

-- a number stands at its place where it fits, with what was before and behind it
number_fits : (width n at : ℕ) (buffer : List ℕ) → at + width ≤ length buffer → put (bytes_of width n) at buffer ≡ take at buffer ++ bytes_of width n ++ drop (at + width) buffer
number_fits width n at buffer h =
    rw (length_bytes_of width n) at (put_fits (bytes_of width n) at buffer (rw (length_bytes_of width n) h))

-- and where it does not fit nothing changes
pub number_passes : (width n at : ℕ) (buffer : List ℕ) → length buffer < at + width → buffer ≡ put (bytes_of width n) at buffer
number_passes width n at buffer h = sym (put_passes (bytes_of width n) at buffer (rw (length_bytes_of width n) h))

-- one byte more
pub put_next : (width n at : ℕ) (buffer : List ℕ) → at + width < length buffer → set (put (bytes_of width (n / 256)) at buffer) (at + width) (n % 256) ≡ put (bytes_of (width + 1) n) at buffer
unfolding bytes_of
put_next width n at buffer h =
    let high = bytes_of width (n / 256) in
    let whole = high ++ (n % 256 ∷ []) in
    let size : length high ≡ width = length_bytes_of width (n / 256) in
    let all : length whole ≤ suc width = rw length-append (omega arith) in
    rw (add-one, number_fits width (n / 256) at buffer (omega arith), number_fits (suc width) n at buffer (omega arith))
    (rw (take_at high (n % 256 ∷ []) width size, get_or_at high (n % 256) [] 0 width size, take_all (suc width) whole all)
    at (paste-suc buffer at whole width 0 h (rw length-append (omega arith))))

-- a part that is written whole
pub put_part : (bytes : List ℕ) (at end : ℕ) (buffer : List ℕ) → at + length bytes ≡ end → end ≤ length buffer → put_mid at (end - at) buffer bytes ≡ put bytes at buffer
put_part bytes at end buffer e h =
    let k : end - at ≡ length bytes = omega arith in
    rw (k, drop-drop (length bytes) at buffer) (sym (append_assoc (take at buffer) bytes (drop (at + length bytes) buffer)) ∙ sym (put_fits bytes at buffer (omega arith)))

-- a number that was written is read again
pub be_put : (width n at : ℕ) (buffer : List ℕ) → at + width ≤ length buffer → n < 256 ^ width → be width (put (bytes_of width n) at buffer) at ≡ n
be_put width n at buffer h fits =
    let front : length (take at buffer) ≡ at = length-take-le at buffer (omega arith) in
    be_here (put (bytes_of width n) at buffer) at (drop (at + width) buffer) width n
    (rw (number_fits width n at buffer h, append_assoc, drop_at (take at buffer) (bytes_of width n ++ drop (at + width) buffer) at front)) fits

-- whether the bytes fit or not, what stands before and behind them stays, and so does the length
module _ (bytes : List ℕ) (at : ℕ) (buffer : List ℕ) where
  cases : (P : List ℕ → Type 0) → (at + length bytes ≤ length buffer → P (take at buffer ++ bytes ++ drop (at + length bytes) buffer)) → P buffer → P (put bytes at buffer)
  unfolding put
  cases P fits passes = go (leb (at + length bytes) (length buffer)) refl
    where
      go : (b : Bool) → leb (at + length bytes) (length buffer) ≡ b → P (cond b (take at buffer ++ bytes ++ drop (at + length bytes) buffer) buffer)
      go true e = fits (leb-true _ _ e)
      go false e = passes

  pub put_before_lem : take at (put bytes at buffer) ≡ take at buffer
  put_before_lem =
      cases (λ (l : List ℕ). take at l ≡ take at buffer) (λ h. rw append_assoc (take_at (take at buffer) (bytes ++ drop (at + length bytes) buffer) at (length-take-le at buffer (omega arith)))) refl

  pub put_behind : drop (at + length bytes) (put bytes at buffer) ≡ drop (at + length bytes) buffer
  put_behind =
      cases (λ (l : List ℕ). drop (at + length bytes) l ≡ drop (at + length bytes) buffer) (λ h. rw take-length at (drop-paste buffer at bytes (length bytes) (omega arith) (omega arith))) refl

  pub length_put : length (put bytes at buffer) ≡ length buffer
  length_put = cases (λ (l : List ℕ). length l ≡ length buffer) (λ h. rw take-length at (length-paste buffer at bytes (length bytes) h (omega arith))) refl

-- the first byte
pub put_first : (n at : ℕ) (buffer : List ℕ) → at < length buffer → set buffer at (n % 256) ≡ put (bytes_of 1 n) at buffer
unfolding bytes_of
put_first n at buffer h =
    let none : put [] at buffer ≡ buffer = number_fits 0 n at buffer (omega arith) ∙ sym (paste-zero buffer at []) in
    rw (none, add-zero) at (put_next 0 n at buffer (omega arith))
