-- Laws of numbers in files, over the width: how great one is, what it is past the end and in a part, and that a number that is written
-- at a place is read there.
use Prim.Native.Nat.{ℕ, zero, suc, ◌+◌, ◌*◌, ◌/◌, ◌%◌, ◌^◌, ◌≤◌, ◌<◌}
use mathlib.Core.Path.{◌≡◌, refl, sym, ap, ◌∙◌}
use mathlib.Core.List.{List, ◌∷◌, ◌++◌, append_assoc}
use native.Mathlib.Nat.{zero-add, add-zero, add_assoc, pow-zero, pow-suc, lt_of_lt_of_le, pow-le-pow_right, div-lt_iff_lt-mul}
use native.Mathlib.Numerals.{add-one}
use native.Mathlib.Omega.{arith}
use lib.Dec.{lit<}
use lib.ListN.{length, drop, length-append, length-take, length-drop, get_or-eq_default}
use lib.Seq.{get_or-take, get_or-drop, get_or_at, drop-drop, drop-append_seam, take-append_seam}
use Rattle.base_format.specs.Bytes.{byte, AllBytes, be, bytes_of, part}

-- a part that lies in the file has its size
pub part_length : (file : List ℕ) (place size : ℕ) → place + size ≤ length file → length (part file place size) ≡ size
part_length file place size h = simp (length-take, length-drop) (omega arith)

-- one byte more
pub be_next : (width : ℕ) (file : List ℕ) (place : ℕ) → be (width + 1) file place ≡ be width file place * 256 + byte file (place + width)
unfolding be
be_next width file place = rw add-one

-- a number of so many bytes is below 256 to that power
pub be_below : (width : ℕ) (file : List ℕ) (place : ℕ) → AllBytes file → be width file place < 256 ^ width
unfolding be
be_below zero file place bytes = lit< tt
be_below (suc width) file place bytes = rw pow-suc (omega (arith, be_below width file place bytes, bytes (place + width)))

-- and below every greater power
pub be_within : (limit : ℕ) {width : ℕ} (file : List ℕ) (place : ℕ) → AllBytes file → width ≤ limit → be width file place < 256 ^ limit
be_within limit {width} file place bytes h = lt_of_lt_of_le (be_below width file place bytes) (pow-le-pow_right (lit< tt) h)

-- past the end every byte is 0
pub byte_past : (file : List ℕ) (place : ℕ) → length file ≤ place → 0 ≡ byte file place
byte_past file place h = sym (get_or-eq_default file 0 h)

pub be_past : (width : ℕ) (file : List ℕ) (place : ℕ) → length file ≤ place → 0 ≡ be width file place
unfolding be
be_past zero file place h = refl
be_past (suc width) file place h = omega (arith, be_past width file place h, byte_past file (place + width) (omega arith))

-- a number of one byte is the byte
pub be_first : (file : List ℕ) (place : ℕ) → be 1 file place ≡ byte file place
unfolding be
be_first file place = rw add-zero (omega arith)

-- a part of a file has its bytes, and so its numbers
pub byte_part : (file : List ℕ) (at size i : ℕ) → i < size → byte (part file at size) i ≡ byte file (at + i)
byte_part file at size i h = rw (get_or-take size (drop at file) i 0 h, get_or-drop)

pub be_part : (width : ℕ) (file : List ℕ) (at size place : ℕ) → place + width ≤ size → be width (part file at size) place ≡ be width file (at + place)
unfolding be
be_part zero file at size place h = refl
be_part (suc width) file at size place h =
    let next : at + (place + width) ≡ at + place + width = omega arith in
    rw (be_part width file at size place (omega arith), byte_part file at size (place + width) (omega arith), next)

-- ---- bytes that are written, read

-- a number has as many bytes as its width
pub length_bytes_of : (width n : ℕ) → length (bytes_of width n) ≡ width
unfolding bytes_of
length_bytes_of zero n = refl
length_bytes_of (suc width) n = simp (length-append, length_bytes_of width (n / 256)) (omega arith)

-- reading at a place is reading the rest from its start
pub byte_drop : (file : List ℕ) (place i : ℕ) → byte file (place + i) ≡ byte (drop place file) i
byte_drop file place i = sym (get_or-drop place file i 0)

pub be_drop : (width : ℕ) (file : List ℕ) (place i : ℕ) → be width file (place + i) ≡ be width (drop place file) i
unfolding be
be_drop zero file place i = refl
be_drop (suc width) file place i =
    rw (be_drop width file place i, add_assoc, byte_drop file place (i + width))

-- a written number, read: what stands behind it does not matter
be_front : (width n : ℕ) (rest : List ℕ) → n < 256 ^ width → be width (bytes_of width n ++ rest) 0 ≡ n
unfolding be bytes_of
be_front zero n rest h = let h' : n < 1 = rw pow-zero at h in omega arith
be_front (suc width) n rest h =
    let h' : n < 256 ^ width * 256 = rw pow-suc at h in
    rw (
      append_assoc,
      be_front width (n / 256) (n % 256 ∷ rest) ((div-lt_iff_lt-mul (lit< tt)).1 h'),
      zero-add width,
      get_or_at (bytes_of width (n / 256)) (n % 256) rest 0 width (length_bytes_of width (n / 256)),
    ) (omega arith)

-- from a place on, a file has these bytes
module _ (file : List ℕ) (place : ℕ) (rest : List ℕ) where
  pub byte_here : (b : ℕ) → drop place file ≡ b ∷ rest → byte file place ≡ b
  byte_here b here =
      let p : byte file (place + 0) ≡ byte (drop place file) 0 = byte_drop file place 0 in
      let q : byte file place ≡ byte (drop place file) 0 = rw add-zero at p in
      q ∙ ap (λ (l : List ℕ). byte l 0) here

  pub be_here : (width n : ℕ) → drop place file ≡ bytes_of width n ++ rest → n < 256 ^ width → be width file place ≡ n
  be_here width n here h =
      let p : be width file (place + 0) ≡ be width (drop place file) 0 = be_drop width file place 0 in
      let q : be width file place ≡ be width (drop place file) 0 = rw add-zero at p in
      q ∙ ap (λ (l : List ℕ). be width l 0) here ∙ be_front width n rest h

  pub part_here : (bytes : List ℕ) → drop place file ≡ bytes ++ rest → part file place (length bytes) ≡ bytes
  part_here bytes here = rw (here, take-append_seam)

  -- behind them stands the rest
  pub behind : (bytes : List ℕ) → drop place file ≡ bytes ++ rest → drop (place + length bytes) file ≡ rest
  behind bytes here = sym (drop-drop (length bytes) place file) ∙ ap (drop (length bytes)) here ∙ drop-append_seam bytes rest

-- the law of numbers in files, over the width
pub be_written : (width n : ℕ) (before behind : List ℕ) → n < 256 ^ width → be width (before ++ bytes_of width n ++ behind) (length before) ≡ n
be_written width n before behind h =
    be_here (before ++ bytes_of width n ++ behind) (length before) behind width n (rw append_assoc (drop-append_seam before (bytes_of width n ++ behind))) h
