-- Reading at a place of a file whose bytes from there on are known.
use Prim.Native.Nat.{ℕ, zero, suc, ◌+◌, ◌*◌, ◌/◌, ◌%◌, ◌^◌, ◌≤◌, ◌<◌}
use mathlib.Core.Path.{◌≡◌, refl, sym, ap, ◌∙◌, subst, subst₂}
use mathlib.Core.List.{List, [], ◌∷◌, ◌++◌, append_assoc}
use native.Mathlib.Nat.{add-zero, add_assoc}
use native.Mathlib.Numerals.{add-one}
use native.Mathlib.Omega.{arith}
use lib.ListN.{length, drop, length-append, take-append-drop}
use lib.Arith.{digits_div, digits_mod}
use lib.Seq.{drop-cons, drop-drop}
use Rattle.base_format.proofs.Bytes.{part_length, length_bytes_of, byte_here, be_here, part_here, behind}
use Rattle.base_format.proofs.Fields.{fields_size}
use Rattle.base_format.specs.Bytes.{AllBytes, byte, be, bytes_of, part, Field, u8, u, raw, bytes_of_all}

-- ---- fields

-- each field holds its number, the first at an offset from a place
abbrev pub Holds : List ℕ → (at offset : ℕ) → List Field → Type 0
Holds file at offset [] = Unit {0}
Holds file at offset (u8 n ∷ fields) = (byte file (at + offset) ≡ n) × Holds file at (offset + 1) fields
Holds file at offset (u width n ∷ fields) = (be width file (at + offset) ≡ n) × Holds file at (offset + width) fields
Holds file at offset (raw bytes ∷ fields) = (part file (at + offset) (length bytes) ≡ bytes) × Holds file at (offset + length bytes) fields

-- each number fits its width
abbrev pub Fit : List Field → Type 0
Fit [] = Unit {0}
Fit (u8 n ∷ fields) = Fit fields
Fit (u width n ∷ fields) = (n < 256 ^ width) × Fit fields
Fit (raw bytes ∷ fields) = Fit fields

-- written fields, read
pub holds : (file : List ℕ) (at offset : ℕ) (fields : List Field) (rest : List ℕ) → drop (at + offset) file ≡ bytes_of_all fields ++ rest → Fit fields
    → Holds file at offset fields
unfolding bytes_of_all
holds file at offset [] rest here fit = tt
holds file at offset (u8 n ∷ fields) rest here fit = (
  byte_here file (at + offset) (bytes_of_all fields ++ rest) n here,
  holds file at (offset + 1) fields rest (rw add_assoc at (behind file (at + offset) (bytes_of_all fields ++ rest) (n ∷ []) here)) fit,
)
holds file at offset (u width n ∷ fields) rest here fit =
    let here' : drop (at + offset) file ≡ bytes_of width n ++ (bytes_of_all fields ++ rest) = rw append_assoc at here in (
      be_here file (at + offset) (bytes_of_all fields ++ rest) width n here' fit.0,
      holds file at (offset + width) fields rest (rw (length_bytes_of, add_assoc) at (behind file (at + offset) (bytes_of_all fields ++ rest) (bytes_of width n) here')) fit.1,
    )
holds file at offset (raw bytes ∷ fields) rest here fit =
    let here' : drop (at + offset) file ≡ bytes ++ (bytes_of_all fields ++ rest) = rw append_assoc at here in (
      part_here file (at + offset) (bytes_of_all fields ++ rest) bytes here',
      holds file at (offset + length bytes) fields rest (rw add_assoc at (behind file (at + offset) (bytes_of_all fields ++ rest) bytes here')) fit,
    )

-- ---- the other way: what is read stands there as it is written

-- from a place up to the next one stand these bytes
pub record Took (file : List ℕ) (at next : ℕ) (bytes : List ℕ) : Type 0 where
  pub here : drop at file ≡ bytes ++ drop next file
  pub up_to : next ≡ at + length bytes
  pub inside : next ≤ length file

pub took_none : (file : List ℕ) (at : ℕ) → at ≤ length file → Took file at at []
took_none file at h = record { here = refl; up_to = sym (add-zero at); inside = h }

pub took_both : {file : List ℕ} {at mid next : ℕ} {xs ys : List ℕ} → Took file at mid xs → Took file mid next ys → Took file at next (xs ++ ys)
took_both {file} {at} {mid} {next} {xs} {ys} a b =
    record {
      here = a.here ∙ ap (λ (l : List ℕ). xs ++ l) b.here ∙ sym (append_assoc xs ys (drop next file));
      up_to = simp length-append (omega (arith, a.up_to, b.up_to));
      inside = b.inside;
    }

pub took_until : {file : List ℕ} {at mid next : ℕ} {xs : List ℕ} → mid ≡ next → Took file at mid xs → Took file at next xs
took_until {file} {at} {mid} {next} {xs} e t = subst (λ (k : ℕ). Took file at k xs) e t

pub took_byte : (file : List ℕ) (at : ℕ) → at < length file → Took file at (at + 1) (byte file at ∷ [])
took_byte file at h = record { here = rw add-one (drop-cons file at 0 h); up_to = refl; inside = omega arith }

pub took_part : (file : List ℕ) (at n : ℕ) → at + n ≤ length file → Took file at (at + n) (part file at n)
took_part file at n h =
    record { here = sym (take-append-drop n (drop at file)) ∙ ap (λ (l : List ℕ). part file at n ++ l) (drop-drop n at file); up_to = rw (part_length file at n h); inside = h }

pub took_number : (width : ℕ) (file : List ℕ) (at : ℕ) → AllBytes file → at + width ≤ length file → Took file at (at + width) (bytes_of width (be width file at))
unfolding be bytes_of
took_number zero file at bytes h = rw add-zero (took_none file at (omega arith))
took_number (suc width) file at bytes h =
    let b = byte file (at + width) in
    let n = be width file at in
    let high : (n * 256 + b) / 256 ≡ n = digits_div n (bytes (at + width)) in
    let low : (n * 256 + b) % 256 ≡ b = digits_mod n (bytes (at + width)) in
    let end : at + width + 1 ≡ at + suc width = omega arith in
    rw (high, low, ← end) (took_both (took_number width file at bytes (omega arith)) (took_byte file (at + width) (omega arith)))

took_more : (file : List ℕ) (at offset : ℕ) (fields : List Field) → AllBytes file → at + (offset + fields_size fields) ≤ length file
    → Holds file at offset fields → Took file (at + offset) (at + (offset + fields_size fields)) (bytes_of_all fields)
unfolding bytes_of_all
took_more file at offset [] bytes h holds = rw add-zero (took_none file (at + offset) (omega arith))
took_more file at offset (u8 n ∷ fields) bytes h holds =
    let e : at + offset + 1 ≡ at + (offset + 1) = omega arith in
    let e' : offset + (1 + fields_size fields) ≡ offset + 1 + fields_size fields = omega arith in
    rw e' (took_both (rw (holds.0, e) at (took_byte file (at + offset) (omega arith))) (took_more file at (offset + 1) fields bytes (omega arith) holds.1))
took_more file at offset (u width n ∷ fields) bytes h holds =
    let e : at + offset + width ≡ at + (offset + width) = omega arith in
    let e' : offset + (width + fields_size fields) ≡ offset + width + fields_size fields = omega arith in
    rw e' (took_both (rw (holds.0, e) at (took_number width file (at + offset) bytes (omega arith))) (took_more file at (offset + width) fields bytes (omega arith) holds.1))
took_more file at offset (raw bs ∷ fields) bytes h holds =
    let width = length bs in
    let e : at + offset + width ≡ at + (offset + width) = omega arith in
    let e' : offset + (width + fields_size fields) ≡ offset + width + fields_size fields = omega arith in
    rw e' (took_both (rw (holds.0, e) at (took_part file (at + offset) width (omega arith))) (took_more file at (offset + width) fields bytes (omega arith) holds.1))

-- fields that hold their numbers at a place stand there as they are written, up to the next place
pub took_fields : (file : List ℕ) (at next : ℕ) (fields : List Field) → AllBytes file → next ≡ at + fields_size fields → next ≤ length file
    → Holds file at 0 fields → Took file at next (bytes_of_all fields)
took_fields file at next fields bytes e inside holds =
    subst₂ (λ (a n : ℕ). Took file a n (bytes_of_all fields)) (add-zero at) (omega arith) (took_more file at 0 fields bytes (omega arith) holds)
