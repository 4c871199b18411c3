-- Fields as bytes: those of two lists, and that fields written one after the other are written as one.
use Prim.Native.Nat.{ℕ, ◌+◌, ◌≤◌, ◌<◌, ◌%◌}
use mathlib.Core.Path.{◌≡◌, refl, sym, ap, ◌∙◌}
use mathlib.Core.List.{List, [], ◌∷◌, ◌++◌, append_assoc}
use native.Mathlib.Nat.{add-zero, zero-add, add_assoc}
use native.Mathlib.Omega.{arith}
use lib.ListN.{length, length-append}
use Rattle.base_format.specs.Bytes.{Field, u8, u, raw, field_bytes, bytes_of, bytes_of_all}
use Rattle.base_format.proofs.Bytes.{length_bytes_of}
use Rattle.base_format.proofs.Fields.{fields_size, fields_size_lem}
use Rattle.bytes_read.specs.Put.{put}
use Rattle.bytes_read.proofs.Laws.{length_put}
use Rattle.bytes_read.proofs.Sequence.{put_next, put_none}
use Rattle.bytes_put_fields.specs.Fields.{put_more, put_fields, Narrow}

-- fields behind others
pub fields_append : (a b : List Field) → bytes_of_all (a ++ b) ≡ bytes_of_all a ++ bytes_of_all b
unfolding bytes_of_all
fields_append [] b = refl
fields_append (field ∷ a) b = rw (fields_append a b) (sym (append_assoc (field_bytes field) (bytes_of_all a) (bytes_of_all b)))

one_byte : (n : ℕ) → n < 256 → bytes_of 1 n ≡ n ∷ []
unfolding bytes_of
one_byte n h = let e : n % 256 ≡ n = omega arith in rw e

-- one field and those behind it
field_next : (bytes : List ℕ) (size at offset : ℕ) (fields : List Field) (buffer : List ℕ)
    → length bytes ≡ size
    → at + (offset + (size + fields_size fields)) ≤ length buffer
    → ((l : List ℕ) → length l ≡ length buffer → put_more at (offset + size) fields l ≡ put (bytes_of_all fields) (at + (offset + size)) l)
    → put_more at (offset + size) fields (put bytes (at + offset) buffer) ≡ put (bytes ++ bytes_of_all fields) (at + offset) buffer
field_next bytes size at offset fields buffer e h more =
    let room : at + offset + length (bytes ++ bytes_of_all fields) ≤ length buffer = simp (length-append, fields_size_lem) (omega arith) in
    more (put bytes (at + offset) buffer) (length_put bytes (at + offset) buffer)
    ∙ rw (← (add_assoc at offset size)) (sym (put_next bytes (bytes_of_all fields) (at + offset) size buffer e room))

put_more_lem : (at offset : ℕ) (fields : List Field) (buffer : List ℕ) → at + (offset + fields_size fields) ≤ length buffer → Narrow fields
    → put_more at offset fields buffer ≡ put (bytes_of_all fields) (at + offset) buffer
unfolding bytes_of_all
put_more_lem at offset [] buffer h narrow = sym (put_none (at + offset) buffer (omega arith))
put_more_lem at offset (u8 n ∷ fields) buffer h narrow =
    field_next (bytes_of 1 n) 1 at offset fields buffer (length_bytes_of 1 n) (omega arith)
    (λ l e. put_more_lem at (offset + 1) fields l (omega arith) narrow.1)
    ∙ ap (λ (l : List ℕ). put (l ++ bytes_of_all fields) (at + offset) buffer) (one_byte n narrow.0)
put_more_lem at offset (u width n ∷ fields) buffer h narrow =
    field_next (bytes_of width n) width at offset fields buffer (length_bytes_of width n) (omega arith)
    (λ l e. put_more_lem at (offset + width) fields l (omega arith) narrow)
put_more_lem at offset (raw bytes ∷ fields) buffer h narrow =
    field_next bytes (length bytes) at offset fields buffer refl (omega arith)
    (λ l e. put_more_lem at (offset + length bytes) fields l (omega arith) narrow)

-- fields that fit, and whose bytes are bytes
pub put_fields_lem : (at : ℕ) (fields : List Field) (buffer : List ℕ) → at + fields_size fields ≤ length buffer → Narrow fields
    → put_fields at fields buffer ≡ put (bytes_of_all fields) at buffer
put_fields_lem at [] buffer h narrow = rw add-zero at (put_more_lem at 0 [] buffer (omega arith) narrow)
put_fields_lem at (field ∷ fields) buffer h narrow = rw (add-zero, zero-add) at (put_more_lem at 0 (field ∷ fields) buffer (omega arith) narrow)
