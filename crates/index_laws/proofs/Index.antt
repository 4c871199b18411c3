-- The index of an accepted file: how long it is, what stands in it, and that the walk over the file's frames builds it.
use Prim.Native.Nat.{ℕ, zero, suc, ◌+◌, ◌*◌, ◌^◌, ◌≤◌, ◌<◌}
use mathlib.Core.Bool.{Bool, true, false, cond, ◌||◌}
use mathlib.Core.List.{List, [], ◌∷◌, ◌++◌, append-nil}
use mathlib.Core.Logic.{◌↔◌}
use mathlib.Core.Path.{◌≡◌, refl, sym, ap, ◌∙◌}
use native.Mathlib.Nat.{zero-add, div-lt_iff_lt-mul}
use native.Mathlib.Omega.{arith}
use borrow.Author.Tests.{le-ltb}
use lib.Dec.{eqb, lit≤, lit<}
use lib.ListN.{length, drop}
use lib.Seq.{drop-append-add, drop-length}
use Rattle.base_format.specs.Bytes.{AllBytes, Field, be, bytes_of, bytes_of_all, u32}
use Rattle.base_format.specs.Checked.{ok}
use Rattle.base_format.specs.Header.{header_of, header_size}
use Rattle.base_format.specs.Index.{frame_place, places_from, entries_for, entry_count, trailer, index_fields, index_of}
use Rattle.base_format.specs.Promises.{IndexSmall}
use Rattle.base_format.specs.Stream.{Stream, read}
use Rattle.base_format.specs.Written.{end_place}
use Rattle.base_format.proofs.Accepted.{Accepted, accepted}
use Rattle.base_format.proofs.Bytes.{length_bytes_of, be_here}
use Rattle.base_format.proofs.Fields.{fields_size, fields_size_lem}
use Rattle.base_format.proofs.Written.{frames_count}
use Rattle.base_field_laws.proofs.Places.{Holds, Fit, holds, took_fields}
use Rattle.index_laws.specs.Built.{entries_walk, built_fields, built_trailer}
use Rattle.index_laws.proofs.Frames.{frames_next}
use Rattle.index_laws.proofs.Places.{frame_count, place_first, last_place, place_within}

-- HOW LONG IT IS

places_long : (s : Stream) (count frame : ℕ) (rest : List Field) → fields_size (places_from s count frame ++ rest) ≡ count * 4 + fields_size rest
unfolding places_from
places_long s zero frame rest = omega arith
places_long s (suc count) frame rest = omega (arith, places_long s count (frame + 64) rest)

-- 4 bytes for each entry, and 12
pub index_long : (s : Stream) → length (index_of s) ≡ entry_count s * 4 + 12
unfolding index_of
index_long s = fields_size_lem (index_fields s) ∙ places_long s (entry_count s) 0 (trailer s)

-- a header has 20 bytes at least
pub header_room : (version : ℕ) → 20 ≤ header_size version
unfolding header_size
header_room version = go (eqb version 4) (eqb version 2 || eqb version 3)
  where
    go : (four pooled : Bool) → 20 ≤ cond four 48 (cond pooled 40 20)
    go true pooled = lit≤ tt
    go false true = lit≤ tt
    go false false = lit≤ tt

-- each frame takes 2 bytes for its count at least
entries_few : (file : List ℕ) (s : Stream) → Accepted file (header_of file) s → entry_count s < 114689
entries_few file s acc =
    let size : end_place s ≤ 0xE00000 = omega (arith, last_place file s acc, acc.size, acc.small) in
    (div-lt_iff_lt-mul (lit< tt)).1 (omega (arith, header_room s.version, frames_count s.version s.frames))

pub index_small : IndexSmall
index_small file s e =
    let few = entries_few file s (accepted file s e).0 in
    let small : length (index_of s) ≤ 458764 = omega (arith, index_long s) in
    (small, le-ltb 0xE00000 (length (index_of s)) (omega arith))

-- WHAT STANDS IN IT

place_fits : (file : List ℕ) (s : Stream) → Accepted file (header_of file) s → (frame : ℕ) → frame_place s frame < 256 ^ 4
place_fits file s acc frame =
    let small : frame_place s frame < 4294967296 = omega (arith, place_within file s acc frame, acc.size, acc.small) in
    small

places_fit : (file : List ℕ) (s : Stream) → Accepted file (header_of file) s → (count frame : ℕ) (rest : List Field) → Fit rest → Fit (places_from s count frame ++ rest)
unfolding places_from
places_fit file s acc zero frame rest fit = fit
places_fit file s acc (suc count) frame rest fit = (place_fits file s acc frame, places_fit file s acc count (frame + 64) rest fit)

-- every number of the index fits its 4 bytes
fields_fit : (file : List ℕ) (s : Stream) → Accepted file (header_of file) s → Fit (index_fields s)
fields_fit file s acc =
    let few = entries_few file s acc in
    let back : entry_count s * 4 < 4294967296 = omega arith in
    let count : entry_count s < 4294967296 = omega arith in
    let size : end_place s < 4294967296 = omega (arith, last_place file s acc, acc.size, acc.small) in
    places_fit file s acc (entry_count s) 0 (trailer s) (back, (count, (size, tt)))

-- from entry i on the index has that entry's 4 bytes
entry_here : (s : Stream) (count frame i : ℕ) (rest : List Field) → i < count
    → (behind : List ℕ) × (drop (i * 4) (bytes_of_all (places_from s count frame ++ rest)) ≡ bytes_of 4 (frame_place s (frame + i * 64)) ++ behind)
unfolding places_from bytes_of_all
entry_here s zero frame i rest less = absurd (omega arith)
entry_here s (suc count) frame zero rest less =
    let here : frame + 0 * 64 ≡ frame = omega arith in
    (bytes_of_all (places_from s count (frame + 64) ++ rest), ap (λ (n : ℕ). bytes_of 4 (frame_place s n) ++ bytes_of_all (places_from s count (frame + 64) ++ rest)) (sym here))
entry_here s (suc count) frame (suc i) rest less =
    let found = entry_here s count (frame + 64) i rest (omega arith) in
    let place : frame + 64 + i * 64 ≡ frame + suc i * 64 = omega arith in
    let first = bytes_of 4 (frame_place s frame) in
    let more = bytes_of_all (places_from s count (frame + 64) ++ rest) in
    let four : length first + i * 4 ≡ suc i * 4 = omega (arith, length_bytes_of 4 (frame_place s frame)) in
    (found.0, ap (λ (n : ℕ). drop n (first ++ more)) (sym four) ∙ drop-append-add first more (i * 4) ∙ found.1 ∙ ap (λ (n : ℕ). bytes_of 4 (frame_place s n) ++ found.0) place)

-- each entry read is the place of its frame's count
pub index_entry : (file : List ℕ) (s : Stream) → read file ≡ ok s → (i : ℕ) → i < entry_count s → be 4 (index_of s) (i * 4) ≡ frame_place s (i * 64)
unfolding index_of
index_entry file s e i less =
    let found = entry_here s (entry_count s) 0 i (trailer s) less in
    let here = found.1 ∙ ap (λ (n : ℕ). bytes_of 4 (frame_place s n) ++ found.0) (zero-add (i * 64)) in
    be_here (index_of s) (i * 4) found.0 4 (frame_place s (i * 64)) here (place_fits file s (accepted file s e).0 (i * 64))

-- bytes are the index exactly if they are as many and each number reads as it should: so a jump can test an index where it lies
pub index_right : (file : List ℕ) (s : Stream) → read file ≡ ok s → (index : List ℕ) → AllBytes index
    → (index ≡ index_of s) ↔ ((length index ≡ entry_count s * 4 + 12) × Holds index 0 0 (index_fields s))
unfolding index_of
index_right file s e index bytes = (there, back)
  where
    size : fields_size (index_fields s) ≡ entry_count s * 4 + 12
    size = places_long s (entry_count s) 0 (trailer s)

    there : index ≡ bytes_of_all (index_fields s) → (length index ≡ entry_count s * 4 + 12) × Holds index 0 0 (index_fields s)
    there same =
        let none : drop (0 + 0) index ≡ bytes_of_all (index_fields s) ++ [] = same ∙ sym (append-nil (bytes_of_all (index_fields s))) in
        (ap length same ∙ fields_size_lem (index_fields s) ∙ size, holds index 0 0 (index_fields s) [] none (fields_fit file s (accepted file s e).0))

    back : (length index ≡ entry_count s * 4 + 12) × Holds index 0 0 (index_fields s) → index ≡ bytes_of_all (index_fields s)
    back both =
        let took = took_fields index 0 (length index) (index_fields s) bytes (omega (arith, size, both.0)) (omega arith) both.1 in
        took.here ∙ ap (λ (l : List ℕ). bytes_of_all (index_fields s) ++ l) (drop-length index) ∙ append-nil (bytes_of_all (index_fields s))

-- THE WALK BUILDS IT

-- so many entries from a frame on, the last of a frame that is there
entries_are : (file : List ℕ) (s : Stream) → Accepted file (header_of file) s → (count frame : ℕ) → frame + count * 64 < length s.frames + 64
    → entries_walk (header_of file).version file count (frame_place s frame) ≡ places_from s count frame
unfolding entries_walk places_from
entries_are file s acc zero frame most = refl
entries_are file s acc (suc zero) frame most = refl
entries_are file s acc (suc (suc count)) frame most =
    let v = (header_of file).version in
    let next = frames_next file s acc 64 frame (omega arith) in
    ap (λ (l : List Field). u32 (frame_place s frame) ∷ l) (ap (entries_walk v file (suc count)) next ∙ entries_are file s acc (suc count) (frame + 64) (omega arith))

pub built_is : (file : List ℕ) (s : Stream) → read file ≡ ok s → built_fields (header_of file) file ≡ index_fields s
built_is file s e =
    let acc = (accepted file s e).0 in
    let h = header_of file in
    let total : h.total_size ≡ end_place s = sym acc.size ∙ sym (last_place file s acc) in
    let most : 0 + entry_count s * 64 < length s.frames + 64 = omega arith in
    let walked = ap (entries_walk h.version file (entry_count s)) (sym (place_first file s acc)) ∙ entries_are file s acc (entry_count s) 0 most in
    ap (λ (n : ℕ). entries_walk h.version file (entries_for n) h.frame_start ++ built_trailer (entries_for n) h.total_size) (sym (frame_count file s acc))
    ∙ (λ i. walked i ++ built_trailer (entry_count s) (total i))
