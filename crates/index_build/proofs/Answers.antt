-- What building answers: a refusal, or the index in the lent buffer.
use Prim.Native.Nat.{ℕ, ◌+◌, ◌*◌, ◌≤◌, ◌<◌}
use mathlib.Core.List.{List, ◌++◌}
use mathlib.Core.Path.{◌≡◌, sym, ap, subst, ◌∙◌}
use native.Mathlib.Nat.{zero-add}
use native.Mathlib.Omega.{arith}
use borrow.Author.Tests.{le-ltb, lt-ltb}
use lib.ListN.{length, drop}
use Rattle.base_format.specs.declared.header.Header.{Header}
use Rattle.base_format.specs.Bytes.{bytes_of_all}
use Rattle.base_format.specs.Checked.{Checked, ok, refused, mapped}
use Rattle.base_format.specs.Header.{header_of}
use Rattle.base_format.specs.Index.{entries_for, index_of, index_into}
use Rattle.base_format.specs.Lent.{lent_after}
use Rattle.base_format.specs.Stream.{Stream, read}
use Rattle.bytes_read.specs.Put.{put}
use Rattle.bytes_read.proofs.Laws.{put_fits}
use Rattle.bytes_read.proofs.Sequence.{put_next}
use Rattle.bytes_put_fields.proofs.Laid.{fields_append}
use Rattle.index_laws.specs.Built.{entries_walk, built_trailer, built_fields}
use Rattle.index_laws.proofs.Built.{built_long, entries_long}
use Rattle.index_laws.proofs.Index.{built_is}
use Rattle.index_build.specs.Answer.{Into, built_into}

-- a refusal writes nothing
pub refuses : {result : Checked (List ℕ)} (buffer : List ℕ) (number place : ℕ) → result ≡ refused number place → Into result (refused number place) buffer buffer
refuses buffer number place e = (ap (mapped length) (sym e), ap (λ (x : Checked (List ℕ)). lent_after (λ (index : List ℕ). index) x buffer) (sym e))

-- what is answered says the same of an equal result
pub same_into : {result result' : Checked (List ℕ)} (answer : Checked ℕ) (buffer buffer' : List ℕ) → result ≡ result' → Into result answer buffer buffer' → Into result' answer buffer buffer'
same_into answer buffer buffer' e into = subst (λ (x : Checked (List ℕ)). Into x answer buffer buffer') e into

-- ---- by a header, with so many entries

module _ (header : Header) (file buffer : List ℕ) (entries : ℕ) (is : entries ≡ entries_for header.frame_count) where
  abbrev index : List ℕ
  index = bytes_of_all (built_fields header file)

  long : length index ≡ entries * 4 + 12
  long = built_long header file ∙ ap (λ (n : ℕ). n * 4 + 12) (sym is)

  -- a buffer that is too short
  pub short_room : length buffer < entries * 4 + 12 → built_into header file (length buffer) ≡ refused 24 0
  unfolding built_into
  short_room less = rw (lt-ltb (length buffer) (length index) (omega (arith, long)))

  the_index : entries * 4 + 12 ≤ length buffer → built_into header file (length buffer) ≡ ok index
  unfolding built_into
  the_index room = rw (le-ltb (length buffer) (length index) (omega (arith, long)))

  -- the entries, then the trailer, in a buffer that is long enough
  pub both_written : {between after : List ℕ} → entries * 4 + 12 ≤ length buffer
      → between ≡ put (bytes_of_all (entries_walk header.version file entries header.frame_start)) 0 buffer
      → after ≡ put (bytes_of_all (built_trailer entries header.total_size)) (entries * 4) between
      → Into (built_into header file (length buffer)) (ok (entries * 4 + 12)) buffer after
  both_written {between} {after} room first second =
      let walk = entries_walk header.version file entries header.frame_start in
      let end = built_trailer entries header.total_size in
      let parts : index ≡ bytes_of_all walk ++ bytes_of_all end =
      ap (λ (n : ℕ). bytes_of_all (entries_walk header.version file n header.frame_start ++ built_trailer n header.total_size)) (sym is) ∙ fields_append walk end in
      let size = entries_long header.version file entries header.frame_start in
      let whole = put_next (bytes_of_all walk) (bytes_of_all end) 0 (entries * 4) buffer size (omega (arith, long, ap length parts)) in
      let stands : put index 0 buffer ≡ index ++ drop (length index) buffer = put_fits index 0 buffer (omega (arith, long)) ∙ rw zero-add in
      let written = second ∙ (λ i. put (bytes_of_all end) (sym (zero-add (entries * 4)) i) (first i)) ∙ sym whole ∙ ap (λ (l : List ℕ). put l 0 buffer) (sym parts) ∙ stands in
      same_into (ok (entries * 4 + 12)) buffer after (sym (the_index room)) (ap ok (sym long), written)

-- ---- by the file

-- a refused file
pub not_read : (file : List ℕ) (room number place : ℕ) → read file ≡ refused number place → index_into file room ≡ refused number place
unfolding index_into
not_read file room number place e = rw e

-- an accepted one
pub built_into_lem : (file : List ℕ) (s : Stream) → read file ≡ ok s → (room : ℕ) → built_into (header_of file) file room ≡ index_into file room
unfolding index_into built_into index_of
built_into_lem file s e room = rw (e, built_is file s e)
