-- Joining two files gives bytes: exactly when, and what they are.
use Prim.Native.Nat.{ℕ, ◌+◌, ◌≤◌}
use mathlib.Core.List.{List, [], ◌∷◌, ◌++◌}
use mathlib.Core.Logic.{◌↔◌}
use mathlib.Core.Path.{◌≡◌, refl, sym, ap, ◌∙◌}
use native.Mathlib.Omega.{arith}
use lib.ListN.{length, drop}
use Rattle.base_format.specs.Bytes.{AllBytes}
use Rattle.base_format.specs.Checked.{Checked, ok, refused}
use Rattle.base_format.specs.Compare.{read_version}
use Rattle.base_format.specs.Limits.{Each}
use Rattle.base_format.specs.Size.{file_limit, pooled_header_size}
use Rattle.base_format.specs.Stream.{Stream, read}
use Rattle.base_format.specs.Written.{written}
use Rattle.base_format.proofs.Compared.{version_read, reads_version}
use Rattle.base_format.proofs.Lent.{stored_long}
use Rattle.base_round_trip.proofs.Rewritten.{accepted}
use Rattle.base_round_trip.proofs.Whole.{round_trip}
use Rattle.base_round_trip.proofs.Written.{written_bytes}
use Rattle.join_stream.specs.Join.{joined, first_count, both_into, NamedFile, in_first, in_second, in_neither, Joining, join_made, join_refused, naming, join_into, stored_by, join_after, stream_in}
use Rattle.join_stream.proofs.Joined.{Joinable, joined_within, joined_size}
use Rattle.join_stream.proofs.Row.{Tested, Kept, in_row, all_kept}
use Rattle.join_stream.proofs.VersionTwo.{VersionTwo}

-- the stream of an accepted file
pub stream_in_lem : (file : List ℕ) (s : Stream) → read file ≡ ok s → stream_in file ≡ s
unfolding stream_in
stream_in_lem file s reads = rw reads

-- what two accepted files are tested for, in this order
module _ (a b : Stream) (room : ℕ) where
  -- "29, a frame of more than 65,535 operations"
  abbrev pub frame_test : Tested
  frame_test = record { number = 29; most = 65535; value = first_count b }

  -- "30, more than 65,536 pools"
  abbrev pub pools_test : Tested
  pools_test = record { number = 30; most = 65536; value = length a.pools + length b.pools }

  -- "then 23 and 24"
  abbrev pub size_test : Tested
  size_test = record { number = 23; most = file_limit; value = length (written (joined a b)) }

  abbrev pub room_test : Tested
  room_test = record { number = 24; most = room; value = length (written (joined a b)) }

  abbrev pub tests_of_both : List Tested
  tests_of_both = frame_test ∷ pools_test ∷ size_test ∷ room_test ∷ []

  pub tested_in_order : both_into a b room ≡ in_row (written (joined a b)) tests_of_both
  unfolding both_into
  tested_in_order = refl

-- what a join that is made says
pub record Joins (file file' : List ℕ) (room : ℕ) (bytes : List ℕ) : Type 0 where
  pub a : Stream
  pub b : Stream
  pub reads : read file ≡ ok a
  pub reads' : read file' ≡ ok b
  pub two : a.version ≡ 2
  pub two' : b.version ≡ 2
  pub first_count : first_count b ≤ 65535
  pub pool_count : length a.pools + length b.pools ≤ 65536
  pub small : length bytes ≤ file_limit
  pub fits : length bytes ≤ room
  pub result : written (joined a b) ≡ bytes

made_is : {x y : List ℕ} → ◌≡◌ {A = Joining (List ℕ)} (join_made x) (join_made y) → x ≡ y
made_is e = cc

-- a check in front that names a file is passed
record Passed {A : Type 0} (check : Checked A) (next : A → Joining (List ℕ)) (bytes : List ℕ) : Type 0 where
  value : A
  is : check ≡ ok value
  then : next value ≡ join_made bytes

passed : {A : Type 0} (named : NamedFile) (check : Checked A) (next : A → Joining (List ℕ)) (bytes : List ℕ) → naming named check next ≡ join_made bytes → Passed check next bytes
passed named (ok a) next bytes e = record { value = a; is = refl; then = e }
passed named (refused number place) next bytes e = absurd (no_refusal e)
  where
    no_refusal : {named : NamedFile} {n p : ℕ} → join_refused named n p ≡ join_made bytes → ⊥
    no_refusal e = let z : ◌≡◌ {A = ℕ} 0 1 = cc in omega arith

-- bytes are made exactly where nothing is refused, and they are the written form of the two streams joined
pub joins_exactly : (file file' : List ℕ) (room : ℕ) (bytes : List ℕ) → (join_into file file' room ≡ join_made bytes) ↔ Joins file file' room bytes
unfolding join_into
joins_exactly file file' room bytes = (there, back)
  where
    there : join_into file file' room ≡ join_made bytes → Joins file file' room bytes
    there e =
        let p = passed in_first (read_version 2 file) _ bytes e in
        let q = passed in_second (read_version 2 file') _ bytes p.then in
        let r = passed in_neither (both_into p.value q.value room) _ bytes q.then in
        let x = version_read 2 file p.value p.is in
        let y = version_read 2 file' q.value q.is in
        let row = sym (tested_in_order p.value q.value room) ∙ r.is ∙ ap ok (made_is r.then) in
        let kept = (all_kept (written (joined p.value q.value)) (tests_of_both p.value q.value room) bytes).0 row in
        let long = ap length kept.1 in
        record {
          a = p.value;
          b = q.value;
          reads = x.0;
          reads' = y.0;
          two = x.1;
          two' = y.1;
          first_count = kept.0.0;
          pool_count = kept.0.1.0;
          small = omega (arith, kept.0.1.1.0);
          fits = omega (arith, kept.0.1.1.1.0);
          result = kept.1;
        }

    back : Joins file file' room bytes → join_into file file' room ≡ join_made bytes
    back j =
        let long = ap length j.result in
        let kept : Each Kept (tests_of_both j.a j.b room) = (j.first_count, (j.pool_count, (omega (arith, j.small), (omega (arith, j.fits), tt)))) in
        rw (
          reads_version 2 file j.a j.reads j.two,
          reads_version 2 file' j.b j.reads' j.two',
          tested_in_order j.a j.b room ∙ (all_kept (written (joined j.a j.b)) (tests_of_both j.a j.b room) bytes).1 (kept, j.result),
        )

-- an accepted file of version 2
record AcceptedTwo (file : List ℕ) (s : Stream) : Type 0 where
  two : VersionTwo s
  is : written s ≡ file

accepted_two : (file : List ℕ) (s : Stream) → AllBytes file → read file ≡ ok s → s.version ≡ 2 → AcceptedTwo file s
accepted_two file s bytes reads two =
    let found = accepted file s bytes reads in
    record { two = record { version_two = two; within = found.0 }; is = found.1 }

pub joinable : {file file' : List ℕ} {room : ℕ} {bytes : List ℕ} → AllBytes file → AllBytes file' → (j : Joins file file' room bytes) → Joinable j.a j.b
joinable {file} {file'} {room} {bytes} all all' j =
    record {
      of_first = (accepted_two file j.a all j.reads j.two).two;
      of_second = (accepted_two file' j.b all' j.reads' j.two').two;
      first_count = j.first_count;
      pool_count = j.pool_count;
      small = rw j.result j.small;
    }

-- what is made is read back as the two streams joined
pub join_reads : {file file' : List ℕ} {room : ℕ} {bytes : List ℕ} → AllBytes file → AllBytes file' → (j : Joins file file' room bytes)
    → read bytes ≡ ok (joined j.a j.b)
join_reads all all' j = rw j.result at (round_trip (joined j.a j.b) (joined_within j.a j.b (joinable all all' j)))

pub join_bytes : {file file' : List ℕ} {room : ℕ} {bytes : List ℕ} → AllBytes file → AllBytes file' → (j : Joins file file' room bytes) → AllBytes bytes
join_bytes all all' j = rw j.result at (written_bytes (joined j.a j.b) (joined_within j.a j.b (joinable all all' j)))

-- the size of two accepted files joined, whether it is small enough or not
pub both_size : (file file' : List ℕ) (a b : Stream) → AllBytes file → AllBytes file' → read_version 2 file ≡ ok a → read_version 2 file' ≡ ok b
    → length (written (joined a b)) + pooled_header_size ≡ length file + length file'
both_size file file' a b all all' reads reads' =
    let x = version_read 2 file a reads in
    let y = version_read 2 file' b reads' in
    let first_two = accepted_two file a all x.0 x.1 in
    let second-two = accepted_two file' b all' y.0 y.1 in
    joined_size a b first_two.two second-two.two ∙ (λ i. length (first_two.is i) + length (second-two.is i))

-- "The joined size is both sizes less 40."
pub join_size : {file file' : List ℕ} {room : ℕ} {bytes : List ℕ} → AllBytes file → AllBytes file' → Joins file file' room bytes
    → length bytes + pooled_header_size ≡ length file + length file'
join_size {file} {file'} all all' j =
    ap (λ (l : List ℕ). length l + pooled_header_size) (sym j.result)
    ∙ both_size file file' j.a j.b all all' (reads_version 2 file j.a j.reads j.two) (reads_version 2 file' j.b j.reads' j.two')

-- the buffer begins with what is made, is behind it as it was, and keeps its length
pub join_stored : (file file' buffer bytes : List ℕ) → Joins file file' (length buffer) bytes
    → (join_after file file' buffer ≡ bytes ++ drop (length bytes) buffer) × (length (join_after file file' buffer) ≡ length buffer)
join_stored file file' buffer bytes j =
    let is = ap (λ (answer : Joining (List ℕ)). stored_by answer buffer) ((joins_exactly file file' (length buffer) bytes).1 j) in
    (is, ap length is ∙ stored_long bytes buffer j.fits)
