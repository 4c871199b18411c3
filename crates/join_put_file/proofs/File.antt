-- The parts of a joined file by the bytes and the headers of the two files are what the definitions write.
use Prim.Native.Nat.{ℕ, ◌+◌, ◌*◌, ◌-◌, ◌≤◌, ◌<◌}
use mathlib.Core.Path.{◌≡◌, refl, sym, ap, ◌∙◌, subst}
use mathlib.Core.List.{List, ◌++◌, map, append_assoc}
use native.Mathlib.Nat.{add-zero, zero-add}
use native.Mathlib.Omega.{arith}
use lib.Dec.{lit≤}
use lib.ListN.{length, length-append, length-map}
use Rattle.base_format.specs.declared.card.CardRequirement.{CardRequirement}
use Rattle.base_format.specs.declared.header.Header.{Header}
use Rattle.base_format.specs.Bytes.{AllBytes, bytes_of_all}
use Rattle.base_format.specs.Header.{header_size}
use Rattle.base_format.specs.Checked.{ok}
use Rattle.base_format.specs.Pool.{pool_at, pools_from}
use Rattle.base_format.specs.Size.{file_limit}
use Rattle.base_format.specs.Stream.{Stream}
use Rattle.base_format.specs.Written.{operations_bytes, frames_bytes, directory_bytes, payloads_bytes, payloads_place, opening_place, frames_place, end_place, header_in, header_fields, written}
use Rattle.base_format.proofs.Accepted.{Accepted}
use Rattle.base_format.proofs.Written.{frames_count}
use Rattle.base_field_laws.proofs.Places.{Took, took_both}
use Rattle.base_round_trip.proofs.FileParts.{FileParts}
use Rattle.base_round_trip.proofs.Rewritten.{accepted}
use Rattle.base_round_trip.proofs.Whole.{header_size_lem}
use Rattle.base_master.proofs.Sections.{payloads_append}
use Rattle.check_version.proofs.Answers.{Has, has}
use Rattle.join_stream.specs.Join.{renumbered, put_before, joined, stream_in}
use Rattle.join_stream.proofs.Joined.{put_count, put_size, operations_renumbered, frames_renumbered_lem, second_frames, both_directories, joined_bytes}
use Rattle.join_stream.proofs.Appended.{frames_append}
use Rattle.join_put_directory.specs.Entries.{entries_moved}
use Rattle.join_put_directory.proofs.Entries.{entries_long, directory_is, offset_inside}
use Rattle.join_put_second.specs.Second.{second_bytes}
use Rattle.join_put_second.proofs.Second.{took_is, acc, parts, two, stream_is, small}
use Rattle.join_put_file.specs.File.{joined_header, payloads_at, tables_of, runs_of, HeaderOrder, HeadersFit, BothFit}

-- one file

module _ (file : List ℕ) (header : Header) (bytes : AllBytes file) (h : Has 2 file header) where
  abbrev a : Accepted file header h.stream
  a = acc file header bytes h

  abbrev p : FileParts file header h.stream
  p = parts file header bytes h

  no_cards : header.card_count ≡ 0
  no_cards = sym p.cards_said ∙ ap (λ (l : List CardRequirement). length l) ((accepted file h.stream bytes h.reads).0.cards_below (omega (arith, h.is)))

  directory_at : header.directory_offset ≡ 40
  unfolding header_size
  directory_at = a.directory_here ∙ (λ i. header_size (two file header bytes h i) + no_cards i * 32)

  payloads_taken : Took file (payloads_at header) header.initial_start (payloads_bytes h.stream.pools)
  payloads_taken = subst (λ (n : ℕ). Took file (n + header.pool_count * 16) header.initial_start (payloads_bytes h.stream.pools)) directory_at p.payloads

  body_taken : Took file header.initial_start (length file) (operations_bytes 2 h.stream.opening ++ frames_bytes 2 h.stream.frames)
  body_taken =
      subst (λ (v : ℕ). Took file header.initial_start (length file) (operations_bytes v h.stream.opening ++ frames_bytes v h.stream.frames)) (two file header bytes h)
      (took_both p.opening p.frames)

  pub numbers : HeaderOrder header
  numbers =
      record {
        payloads = omega (arith, payloads_taken.up_to);
        opening = a.opening_first;
        frames = omega (arith, a.first_within, a.size);
        frame_count = omega (arith, p.frames_said, frames_count header.version h.stream.frames, p.frames.up_to, a.size);
        total = a.small;
      }

  -- its pools, as they are read
  pools_found : pools_from 2 file 40 header.pool_count 0 (payloads_at header) ≡ ok (h.stream.pools, header.initial_start)
  pools_found =
      (λ i. pools_from (sym (two file header bytes h) i) file (sym directory_at i) header.pool_count 0 (sym directory_at i + header.pool_count * 16)) ∙ a.pools

  entries_are : (id moved : ℕ) → directory_bytes id (payloads_at header + moved) h.stream.pools ≡ entries_moved file id moved 0 header.pool_count
  entries_are id moved = rw add-zero at (directory_is file id moved header.pool_count 0 (payloads_at header) (h.stream.pools, header.initial_start) pools_found)

  pub offsets : (entry : ℕ) → entry < header.pool_count → (pool_at file 40 entry).offset ≤ length file
  offsets entry less = rw zero-add at (offset_inside file 0 0 header.pool_count 0 (payloads_at header) (h.stream.pools, header.initial_start) pools_found entry less)

-- both files

module _ (file file' : List ℕ) (header header' : Header) (bytes : AllBytes file) (bytes' : AllBytes file') (h : Has 2 file header) (h' : Has 2 file' header') where
  abbrev s : Stream
  s = h.stream

  abbrev s' : Stream
  s' = h'.stream

  payloads : length (payloads_bytes (s.pools ++ s'.pools)) ≡ length (payloads_bytes s.pools) + length (payloads_bytes s'.pools)
  payloads = rw (payloads_append, length-append)

  -- the second's frames have its opening's bytes and its frames'
  second_long : length (frames_bytes 2 (second_frames s s')) ≡ length (operations_bytes 2 s'.opening) + length (frames_bytes 2 s'.frames)
  second_long =
      let n = length s.pools in
      let some : 1 ≤ length (map (map (renumbered n)) s'.frames) = rw length-map (omega (arith, (p file' header' bytes' h').frames_said, (a file' header' bytes' h').some_frame)) in
      put_size (map (renumbered n) s'.opening) (map (map (renumbered n)) s'.frames) some ∙ (λ i. operations_renumbered n s'.opening i + frames_renumbered_lem n s'.frames i)

  -- the header
  header_is : joined_header header header' ≡ header_in (joined s s')
  unfolding joined_header joined header_size
  header_is =
      let n = length s.pools in
      let q = p file header bytes h in
      let q' = p file' header' bytes' h' in
      let t = (payloads_taken file header bytes h).up_to in
      let t' = (payloads_taken file' header' bytes' h').up_to in
      let opening = ap (λ (v : ℕ). length (operations_bytes v s.opening)) (two file header bytes h) in
      let long = length-append (operations_bytes 2 s.opening) (frames_bytes 2 s.frames) in
      let long' = length-append (operations_bytes 2 s'.opening) (frames_bytes 2 s'.frames) in
      let body = (body_taken file header bytes h).up_to in
      let body' = (body_taken file' header' bytes' h').up_to in
      let size = (a file header bytes h).size in
      let size' = (a file' header' bytes' h').size in
      let pools : header.pool_count + header'.pool_count ≡ length (s.pools ++ s'.pools) = sym (length-append s.pools s'.pools ∙ (λ i. q.pools_said i + q'.pools_said i)) in
      let count' = put_count (map (renumbered n) s'.opening) (map (map (renumbered n)) s'.frames) ∙ length-map s'.frames (map (renumbered n)) ∙ q'.frames_said in
      let count : header.frame_count + header'.frame_count ≡ length (s.frames ++ second_frames s s') =
      sym (length-append s.frames (second_frames s s') ∙ (λ i. q.frames_said i + count' i)) in
      let opens : header.initial_start + (header'.initial_start - 40) ≡ opening_place (joined s s') = omega (arith, payloads, pools) in
      let plays : header.frame_start + (header'.initial_start - 40) ≡ frames_place (joined s s') = omega (arith, payloads, pools, q.opening.up_to, opening) in
      let frames : length (frames_bytes 2 (s.frames ++ second_frames s s')) ≡ length (frames_bytes 2 s.frames) + length (frames_bytes 2 (second_frames s s')) = rw (frames_append, length-append) in
      let total : header.total_size + (header'.total_size - 40) ≡ end_place (joined s s') = omega (arith, payloads, pools, second_long, frames) in
      λ i. record {
        version = 2;
        repeat = sym (a file' header' bytes' h').repeat i;
        frame_period = 0;
        card_count = 0;
        frame_count = count i;
        pool_count = pools i;
        initial_count = sym q.opening_said i;
        directory_offset = 40;
        initial_start = opens i;
        frame_start = plays i;
        total_size = total i;
      }

  -- the header and both directories
  tables_are : tables_of file header file' header' ≡ bytes_of_all (header_fields (header_in (joined s s'))) ++ both_directories s s' (payloads_place (joined s s'))
  unfolding tables_of joined header_size
  tables_are =
      let q = p file header bytes h in
      let q' = p file' header' bytes' h' in
      let t = (payloads_taken file header bytes h).up_to in
      let both = length-append s.pools s'.pools in
      let start : payloads_at header + header'.pool_count * 16 ≡ payloads_place (joined s s') = omega (arith, both, q.pools_said, q'.pools_said) in
      let start' : payloads_at header' + (header.initial_start - 40) ≡ payloads_place (joined s s') + length (payloads_bytes s.pools) = omega (arith, both, q.pools_said, q'.pools_said, t) in
      let first = sym (entries_are file header bytes h 0 (header'.pool_count * 16)) ∙ ap (λ (n : ℕ). directory_bytes 0 n s.pools) start in
      let second = sym (entries_are file' header' bytes' h' header.pool_count (header.initial_start - 40)) ∙ (λ i. directory_bytes (sym q.pools_said i) (start' i) s'.pools) in
      λ i. bytes_of_all (header_fields (header_is i)) ++ (first i ++ second i)

  -- the payloads, and the first's opening and frames
  runs_are : runs_of file header file' header' ≡ payloads_bytes s.pools ++ (payloads_bytes s'.pools ++ (operations_bytes 2 s.opening ++ frames_bytes 2 s.frames))
  unfolding runs_of
  runs_are =
      λ i. took_is (payloads_taken file header bytes h) i ++ (took_is (payloads_taken file' header' bytes' h') i ++ took_is (body_taken file header bytes h) i)

  -- so the whole is these and the second's frames
  pub parts_are : written (joined (stream_in file) (stream_in file'))
      ≡ tables_of file header file' header' ++ (runs_of file header file' header' ++ second_bytes file' header.pool_count)
  unfolding second_bytes
  parts_are =
      let q = p file header bytes h in
      let one = stream_is file header bytes h in
      let other = stream_is file' header' bytes' h' in
      let tables = bytes_of_all (header_fields (header_in (joined s s'))) in
      let directories = both_directories s s' (payloads_place (joined s s')) in
      let x = payloads_bytes s.pools in
      let y = payloads_bytes s'.pools in
      let o = operations_bytes 2 s.opening in
      let f = frames_bytes 2 s.frames in
      let r = frames_bytes 2 (second_frames s s') in
      let second : r ≡ frames_bytes 2 (put_before (map (renumbered header.pool_count) (stream_in file').opening) (map (map (renumbered header.pool_count)) (stream_in file').frames)) =
      λ i. frames_bytes 2 (put_before (map (renumbered (q.pools_said i)) (sym other i).opening) (map (map (renumbered (q.pools_said i))) (sym other i).frames)) in
      let apart : tables ++ (directories ++ ((x ++ y) ++ (o ++ (f ++ r)))) ≡ (tables ++ directories) ++ ((x ++ (y ++ (o ++ f))) ++ r) = simp append_assoc in
      (λ i. written (joined (one i) (other i)))
      ∙ joined_bytes s s'
      ∙ apart
      ∙ (λ i. sym tables_are i ++ (sym runs_are i ++ second i))

  -- the new header has 40 bytes
  pub header_long : length (bytes_of_all (header_fields (joined_header header header'))) ≡ 40
  unfolding header_size joined
  header_long = ap (λ (x : Header). length (bytes_of_all (header_fields x))) header_is ∙ header_size_lem (joined s s') (lit≤ tt) (lit≤ tt)

  -- how long they are
  pub tables_long : length (tables_of file header file' header') ≡ 40 + (header.pool_count + header'.pool_count) * 16
  unfolding tables_of
  tables_long =
      let n = header.pool_count in
      let n' = header'.pool_count in
      let first = entries_long file 0 (n' * 16) 0 n in
      let second = entries_long file' n (header.initial_start - 40) 0 n' in
      simp length-append (omega (arith, header_long, first, second))

  pub runs_long : length (runs_of file header file' header') + 40 + (header.pool_count + header'.pool_count) * 16 ≡ length file + (header'.initial_start - 40)
  runs_long =
      let x = payloads_bytes s.pools in
      let y = payloads_bytes s'.pools in
      let rest = operations_bytes 2 s.opening ++ frames_bytes 2 s.frames in
      let long : length (runs_of file header file' header') ≡ length x + (length y + length rest) =
      ap length runs_are ∙ length-append x (y ++ rest) ∙ ap (λ (k : ℕ). length x + k) (length-append y rest) in
      omega (arith, long, (payloads_taken file header bytes h).up_to, (payloads_taken file' header' bytes' h').up_to, (body_taken file header bytes h).up_to)

-- what writing the new header asks
pub header_says : (header header' : Header) → HeadersFit header header'
    → (header_size (joined_header header header').version ≡ 40) × ((joined_header header header').version ≡ 2) × ((joined_header header header').frame_start < 4294967296)
unfolding joined_header header_size
header_says header header' f = (refl, refl, omega (arith, f.first_order.frames, f.first_order.total, f.second_order.opening, f.second_order.frames, f.second_order.total))

-- what is known of two files that can be joined: their places are in order, and within them
pub record Known (file : List ℕ) (header : Header) (file' : List ℕ) (header' : Header) : Type 0 where
  pub has_first : Has 2 file header
  pub has_second : Has 2 file' header'
  pub headers : HeadersFit header header'
  pub payloads_first : payloads_at header ≤ header.initial_start
  pub opening_first : header.initial_start ≤ length file
  pub small_first : length file ≤ file_limit
  pub payloads_second : payloads_at header' ≤ header'.initial_start
  pub opening_second : header'.initial_start ≤ length file'
  pub small_second : length file' ≤ file_limit

pub known : {file : List ℕ} {header : Header} {file' : List ℕ} {header' : Header} {room : ℕ} → BothFit file header file' header' room
    → AllBytes file → AllBytes file' → Known file header file' header'
known {file} {header} {file'} {header'} f bytes bytes' =
    let h = has 2 file header f.here in
    let h' = has 2 file' header' f.here' in
    let o = numbers file header bytes h in
    let o' = numbers file' header' bytes' h' in
    let size = (acc file header bytes h).size in
    let size' = (acc file' header' bytes' h').size in
    record {
      has_first = h;
      has_second = h';
      headers = record { first_order = o; second_order = o'; pool_count = f.pool_count };
      payloads_first = o.payloads;
      opening_first = omega (arith, size, o.opening, o.frames);
      small_first = omega (arith, size, o.total);
      payloads_second = o'.payloads;
      opening_second = omega (arith, size', o'.opening, o'.frames);
      small_second = omega (arith, size', o'.total);
    }

-- the buffer holds the tables, with the second's payloads moved behind the first's
pub tables_room : {file : List ℕ} {header : Header} {file' : List ℕ} {header' : Header} {room : ℕ}
    → BothFit file header file' header' room → Known file header file' header' → 40 + (header.pool_count + header'.pool_count) * 16 ≤ room
tables_room f k = omega (arith, f.fits, k.payloads_first, k.opening_first, k.payloads_second, k.opening_second)
