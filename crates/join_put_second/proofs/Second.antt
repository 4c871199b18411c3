-- The runs of an accepted second file, copied and renumbered, are what the definitions write.
use Prim.Native.Nat.{ℕ, zero, suc, ◌+◌, ◌-◌, ◌≤◌}
use mathlib.Core.Path.{◌≡◌, refl, sym, ap, ◌∙◌, subst}
use mathlib.Core.List.{List, [], ◌∷◌, ◌++◌, map, append-nil}
use native.Mathlib.Omega.{arith}
use lib.ListN.{length, get_or, take, drop, length-append, length-map, length-drop}
use lib.Seq.{take_at, drop_at, drop-drop, drop-length, take_all}
use Rattle.base_format.specs.declared.header.Header.{Header}
use Rattle.base_format.specs.declared.operation.Operation.{Operation}
use Rattle.base_format.specs.Bytes.{AllBytes, be, part, bytes_of_all, u16}
use Rattle.base_format.specs.Checked.{ok}
use Rattle.base_format.specs.Stream.{Stream, operations_from, frames_from, opening_limit}
use Rattle.base_format.specs.Written.{operations_bytes, frames_bytes}
use Rattle.base_format.proofs.Accepted.{Accepted, accepted, setting_for, opening_limit_lem}
use Rattle.base_format.proofs.Fields.{fields_size_lem}
use Rattle.base_format.proofs.Steps.{frame_step}
use Rattle.base_field_laws.proofs.Places.{Took}
use Rattle.base_round_trip.proofs.FileParts.{FileParts, file_parts}
use Rattle.bytes_read.specs.Put.{put}
use Rattle.check_version.proofs.Answers.{Has, has}
use Rattle.join_stream.specs.Join.{renumbered, put_before, first_count, stream_in}
use Rattle.join_stream.proofs.Appended.{put_bytes}
use Rattle.join_stream.proofs.Counts.{first_said}
use Rattle.join_stream.proofs.Join.{stream_in_lem}
use Rattle.join_stream.proofs.Joined.{operations_renumbered, frames_renumbered_lem}
use Rattle.join_renumber.specs.Renumbered.{items_renumbered, frames_renumbered}
use Rattle.join_renumber.proofs.Renumbered.{items_are, behind_count, frames_are}
use Rattle.join_put_second.specs.Second.{SecondFits, opening_run, behind_run, second_bytes}

-- the bytes that were taken from a place are a part of the file
pub took_is : {file : List ℕ} {at next : ℕ} {bytes : List ℕ} → Took file at next bytes → part file at (next - at) ≡ bytes
took_is {file} {at} {next} {bytes} t = ap (take (next - at)) t.here ∙ take_at bytes (drop next file) (next - at) (omega (arith, t.up_to))

module _ (file : List ℕ) (header : Header) (bytes : AllBytes file) (h : Has 2 file header) where
  abbrev s : Stream
  s = h.stream

  pub acc : Accepted file header s
  acc = subst (λ (x : Header). Accepted file x s) h.header_is (accepted file s h.reads).0

  pub parts : FileParts file header s
  parts = subst (λ (x : Header). FileParts file x s) h.header_is (file_parts file s bytes h.reads)

  pub two : header.version ≡ 2
  two = sym acc.version ∙ h.is

  pub stream_is : stream_in file ≡ s
  stream_is = stream_in_lem file s h.reads

  pub small : length file ≤ 0xE00000
  small = omega (arith, acc.small, acc.size)

  opening_taken : Took file header.initial_start header.frame_start (operations_bytes 2 s.opening)
  opening_taken = subst (λ (v : ℕ). Took file header.initial_start header.frame_start (operations_bytes v s.opening)) two parts.opening

  frames_taken : Took file header.frame_start (length file) (frames_bytes 2 s.frames)
  frames_taken = subst (λ (v : ℕ). Took file header.frame_start (length file) (frames_bytes v s.frames)) two parts.frames

  -- the opening, copied and renumbered
  pub opening_is : (before moved : ℕ) (buffer : List ℕ) → header.frame_start + moved ≤ length buffer
      → items_renumbered before moved file header.initial_count header.initial_start
      (put (part file header.initial_start (header.frame_start - header.initial_start)) (header.initial_start + moved) buffer)
      ≡ put (opening_run file before) (header.initial_start + moved) buffer
  unfolding opening_run
  opening_is before moved buffer fits =
      let start = header.initial_start in
      let old = operations_bytes 2 s.opening in
      let t = opening_taken in
      let copied : part file start (header.frame_start - start) ≡ old ++ [] = took_is t ∙ sym (append-nil old) in
      let long : length (old ++ []) ≡ length old = ap length (append-nil old) in
      ap (λ (l : List ℕ). items_renumbered before moved file header.initial_count start (put l (start + moved) buffer)) copied
      ∙ items_are before moved file (setting_for file header s.cards) two small (opening_limit header file) header.initial_count start (s.opening, header.frame_start) [] buffer
      (opening_limit_lem header file acc.first_within).1 acc.opening (omega (arith, t.up_to))
      ∙ ap (λ (l : List ℕ). put l (start + moved) buffer) (append-nil (operations_bytes 2 (map (renumbered before) s.opening)))
      ∙ ap (λ (x : Stream). put (operations_bytes 2 (map (renumbered before) x.opening)) (start + moved) buffer) (sym stream_is)

  -- the first frame and those behind it
  record Frames : Type 0 where
    first : List Operation × ℕ
    others : List (List Operation) × ℕ
    more : ℕ
    is : s.frames ≡ first.0 ∷ others.0
    count : header.frame_count ≡ suc more
    room : header.frame_start + 2 ≤ length file
    here : operations_from (setting_for file header s.cards) file (length file) (be 2 file header.frame_start) (header.frame_start + 2) ≡ ok first
    from : frames_from (setting_for file header s.cards) file more first.1 ≡ ok others

  frames_found : Frames
  frames_found = go header.frame_count refl acc.frames
    where
      go : (n : ℕ) → header.frame_count ≡ n → frames_from (setting_for file header s.cards) file n header.frame_start ≡ ok (s.frames, length file) → Frames
      go zero e from = absurd (omega (arith, e, acc.some_frame))
      go (suc n) e from =
          let step = frame_step (setting_for file header s.cards) file n header.frame_start (s.frames, length file) from in
          record {
            first = step.frame;
            others = step.others;
            more = n;
            is = sym (ap (λ (f : List (List Operation) × ℕ). f.0) step.is);
            count = e;
            room = step.room;
            here = step.here;
            from = step.from;
          }

  -- what stands behind the first count
  behind_bytes : drop (header.frame_start + 2) file ≡ operations_bytes 2 frames_found.first.0 ++ frames_bytes 2 frames_found.others.0
  unfolding frames_bytes
  behind_bytes =
      let f = frames_found in
      let start = header.frame_start in
      let number = bytes_of_all (u16 (length f.first.0) ∷ []) in
      let rest = operations_bytes 2 f.first.0 ++ frames_bytes 2 f.others.0 in
      let whole : drop start file ≡ frames_bytes 2 s.frames =
      frames_taken.here ∙ ap (λ (l : List ℕ). frames_bytes 2 s.frames ++ l) (drop-length file) ∙ append-nil (frames_bytes 2 s.frames) in
      let all : drop start file ≡ number ++ rest = whole ∙ ap (frames_bytes 2) f.is in
      sym (drop-drop 2 start file) ∙ ap (drop 2) all ∙ drop_at number rest 2 (fields_size_lem (u16 (length f.first.0) ∷ []))

  -- and renumbered
  behind_said : (before : ℕ) → behind_run file before
      ≡ operations_bytes 2 (map (renumbered before) frames_found.first.0) ++ frames_bytes 2 (map (map (renumbered before)) frames_found.others.0)
  unfolding behind_run
  behind_said before =
      let renumber = map (renumbered before) in
      ap (λ (l : List (List Operation)). operations_bytes 2 (renumber (get_or l 0 [])) ++ frames_bytes 2 (map renumber (drop 1 l))) (ap (λ (x : Stream). x.frames) stream_is ∙ frames_found.is)

  -- so the copied bytes become these
  pub behind_is : (before shift : ℕ) (buffer : List ℕ) → length file + shift ≤ length buffer
      → frames_renumbered before shift file header.frame_count header.frame_start
      (put (part file (header.frame_start + 2) (length file - (header.frame_start + 2))) (header.frame_start + 2 + shift) buffer)
      ≡ put (behind_run file before) (header.frame_start + 2 + shift) buffer
  behind_is before shift buffer fits =
      let f = frames_found in
      let start = header.frame_start in
      let rest = length file - (start + 2) in
      let setting = setting_for file header s.cards in
      let old = operations_bytes 2 f.first.0 ++ frames_bytes 2 f.others.0 in
      let long : length old ≡ rest = ap length (sym behind_bytes) ∙ length-drop (start + 2) file in
      let copied : part file (start + 2) rest ≡ old = ap (take rest) behind_bytes ∙ take_all rest old (omega arith) in
      (λ i. frames_renumbered before shift file (f.count i) start (put (copied i) (start + 2 + shift) buffer))
      ∙ behind_count before shift file setting two small f.more start f.first f.others.0 buffer f.room f.here
      (λ l. frames_are before shift file setting two small f.more f.first.1 f.others l f.from) (omega (arith, long, f.room))
      ∙ ap (λ (l : List ℕ). put l (start + 2 + shift) buffer) (sym (behind_said before))

  -- how long the runs are
  pub opening_long : (before : ℕ) → header.frame_start ≡ header.initial_start + length (opening_run file before)
  unfolding opening_run
  opening_long before =
      let long = operations_renumbered before (stream_in file).opening ∙ ap (λ (x : Stream). length (operations_bytes 2 x.opening)) stream_is in
      omega (arith, opening_taken.up_to, long)

  pub behind_long : (before : ℕ) → length file ≡ header.frame_start + 2 + length (behind_run file before)
  behind_long before =
      let first = frames_found.first.0 in
      let others = frames_found.others.0 in
      let said : length (behind_run file before) ≡ length (operations_bytes 2 first ++ frames_bytes 2 others) =
      ap length (behind_said before)
      ∙ length-append (operations_bytes 2 (map (renumbered before) first)) (frames_bytes 2 (map (map (renumbered before)) others))
      ∙ (λ i. operations_renumbered before first i + frames_renumbered_lem before others i)
      ∙ sym (length-append (operations_bytes 2 first) (frames_bytes 2 others)) in
      omega (arith, said, ap length behind_bytes, length-drop (header.frame_start + 2) file, frames_found.room)

  -- the count of the frame that grows
  pub first_count_lem : first_count (stream_in file) ≡ header.initial_count + be 2 file header.frame_start
  first_count_lem =
      ap first_count stream_is
      ∙ first_said file s bytes h.reads
      ∙ ap (λ (x : Header). x.initial_count + be 2 file x.frame_start) h.header_is

  -- the count, the opening and what stands behind the first count are all frames
  pub second_parts : (before : ℕ)
      → second_bytes file before ≡ bytes_of_all (u16 (header.initial_count + be 2 file header.frame_start) ∷ []) ++ (opening_run file before ++ behind_run file before)
  unfolding second_bytes opening_run behind_run
  second_parts before = go (stream_in file).frames (ap (λ (x : Stream). x.frames) stream_is ∙ frames_found.is) first_count_lem
    where
      renumber : List Operation → List Operation
      renumber = map (renumbered before)

      opening : List Operation
      opening = (stream_in file).opening

      go : (frames : List (List Operation)) → frames ≡ frames_found.first.0 ∷ frames_found.others.0
          → length opening + length (get_or frames 0 []) ≡ header.initial_count + be 2 file header.frame_start
          → frames_bytes 2 (put_before (renumber opening) (map renumber frames))
          ≡ bytes_of_all (u16 (header.initial_count + be 2 file header.frame_start) ∷ [])
          ++ (operations_bytes 2 (renumber opening) ++ (operations_bytes 2 (renumber (get_or frames 0 [])) ++ frames_bytes 2 (map renumber (drop 1 frames))))
      go [] e count = absurd (omega (arith, ap length e))
      go (frame ∷ frames) e count =
          let number : length (renumber opening) + length (renumber frame) ≡ header.initial_count + be 2 file header.frame_start =
          (λ i. length-map opening (renumbered before) i + length-map frame (renumbered before) i) ∙ count in
          put_bytes 2 (renumber opening) (renumber frame) (map renumber frames)
          ∙ ap (λ (n : ℕ). bytes_of_all (u16 n ∷ []) ++ (operations_bytes 2 (renumber opening) ++ (operations_bytes 2 (renumber frame) ++ frames_bytes 2 (map renumber frames)))) number

  -- so long are all frames
  pub second_long : (before : ℕ) → length (second_bytes file before) + header.initial_start ≡ length file
  second_long before =
      let count = header.initial_count + be 2 file header.frame_start in
      let opening = opening_run file before in
      let behind = behind_run file before in
      let all = ap length (second_parts before) ∙ length-append (bytes_of_all (u16 count ∷ [])) (opening ++ behind) ∙ (λ i. fields_size_lem (u16 count ∷ []) i + length-append opening behind i) in
      omega (arith, all, opening_long before, behind_long before)

  -- the places are in order, and within the file
  places : (header.initial_start ≤ header.frame_start) × (header.frame_start + 2 ≤ length file) × (length file ≤ 0xE00000)
  places = (acc.opening_first, frames_found.room, small)

-- so they are where the frames fit
pub in_order_lem : {file : List ℕ} {header : Header} {before room shift : ℕ} → SecondFits file header before room shift → AllBytes file
    → (header.initial_start ≤ header.frame_start) × (header.frame_start + 2 ≤ length file) × (length file ≤ 0xE00000)
in_order_lem {file} {header} f bytes = places file header bytes (has 2 file header f.here)
