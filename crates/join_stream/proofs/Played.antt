-- How two streams joined play: the first's vsyncs, then the second's.
use Prim.Native.Nat.{ℕ, zero, suc, ◌+◌, ◌*◌, ◌%◌, ◌<◌, ◌≤◌}
use mathlib.Core.Bool.{Bool, true, false, cond, true≢false}
use mathlib.Core.List.{List, [], ◌∷◌, ◌++◌, map, map-append}
use mathlib.Core.Logic.{◌⊎◌, inl, inr}
use mathlib.Core.Path.{◌≡◌, refl, sym, ap, ◌∙◌, subst}
use native.Mathlib.Omega.{arith}
use borrow.Author.Tests.{lt-ltb, le-ltb, ne_eqb, eq-eqb}
use lib.Arith.{digits_mod}
use lib.Dec.{eqb, ltb}
use lib.ListN.{length, get_or, length-append, length-map, get_or-append}
use lib.Seq.{get_or-append-add}
use Rattle.base_format.specs.declared.operation.Operation.{Operation}
use Rattle.base_format.specs.declared.operation.Operation.TheVariants.{Write, Fill, Copy}
use Rattle.base_format.specs.declared.operation.WriteRecord.{WriteRecord}
use Rattle.base_format.specs.Bytes.{AllBytes, part}
use Rattle.base_format.specs.Checked.{ok}
use Rattle.base_format.specs.Limits.{Each, OperationFits, FrameFits}
use Rattle.base_format.specs.Pool.{Payload, no_pool}
use Rattle.base_format.specs.Stream.{Stream, read}
use Rattle.base_format.specs.Target.{target_of, missing}
use Rattle.base_format.specs.Writes.{upward, writes_with, writes_of, writes_of_all, opening_writes, frame_writes, any_si22, any_frame_si22, uses_si22, closing_writes, closing, writes_in, vsync}
use Rattle.base_format.proofs.Writes.{writes_append}
use Rattle.join_stream.specs.Join.{renumbered, put_before, joined}
use Rattle.join_stream.specs.Promises.{PlaysBoth}
use Rattle.join_stream.proofs.Join.{Joins, joinable, join_reads}
use Rattle.join_stream.proofs.Joined.{Joinable, joined_two, put_count}
use Rattle.join_stream.proofs.VersionTwo.{VersionTwo, opening_within, frames_within}

-- ---- a frame within a pass

-- the frame of a vsync in a pass: of the first pass, or of any pass of a stream that repeats; not the first vsync, which has the opening
pub in_pass : (s : Stream) (pass k : ℕ) → k < length s.frames → 0 < pass * length s.frames + k → (pass ≡ 0) ⊎ (s.repeat ≡ true)
    → vsync s (pass * length s.frames + k) ≡ frame_writes s k
unfolding vsync writes_in
in_pass s pass k within some either = go (pass * length s.frames + k) refl some either
  where
    -- of the first pass, whether the stream repeats or not
    early : (n : ℕ) → suc n ≡ k → (b : Bool)
        → cond b (frame_writes s (suc n % length s.frames))
        (cond (ltb (suc n) (length s.frames)) (frame_writes s (suc n)) (cond (eqb (suc n) (length s.frames)) (closing s) [])) ≡ frame_writes s k
    early n here true =
        let none : suc n ≡ 0 * length s.frames + k = omega arith in
        ap (frame_writes s) (ap (λ (m : ℕ). m % length s.frames) none ∙ digits_mod 0 within)
    early n here false = rw (here, lt-ltb k (length s.frames) within)

    go : (n : ℕ) → pass * length s.frames + k ≡ n → 0 < n → (pass ≡ 0) ⊎ (s.repeat ≡ true) → vsync s n ≡ frame_writes s k
    go zero is h e = absurd (omega arith)
    go (suc n) is h (inr repeats) = rw (repeats, ← is, digits_mod pass within)
    go (suc n) is h (inl none) = early n (omega (arith, ap (λ (p : ℕ). p * length s.frames) none)) s.repeat

-- behind the last frame of a stream that does not repeat: the closing writes, then nothing
behind_last : (s : Stream) (k : ℕ) → s.repeat ≡ false → 1 ≤ length s.frames → vsync s (length s.frames + k) ≡ cond (eqb k 0) (closing s) []
unfolding vsync writes_in
behind_last s k once some = go (length s.frames + k) refl k refl
  where
    go : (n : ℕ) → length s.frames + k ≡ n → (k' : ℕ) → k ≡ k' → vsync s n ≡ cond (eqb k' 0) (closing s) []
    go zero is k' e = absurd (omega arith)
    go (suc n) is zero e = rw (once, le-ltb (suc n) (length s.frames) (omega arith), eq-eqb (suc n) (length s.frames) (omega arith))
    go (suc n) is (suc k') e =
        rw (once, le-ltb (suc n) (length s.frames) (omega arith), ne_eqb (suc n) (length s.frames) (λ same. omega (arith, same)), ne_eqb (suc k') 0 (λ same. omega (arith, same)))

-- ---- version 2 has no target 11, so that all closing writes are alike

no_11 : (target : ℕ) → missing (target_of 2 [] target) ≡ false → eqb target 11 ≡ false
unfolding target_of
no_11 target exists = ne_eqb target 11 (λ e. true≢false (subst (λ (t : ℕ). missing (target_of 2 [] t) ≡ false) e exists))

no_si22 : (pools : List Payload) (operations : List Operation) → Each (OperationFits 2 [] pools) operations → any_si22 operations ≡ false
unfolding any_si22
no_si22 pools [] fits = refl
no_si22 pools (Write target address value ∷ operations) fits = rw (no_11 target fits.0.exists, no_si22 pools operations fits.1)
no_si22 pools (Fill target address size value ∷ operations) fits = rw (no_11 target fits.0.exists, no_si22 pools operations fits.1)
no_si22 pools (Copy target address pool source size ∷ operations) fits = rw (no_11 target fits.0.exists, no_si22 pools operations fits.1)

no_frame_si22 : (pools : List Payload) (frames : List (List Operation)) → Each (FrameFits 2 [] pools) frames → any_frame_si22 frames ≡ false
unfolding any_frame_si22
no_frame_si22 pools [] fits = refl
no_frame_si22 pools (frame ∷ frames) fits = rw (no_si22 pools frame fits.0.operations, no_frame_si22 pools frames fits.1)

pub without_si22 : (s : Stream) → VersionTwo s → uses_si22 s ≡ false
without_si22 s two = rw (no_si22 s.pools s.opening (opening_within s two), no_frame_si22 s.pools s.frames (frames_within s two))

-- ---- what two streams joined write

module _ (a b : List Payload) where
  -- each operation of the first's writes what it wrote
  writes_front : (operation : Operation) → OperationFits 2 [] a operation → writes_of (a ++ b) operation ≡ writes_of a operation
  unfolding writes_with writes_of
  writes_front (Write target address value) fits = refl
  writes_front (Fill target address size value) fits = refl
  writes_front (Copy target address pool source size) fits =
      ap (λ (p : Payload). upward target address (part p.bytes source size)) (get_or-append a b no_pool pool fits.known)

  -- and so does each of the second's, renumbered
  writes_behind : (operation : Operation) → writes_of (a ++ b) (renumbered (length a) operation) ≡ writes_of b operation
  unfolding writes_with writes_of
  writes_behind (Write target address value) = refl
  writes_behind (Fill target address size value) = refl
  writes_behind (Copy target address pool source size) = ap (λ (p : Payload). upward target address (part p.bytes source size)) (get_or-append-add a b pool no_pool)

-- operations in a row
writes_map : (a b : List Payload) (operations : List Operation) → writes_of_all (a ++ b) (map (renumbered (length a)) operations) ≡ writes_of_all b operations
unfolding writes_of_all
writes_map a b [] = refl
writes_map a b (operation ∷ operations) = rw (writes_behind a b operation, writes_map a b operations)

writes_all : (a b : List Payload) (operations : List Operation) → Each (OperationFits 2 [] a) operations → writes_of_all (a ++ b) operations ≡ writes_of_all a operations
unfolding writes_of_all
writes_all a b [] fits = refl
writes_all a b (operation ∷ operations) fits = rw (writes_front a b operation fits.0, writes_all a b operations fits.1)

-- all frames of each
frames_all : (a b : List Payload) (frames : List (List Operation)) → Each (FrameFits 2 [] a) frames → map (writes_of_all (a ++ b)) frames ≡ map (writes_of_all a) frames
frames_all a b [] fits = refl
frames_all a b (frame ∷ frames) fits = λ i. writes_all a b frame fits.0.operations i ∷ frames_all a b frames fits.1 i

frames_map : (a b : List Payload) (frames : List (List Operation)) → map (writes_of_all (a ++ b)) (map (map (renumbered (length a))) frames) ≡ map (writes_of_all b) frames
frames_map a b [] = refl
frames_map a b (frame ∷ frames) = λ i. writes_map a b frame i ∷ frames_map a b frames i

-- writes that are put before those of the first frame
abbrev first_with : List WriteRecord → List (List WriteRecord) → List (List WriteRecord)
first_with opening [] = []
first_with opening (frame ∷ frames) = (opening ++ frame) ∷ frames

put_writes : (pools : List Payload) (opening : List Operation) (frames : List (List Operation))
    → map (writes_of_all pools) (put_before opening frames) ≡ first_with (writes_of_all pools opening) (map (writes_of_all pools) frames)
put_writes pools opening [] = refl
put_writes pools opening (frame ∷ frames) = ap (λ (l : List WriteRecord). l ∷ map (writes_of_all pools) frames) (writes_append pools opening frame)

-- the writes of all frames
abbrev all_frames : Stream → List (List WriteRecord)
all_frames s = map (writes_of_all s.pools) s.frames

-- the first's opening and frames, then the second's, its opening with its first frame
joined_writes : (a b : Stream) → VersionTwo a
    → (opening_writes (joined a b) ≡ opening_writes a) × (all_frames (joined a b) ≡ all_frames a ++ first_with (opening_writes b) (all_frames b))
unfolding joined
joined_writes a b two =
    let n = length a.pools in
    let opening = map (renumbered n) b.opening in
    let frames = map (map (renumbered n)) b.frames in
    let all = writes_of_all (a.pools ++ b.pools) in (
      writes_all a.pools b.pools a.opening (opening_within a two),
      map-append all a.frames (put_before opening frames)
          ∙ (λ i. frames_all a.pools b.pools a.frames (frames_within a two) i ++ put_writes (a.pools ++ b.pools) opening frames i)
          ∙ (λ i. all_frames a ++ first_with (writes_map a.pools b.pools b.opening i) (frames_map a.pools b.pools b.frames i)),
    )

-- ---- the frames of two streams joined

frame_at : (s : Stream) (k : ℕ) → frame_writes s k ≡ get_or (all_frames s) k []
unfolding writes_of_all
frame_at s k = go s.frames k
  where
    go : (frames : List (List Operation)) (k : ℕ) → writes_of_all s.pools (get_or frames k []) ≡ get_or (map (writes_of_all s.pools) frames) k []
    go [] k = refl
    go (frame ∷ frames) zero = refl
    go (frame ∷ frames) (suc k) = go frames k

module _ (a b : Stream) (j : Joinable a b) where
  abbrev whole : Stream
  whole = joined a b

  frames_are : all_frames whole ≡ all_frames a ++ first_with (opening_writes b) (all_frames b)
  frames_are = (joined_writes a b j.of_first).1

  -- a frame of the first's
  front : (k : ℕ) → k < length a.frames → frame_writes whole k ≡ frame_writes a k
  front k within =
      frame_at whole k
      ∙ ap (λ (l : List (List WriteRecord)). get_or l k []) frames_are
      ∙ get_or-append (all_frames a) (first_with (opening_writes b) (all_frames b)) [] k (rw length-map within)
      ∙ sym (frame_at a k)

  -- a frame of the second's, its opening with its first
  second_frame : (k : ℕ) → k < length b.frames → get_or (first_with (opening_writes b) (all_frames b)) k [] ≡ vsync b k
  unfolding vsync writes_in
  second_frame zero within = go b.frames refl
    where
      go : (frames : List (List Operation)) → b.frames ≡ frames
          → get_or (first_with (opening_writes b) (map (writes_of_all b.pools) frames)) 0 [] ≡ opening_writes b ++ writes_of_all b.pools (get_or frames 0 [])
      go [] e = absurd (omega (arith, ap length e))
      go (frame ∷ frames) e = refl
  second_frame (suc k) within =
      let same : 0 * length b.frames + suc k ≡ suc k = omega arith in
      later (all_frames b)
      ∙ sym (frame_at b (suc k))
      ∙ sym (in_pass b 0 (suc k) within (omega arith) (inl refl))
      ∙ ap (vsync b) same
    where
      later : (frames : List (List WriteRecord)) → get_or (first_with (opening_writes b) frames) (suc k) [] ≡ get_or frames (suc k) []
      later [] = refl
      later (frame ∷ frames) = refl

  behind : (k : ℕ) → k < length b.frames → frame_writes whole (length a.frames + k) ≡ vsync b k
  behind k within =
      let count : length (all_frames a) ≡ length a.frames = length-map a.frames (writes_of_all a.pools) in
      frame_at whole (length a.frames + k)
      ∙ (λ i. get_or (frames_are i) (sym count i + k) [])
      ∙ get_or-append-add (all_frames a) (first_with (opening_writes b) (all_frames b)) k []
      ∙ second_frame k within

  both_long : length whole.frames ≡ length a.frames + length b.frames
  unfolding joined
  both_long = simp (length-append, put_count, length-map)

  opens : opening_writes whole ≡ opening_writes a
  opens = (joined_writes a b j.of_first).0

  closes_alike : closing whole ≡ closing b
  unfolding closing joined
  closes_alike = ap closing_writes (without_si22 whole (joined_two a b j) ∙ sym (without_si22 b j.of_second))

  some_first : 1 ≤ length a.frames
  some_first = j.of_first.within.some_frame

  repeats : whole.repeat ≡ b.repeat
  unfolding joined
  repeats = refl

  -- "One pass gives the first's vsyncs, then the second's"
  pub plays_both : PlaysBoth a b whole
  unfolding vsync writes_in
  plays_both =
      record {
        length_both = both_long;
        firsts = firsts;
        seconds = λ pass k within either. in_pass whole pass (length a.frames + k) (omega (arith, both_long)) (omega (arith, some_first)) (again? either) ∙ behind k within;
        again = λ pass k within again. in_pass whole (suc pass) k (omega (arith, both_long)) (omega (arith, some_first, both_long)) (inr (repeats ∙ again)) ∙ front k within;
        closes = closes;
      }
    where
      firsts : (k : ℕ) → k < length a.frames → vsync whole k ≡ vsync a k
      firsts zero within = λ i. opens i ++ front 0 within i
      firsts (suc k) within =
          let same : suc k ≡ 0 * length whole.frames + suc k = omega arith in
          let same' : 0 * length a.frames + suc k ≡ suc k = omega arith in
          ap (vsync whole) same
          ∙ in_pass whole 0 (suc k) (omega (arith, both_long)) (omega arith) (inl refl)
          ∙ front (suc k) within
          ∙ sym (in_pass a 0 (suc k) within (omega arith) (inl refl))
          ∙ ap (vsync a) same'

      closes : (k : ℕ) → b.repeat ≡ false → vsync whole (length whole.frames + k) ≡ vsync b (length b.frames + k)
      closes k once =
          behind_last whole k (repeats ∙ once) (omega (arith, both_long, some_first))
          ∙ ap (λ (l : List WriteRecord). cond (eqb k 0) l []) closes_alike
          ∙ sym (behind_last b k once j.of_second.within.some_frame)

      again? : {pass : ℕ} → (pass ≡ 0) ⊎ (b.repeat ≡ true) → (pass ≡ 0) ⊎ (whole.repeat ≡ true)
      again? (inl e) = inl e
      again? (inr e) = inr (repeats ∙ e)

-- a join that is made is read as two streams joined, and plays as both
pub join_plays : {file file' : List ℕ} {room : ℕ} {bytes : List ℕ} → AllBytes file → AllBytes file' → (j : Joins file file' room bytes)
    → (read bytes ≡ ok (joined j.a j.b)) × PlaysBoth j.a j.b (joined j.a j.b)
join_plays all all' j = (join_reads all all' j, plays_both j.a j.b (joinable all all' j))
