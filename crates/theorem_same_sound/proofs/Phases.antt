-- Where a player of an accepted file can be, and what then remains of its vsync.
use Prim.Native.Nat.{ℕ, zero, suc, ◌+◌, ◌*◌, ◌%◌, ◌≤◌, ◌<◌}
use mathlib.Core.Bool.{Bool, true, false, cond, true≢false}
use mathlib.Core.List.{List, [], ◌∷◌, ◌++◌, append-nil, nil≢cons, head-eq_of_cons-eq, tail-eq_of_cons-eq}
use mathlib.Core.Path.{◌≡◌, refl, sym, ap, subst, ◌∙◌}
use native.Mathlib.Nat.{suc-mul, zero-mul, mul-add-mod_self_right, mod-eq_of_lt, le_of_eq}
use native.Mathlib.Numerals.{add-one}
use native.Mathlib.Omega.{arith}
use borrow.Author.Tests.{le-ltb, lt-ltb, eq-eqb, ne_eqb}
use lib.Dec.{ltb}
use lib.ListN.{length, get_or, drop}
use Rattle.base_format.specs.declared.operation.Operation.{Operation}
use Rattle.base_format.specs.declared.player.Part.TheVariants.{Between, Opening, Frame, Closing}
use Rattle.base_format.specs.declared.player.Progress.{Progress}
use Rattle.base_format.specs.declared.player.StreamPlayer.{StreamPlayer}
use Rattle.base_format.specs.declared.player.WaveSource.{WaveSource}
use Rattle.base_format.specs.declared.operation.WriteRecord.{WriteRecord}
use Rattle.base_format.specs.Bytes.{be}
use Rattle.base_format.specs.Checked.{ok}
use Rattle.base_format.specs.Header.{header_of}
use Rattle.base_format.specs.Player.{frame_start, frame_begun, belongs}
use Rattle.base_format.specs.State.{part_of, unplayed, table_of, player_of}
use Rattle.base_format.specs.Stream.{Stream, operations_from, frames_from, opening_limit}
use Rattle.base_format.specs.Writes.{first, later, vsync_behind, writes_of_all, frame_writes, closing, writes_in, operations_in}
use Rattle.base_format.proofs.Accepted.{Accepted, HeaderOk}
use Rattle.base_format.proofs.Cards.{cards_count}
use Rattle.base_format.proofs.Checks.{ok_is}
use Rattle.base_format.proofs.Steps.{frame_step}
use Rattle.base_format.proofs.Writes.{writes_append}
use Rattle.index_laws.proofs.Places.{frame_count}
use Rattle.theorem_same_sound.proofs.Course.{waves_by_all, Due, next_due, start_due, Course, course_of, Along, along_first}
use Rattle.theorem_same_sound.proofs.Gather.{own, At, at_start, onward_to_lem}

-- WHAT HOLDS OF A STATE

-- the places and counters that a call tests first
pub record Inside (file : List ℕ) (p : Progress) : Type 0 where
  pub cursor : p.cursor ≤ length file
  pub frames : p.frame_index ≤ (header_of file).frame_count
  pub operations : p.operation_index ≤ p.operation_count

-- `frame` frames of a pass are played when the vsync numbered k comes, and `more` are to come from the cursor on
pub record Ahead (file : List ℕ) (s : Stream) (k frame more cursor : ℕ) : Type 0 where
  pub passes : ℕ
  pub once : s.repeat ≡ false → passes ≡ 0
  pub counted : frame + more ≡ (header_of file).frame_count
  pub vsyncs : k ≡ passes * (header_of file).frame_count + frame
  pub later : frames_from (own file s) file more cursor ≡ ok (drop frame s.frames, length file)

pub record InOpening (file : List ℕ) (s : Stream) (p : Progress) (d : Due) (rest : List WriteRecord) : Type 0 where
  pub part : part_of p.part ≡ Opening
  pub going : p.finished ≡ false
  pub left : ℕ
  pub pending : List WriteRecord
  pub at : At file s (opening_limit (header_of file) file) (header_of file).frame_start left p.cursor p.write_index pending p.wave_sources (course_of s d (get_or s.frames 0 []))
  pub counted : p.operation_index + left ≡ p.operation_count
  pub which : d.which ≡ first
  pub is : rest ≡ pending ++ frame_writes s 0

pub record InFrame (file : List ℕ) (s : Stream) (p : Progress) (d : Due) (rest : List WriteRecord) : Type 0 where
  pub part : part_of p.part ≡ Frame
  pub going : p.finished ≡ false
  pub left : ℕ
  pub end : ℕ
  pub more : ℕ
  pub at : At file s (length file) end left p.cursor p.write_index rest p.wave_sources (course_of s d [])
  pub whole : writes_in s d.which ≡ writes_of_all s.pools (operations_in s d.which)
  pub counted : p.operation_index + left ≡ p.operation_count
  pub number : ℕ
  pub which : vsync_behind d.which ≡ later number
  pub ahead : Ahead file s number p.frame_index more end

pub record BetweenFrames (file : List ℕ) (s : Stream) (p : Progress) (d : Due) (rest : List WriteRecord) : Type 0 where
  pub part : part_of p.part ≡ Between
  pub going : p.finished ≡ false
  pub initialized : p.initialized ≡ true
  pub more : ℕ
  pub number : ℕ
  pub which : d.which ≡ later number
  pub ahead : Ahead file s number p.frame_index more p.cursor
  pub sources : p.wave_sources ≡ d.waves
  pub is : rest ≡ writes_in s d.which

pub record InClosing (file : List ℕ) (s : Stream) (p : Progress) (d : Due) (rest : List WriteRecord) : Type 0 where
  pub part : part_of p.part ≡ Closing
  pub going : p.finished ≡ false
  pub once : s.repeat ≡ false
  pub which : d.which ≡ later (length s.frames)
  pub within : p.write_index ≤ length (closing s)
  pub sources : p.wave_sources ≡ d.waves
  pub is : rest ≡ drop p.write_index (closing s)

pub record Over (file : List ℕ) (s : Stream) (p : Progress) (d : Due) (rest : List WriteRecord) : Type 0 where
  pub over : p.finished ≡ true
  pub once : s.repeat ≡ false
  pub number : ℕ
  pub which : d.which ≡ later number
  pub last : length s.frames < number
  pub within : p.write_index ≤ length (closing s)
  pub sources : p.wave_sources ≡ d.waves
  pub is : rest ≡ []

-- `rest` remains of the vsync that begins with `d`
pub data Phase (file : List ℕ) (s : Stream) (p : Progress) (d : Due) (rest : List WriteRecord) : Type 0 where
  at_start_of_all : p ≡ unplayed false (header_of file).frame_start → d ≡ start_due → rest ≡ writes_in s first → Phase file s p d rest
  at_opening : InOpening file s p d rest → Phase file s p d rest
  at_frame : InFrame file s p d rest → Phase file s p d rest
  at_between : BetweenFrames file s p d rest → Phase file s p d rest
  at_closing : InClosing file s p d rest → Phase file s p d rest
  at_over : Over file s p d rest → Phase file s p d rest

-- a state, its file, the stream, what the vsync begins with and what remains of it belong together
pub record Holds (file : List ℕ) (s : Stream) (state : StreamPlayer) (d : Due) (rest : List WriteRecord) : Type 0 where
  pub progress : Progress
  pub is : state ≡ player_of file s progress
  pub inside : Inside file progress
  pub phase : Phase file s progress d rest

-- THE TESTS OF 25 PASS

pub belongs_own : (file : List ℕ) (s : Stream) → Accepted file (header_of file) s → HeaderOk (header_of file) → (p : Progress) → Inside file p → belongs (player_of file s p) file ≡ ok tt
unfolding belongs player_of table_of
belongs_own file s acc header p inside =
    let count : length s.cards ≤ 8 = omega (arith, cards_count file _ _ 0 s.cards acc.cards, header.cards) in
    let opening : (header_of file).initial_start ≤ length file = omega (arith, acc.opening_first, acc.first_within) in
    let directory : (header_of file).directory_offset ≤ length file = omega (arith, acc.directory) in
    rw (
      eq-eqb _ _ acc.size,
      header.low,
      le-ltb _ _ header.high,
      le-ltb _ _ header.cards,
      le-ltb _ _ count,
      le-ltb _ _ inside.cursor,
      le-ltb _ _ opening,
      le-ltb _ _ acc.first_within,
      le-ltb _ _ directory,
      le-ltb _ _ inside.frames,
      le-ltb _ _ inside.operations,
    )

-- FRAMES

pub frames_onward : (file : List ℕ) (s : Stream) (count cursor : ℕ) (frames : List (List Operation)) (end : ℕ) → frames_from (own file s) file count cursor ≡ ok (frames, end) → cursor ≤ end
unfolding frames_from
frames_onward file s zero cursor frames end e = le_of_eq (ap (λ (x : List (List Operation) × ℕ). x.1) (ok_is e))
frames_onward file s (suc count) cursor frames end e =
    let step = frame_step (own file s) file count cursor (frames, end) e in
    let last : step.others.1 ≡ end = ap (λ (x : List (List Operation) × ℕ). x.1) step.is in
    let inner : cursor + 2 ≤ step.frame.1 = onward_to_lem file s (length file) step.frame.1 (be 2 file cursor) (cursor + 2) step.frame.0 step.here in
    let outer : step.frame.1 ≤ step.others.1 = frames_onward file s count step.frame.1 step.others.0 step.others.1 step.from in
    omega arith

-- one frame taken apart
pub record Starts (file : List ℕ) (s : Stream) (count cursor : ℕ) (frames : List (List Operation)) (end : ℕ) : Type 0 where
  pub operations : List Operation
  pub next : ℕ
  pub others : List (List Operation)
  pub counts : cursor + 2 ≤ length file
  pub here : operations_from (own file s) file (length file) (be 2 file cursor) (cursor + 2) ≡ ok (operations, next)
  pub later : frames_from (own file s) file count next ≡ ok (others, end)
  pub is : frames ≡ operations ∷ others

starts : (file : List ℕ) (s : Stream) (count cursor : ℕ) (frames : List (List Operation)) (end : ℕ) → frames_from (own file s) file (suc count) cursor ≡ ok (frames, end)
    → Starts file s count cursor frames end
unfolding frames_from
starts file s count cursor frames end e =
    let step = frame_step (own file s) file count cursor (frames, end) e in
    let last : step.others.1 ≡ end = ap (λ (x : List (List Operation) × ℕ). x.1) step.is in
    let all : step.frame.0 ∷ step.others.0 ≡ frames = ap (λ (x : List (List Operation) × ℕ). x.0) step.is in
    record { operations = step.frame.0; next = step.frame.1; others = step.others.0; counts = step.room; here = step.here; later = step.from ∙ ap (λ (n : ℕ). ok (step.others.0, n)) last; is = sym all }

drop_is : (l : List (List Operation)) (n : ℕ) (x : List Operation) (xs : List (List Operation)) → drop n l ≡ x ∷ xs → (get_or l n [] ≡ x) × (drop (suc n) l ≡ xs)
drop_is [] zero x xs e = absurd (nil≢cons e)
drop_is [] (suc n) x xs e = absurd (nil≢cons e)
drop_is (y ∷ ys) zero x xs e = (head-eq_of_cons-eq e, tail-eq_of_cons-eq e)
drop_is (y ∷ ys) (suc n) x xs e = drop_is ys n x xs e

-- a frame is begun: its count is read, its writes are pending, and the frames behind it are ahead
pub record Begins (file : List ℕ) (s : Stream) (k frame more cursor : ℕ) : Type 0 where
  pub next : ℕ
  pub counts : (p : Progress) → frame_begun file cursor frame p ≡ ok (frame_start file cursor frame p)
  pub within : cursor + 2 ≤ length file
  pub at : (waves : List WaveSource) (course : Course) → Along file s course 0 (get_or s.frames frame []) waves
      → At file s (length file) next (be 2 file cursor) (cursor + 2) 0 (frame_writes s frame) waves course
  pub ahead : Ahead file s (suc k) (frame + 1) more next

pub begins : (file : List ℕ) (s : Stream) → Accepted file (header_of file) s → (k frame more cursor : ℕ) → Ahead file s k frame (suc more) cursor → Begins file s k frame more cursor
unfolding frame_begun
begins file s acc k frame more cursor ahead =
    let start = starts file s more cursor (drop frame s.frames) (length file) ahead.later in
    let dropped = drop_is s.frames frame start.operations start.others start.is in
    let later : drop (frame + 1) s.frames ≡ start.others = rw add-one dropped.1 in
    record {
      next = start.next;
      counts = λ p. rw (le-ltb _ _ start.counts);
      within = start.counts;
      at = λ waves course along. subst (λ (operations : List Operation). At file s (length file) start.next (be 2 file cursor) (cursor + 2) 0 (writes_of_all s.pools operations) waves course)
          (sym dropped.0) (at_start file s acc (length file) start.next (be 2 file cursor) (cursor + 2) start.operations start.here waves course
          (subst (λ (operations : List Operation). Along file s course 0 operations waves) dropped.0 along));
      ahead = record {
        passes = ahead.passes;
        once = ahead.once;
        counted = omega (arith, ahead.counted);
        vsyncs = omega (arith, ahead.vsyncs);
        later = start.later ∙ ap (λ (l : List (List Operation)). ok (l, length file)) (sym later);
      };
    }

-- a pass begins: before the first vsync, and again after the last frame of a repeating stream
pub first_ahead : (file : List ℕ) (s : Stream) → Accepted file (header_of file) s → Ahead file s 0 0 (header_of file).frame_count (header_of file).frame_start
first_ahead file s acc =
    record { passes = 0; once = λ e. refl; counted = omega arith; vsyncs = rw zero-mul; later = acc.frames }

pub again_ahead : (file : List ℕ) (s : Stream) → Accepted file (header_of file) s → s.repeat ≡ true → (k frame cursor : ℕ) → Ahead file s k frame 0 cursor
    → Ahead file s k 0 (header_of file).frame_count (header_of file).frame_start
again_ahead file s acc repeats k frame cursor ahead =
    record { passes = suc ahead.passes; once = λ e. absurd (true≢false (sym repeats ∙ e)); counted = omega arith; vsyncs = rw suc-mul (omega (arith, ahead.counted, ahead.vsyncs)); later = acc.frames }

-- THE WRITES OF A VSYNC

-- a vsync that plays a frame and no opening: which one
frame_which : {A : Type 0} (file : List ℕ) (s : Stream) → Accepted file (header_of file) s → (k frame more cursor : ℕ) → Ahead file s k frame (suc more) cursor
    → (f : ℕ → A) (other : A) → cond s.repeat (f (k % length s.frames)) (cond (ltb k (length s.frames)) (f k) other) ≡ f frame
frame_which {A} file s acc k frame more cursor ahead f other = go s.repeat refl
  where
    n : length s.frames ≡ (header_of file).frame_count
    n = frame_count file s acc

    less : frame < length s.frames
    less = omega (arith, n, ahead.counted)

    go : (b : Bool) → s.repeat ≡ b → cond b (f (k % length s.frames)) (cond (ltb k (length s.frames)) (f k) other) ≡ f frame
    go true e =
        let number : k ≡ ahead.passes * length s.frames + frame = ahead.vsyncs ∙ ap (λ (m : ℕ). ahead.passes * m + frame) (sym n) in
        let found : k % length s.frames ≡ frame = ap (λ (m : ℕ). m % length s.frames) number ∙ mul-add-mod_self_right ahead.passes (length s.frames) frame ∙ mod-eq_of_lt less in
        ap f found
    go false e =
        let number : k ≡ 0 * (header_of file).frame_count + frame = ahead.vsyncs ∙ ap (λ (m : ℕ). m * (header_of file).frame_count + frame) (ahead.once e) in
        let same : k ≡ frame = omega arith in
        rw (same, lt-ltb frame (length s.frames) less)

pub writes_frame : (file : List ℕ) (s : Stream) → Accepted file (header_of file) s → (k frame more cursor : ℕ) → Ahead file s k frame (suc more) cursor → writes_in s (later k) ≡ frame_writes s frame
unfolding writes_in
writes_frame file s acc k frame more cursor ahead = frame_which file s acc k frame more cursor ahead (frame_writes s) _

-- its operations
operations_frame : (file : List ℕ) (s : Stream) → Accepted file (header_of file) s → (k frame more cursor : ℕ) → Ahead file s k frame (suc more) cursor
    → operations_in s (later k) ≡ get_or s.frames frame []
unfolding operations_in
operations_frame file s acc k frame more cursor ahead = frame_which file s acc k frame more cursor ahead (λ (n : ℕ). get_or s.frames n []) []

module _ (file : List ℕ) (s : Stream) (acc : Accepted file (header_of file) s) (d : Due) (k frame more cursor : ℕ) (which : d.which ≡ later k) (ahead : Ahead file s k frame (suc more) cursor) where
  pub due_frame : writes_in s d.which ≡ frame_writes s frame
  due_frame = ap (writes_in s) which ∙ writes_frame file s acc k frame more cursor ahead

  due_operations : operations_in s d.which ≡ get_or s.frames frame []
  due_operations = ap (operations_in s) which ∙ operations_frame file s acc k frame more cursor ahead

  -- they begin with the wave sources before it, and their writes are the vsync's
  pub frame_along : (waves : List WaveSource) → waves ≡ d.waves → Along file s (course_of s d []) 0 (get_or s.frames frame []) waves
  frame_along waves e = along_first file s (course_of s d []) (get_or s.frames frame []) waves (due_operations ∙ sym (append-nil (get_or s.frames frame []))) e

  pub frame_whole : writes_in s d.which ≡ writes_of_all s.pools (operations_in s d.which)
  frame_whole = due_frame ∙ ap (writes_of_all s.pools) (sym due_operations)

-- the first vsync: the opening and frame 1
pub first_along : (file : List ℕ) (s : Stream) (d : Due) → d.which ≡ first → (waves : List WaveSource) → waves ≡ d.waves
    → Along file s (course_of s d (get_or s.frames 0 [])) 0 s.opening waves
unfolding operations_in
first_along file s d which waves e = along_first file s (course_of s d (get_or s.frames 0 [])) s.opening waves (ap (operations_in s) which) e

pub first_whole : (s : Stream) → writes_in s first ≡ writes_of_all s.pools (operations_in s first)
unfolding writes_in operations_in
first_whole s = sym (writes_append s.pools s.opening (get_or s.frames 0 []))

-- after the last frame of a stream that does not repeat there are no operations, and the wave sources stay
pub no_operations : (s : Stream) → s.repeat ≡ false → (k : ℕ) → length s.frames ≤ k → operations_in s (later k) ≡ []
unfolding operations_in
no_operations s once k after = rw (once, le-ltb k (length s.frames) after)

pub waves_still : (file : List ℕ) (s : Stream) → s.repeat ≡ false → (d : Due) (k : ℕ) → d.which ≡ later k → length s.frames ≤ k → (next_due file s d).waves ≡ d.waves
unfolding waves_by_all
waves_still file s once d k which after = rw (which, no_operations s once k after)

-- and the one after the last frame of a stream that does not repeat
pub writes_closing : (s : Stream) → s.repeat ≡ false → (k : ℕ) → k ≡ length s.frames → writes_in s (later k) ≡ closing s
unfolding writes_in
writes_closing s once k last = rw (once, le-ltb _ _ (le_of_eq (sym last)), eq-eqb _ _ last)

pub writes_over : (s : Stream) → s.repeat ≡ false → (k : ℕ) → length s.frames < k → writes_in s (later k) ≡ []
unfolding writes_in
writes_over s once k after =
    let no : k ≡ length s.frames → ⊥ = λ e. omega arith in
    rw (once, le-ltb k (length s.frames) (omega arith), ne_eqb _ _ no)
