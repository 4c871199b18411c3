-- What playing on gives in a frame, in the opening and in the closing writes: as many of the vsync's remaining writes as there is room for.
use Prim.Native.Nat.{ℕ, zero, suc, ◌+◌, ◌-◌, ◌≤◌, ◌<◌}
use mathlib.Core.Bool.{Bool, true, false, cond}
use mathlib.Core.List.{List, [], ◌++◌}
use mathlib.Core.Path.{◌≡◌, refl, sym, ap, subst, ◌∙◌}
use native.Mathlib.Omega.{arith}
use borrow.Author.Tests.{leb-true, leb-false, eqb-true, le-leb, lt-leb, le-ltb}
use lib.Dec.{eqb, leb}
use lib.ListN.{length, get_or, take, drop, length-append, length-take, length-drop}
use lib.Seq.{take_all, take-append-le, drop-append-le, drop-drop}
use Rattle.base_format.specs.declared.player.Progress.{Progress}
use Rattle.base_format.specs.declared.player.StreamPlayer.{StreamPlayer}
use Rattle.base_format.specs.declared.operation.WriteRecord.{WriteRecord}
use Rattle.base_format.specs.Bytes.{be}
use Rattle.base_format.specs.Checked.{Checked, ok, ◌>>=◌}
use Rattle.base_format.specs.Header.{header_of}
use Rattle.base_format.specs.Player.{Played, placed, operations_left, opening_begun, frame_start, frame_begun, frame_ended, closing_at, play_frame, play_opening, play_closing}
use Rattle.base_format.specs.State.{player_of}
use Rattle.base_format.specs.Stream.{Stream, opening_limit}
use Rattle.base_format.specs.Writes.{WhichVsync, first, later, vsync_behind, writes_of_all, opening_writes, frame_writes, closing, writes_in, operations_in}
use Rattle.base_format.proofs.Accepted.{Accepted}
use Rattle.theorem_same_sound.proofs.Course.{Due, next_due, start_due, course_of, Along, along_later, along_whole}
use Rattle.theorem_same_sound.proofs.Gather.{Took, gather, at_start, at_end, done_is, onward_to_lem, take_past, drop_past}
use Rattle.theorem_same_sound.proofs.Phases.{Inside, Ahead, InOpening, InFrame, InClosing, Phase, at_opening, at_frame, at_between, at_closing, at_over}
use Rattle.theorem_same_sound.proofs.Phases.{frames_onward, Begins, begins, first_ahead, due_frame, frame_along, frame_whole, first_along, first_whole, waves_still, writes_over}

-- what playing on gives where `rest` remains of the vsync that begins with `d`
pub record Plays (file : List ℕ) (s : Stream) (d : Due) (rest : List WriteRecord) (room : ℕ) (answer : Checked Played) : Type 0 where
  pub next : Progress
  pub is : answer ≡ ok (record { records = take room rest; complete = leb (length rest) room; next = player_of file s next })
  pub inside : Inside file next
  pub phase : Phase file s next (cond (leb (length rest) room) (next_due file s d) d) (cond (leb (length rest) room) (writes_in s (vsync_behind d.which)) (drop room rest))

pub played_is : {a b : List WriteRecord} {c d : Bool} (next : StreamPlayer) → a ≡ b → c ≡ d
    → ◌≡◌ {A = Checked Played} (ok (record { records = a; complete = c; next = next })) (ok (record { records = b; complete = d; next = next }))
played_is next e f = λ i. ok (record { records = e i; complete = f i; next = next })

-- room for the second of two lists, once the first is taken
leb_shift : (a b room : ℕ) → a ≤ room → leb b (room - a) ≡ leb (a + b) room
leb_shift a b room h = go (leb b (room - a)) refl
  where
    go : (t : Bool) → leb b (room - a) ≡ t → t ≡ leb (a + b) room
    go true e = let fits = leb-true b (room - a) e in sym (le-leb (a + b) room (omega arith))
    go false e = let over = leb-false b (room - a) e in sym (lt-leb (a + b) room (omega arith))

-- A FRAME

module _ (file : List ℕ) (s : Stream) (acc : Accepted file (header_of file) s) where
  -- after the frame's writes were taken: the frame is done, or goes on
  frame_settles : (q p : Progress) (d : Due) (rest : List WriteRecord) (room : ℕ) (inFrame : InFrame file s p d rest) → Inside file p
      → (took : Took file s q (length file) inFrame.end inFrame.left room p rest (course_of s d [])) (done : Bool) → leb (length rest) room ≡ done
      → Inside file (cond done (frame_ended (placed p took.cursor took.index took.writes took.waves)) (placed p took.cursor took.index took.writes took.waves))
      × Phase file s (cond done (frame_ended (placed p took.cursor took.index took.writes took.waves)) (placed p took.cursor took.index took.writes took.waves))
      (cond done (next_due file s d) d) (cond done (writes_in s (vsync_behind d.which)) (drop room rest))
  frame_settles q p d rest room inFrame inside took true e =
      let within = frames_onward file s inFrame.more inFrame.end _ (length file) inFrame.ahead.later in
      let none : took.left' ≡ 0 = eqb-true _ _ (done_is file s (length file) inFrame.end took.left' took.cursor took.writes room rest took.waves (course_of s d []) took.at ∙ e) in
      let ended = at_end file s (length file) inFrame.end took.cursor took.writes (drop room rest) took.waves (course_of s d []) (rw none at took.at) in (
        record { cursor = omega (arith, ended.0); frames = inside.frames; operations = omega arith },
        at_between (record {
          part = refl;
          going = refl;
          initialized = refl;
          more = inFrame.more;
          number = inFrame.number;
          which = inFrame.which;
          ahead = rw ended.0 inFrame.ahead;
          sources = along_whole file s d took.writes took.waves ended.1;
          is = refl;
        }),
      )
  frame_settles q p d rest room inFrame inside took false e =
      let within = frames_onward file s inFrame.more inFrame.end _ (length file) inFrame.ahead.later in
      let behind = onward_to_lem file s (length file) inFrame.end took.left' took.cursor took.at.operations took.at.from in (
        record { cursor = omega arith; frames = inside.frames; operations = omega (arith, took.counted, inFrame.counted) },
        at_frame (record {
          part = inFrame.part;
          going = inFrame.going;
          left = took.left';
          end = inFrame.end;
          more = inFrame.more;
          at = took.at;
          whole = inFrame.whole;
          counted = took.counted ∙ inFrame.counted;
          number = inFrame.number;
          which = inFrame.which;
          ahead = inFrame.ahead;
        }),
      )

  pub frame_plays : (q p : Progress) (d : Due) (rest : List WriteRecord) (room : ℕ) → InFrame file s p d rest → Inside file p → Plays file s d rest room (play_frame (player_of file s q) file room p)
  unfolding play_frame player_of
  frame_plays q p d rest room inFrame inside =
      let took = gather file s acc q (length file) inFrame.end inFrame.left room p rest (course_of s d []) inFrame.at in
      let left : operations_left p ≡ inFrame.left = omega (arith, inFrame.counted) in
      let left' : p.operation_count - took.index ≡ took.left' = omega (arith, took.counted, inFrame.counted) in
      let done : eqb (p.operation_count - took.index) 0 ≡ leb (length rest) room =
      ap (λ (n : ℕ). eqb n 0) left' ∙ done_is file s (length file) inFrame.end took.left' took.cursor took.writes room rest took.waves (course_of s d []) took.at in
      let settled = frame_settles q p d rest room inFrame inside took (leb (length rest) room) refl in
      record {
        next = cond (leb (length rest) room) (frame_ended (placed p took.cursor took.index took.writes took.waves)) (placed p took.cursor took.index took.writes took.waves);
        is = rw (left, took.is, done);
        inside = settled.0;
        phase = settled.1;
      }

  -- a frame that begins
  begun_frame : (d : Due) (k frame more cursor : ℕ) → vsync_behind d.which ≡ later (suc k) → Begins file s k frame more cursor → (p : Progress)
      → Along file s (course_of s d []) 0 (get_or s.frames frame []) p.wave_sources → writes_in s d.which ≡ writes_of_all s.pools (operations_in s d.which)
      → InFrame file s (frame_start file cursor frame p) d (frame_writes s frame) × Inside file (frame_start file cursor frame p)
  begun_frame d k frame more cursor which begun p along whole = (
    record {
      part = refl;
      going = refl;
      left = be 2 file cursor;
      end = begun.next;
      more = more;
      at = begun.at p.wave_sources (course_of s d []) along;
      whole = whole;
      counted = omega arith;
      number = suc k;
      which = which;
      ahead = begun.ahead;
    },
    record { cursor = begun.within; frames = omega (arith, begun.ahead.counted); operations = omega arith },
  )

  pub begin_plays : (p : Progress) (d : Due) (k frame more cursor room : ℕ) → d.which ≡ later k → Ahead file s k frame (suc more) cursor → p.wave_sources ≡ d.waves
      → Plays file s d (writes_in s d.which) room (frame_begun file cursor frame p >>= play_frame (player_of file s p) file room)
  begin_plays p d k frame more cursor room which ahead sources =
      let begun = begins file s acc k frame more cursor ahead in
      let along = frame_along file s acc d k frame more cursor which ahead p.wave_sources sources in
      let now = begun_frame d k frame more cursor (ap vsync_behind which) begun p along (frame_whole file s acc d k frame more cursor which ahead) in
      rw (begun.counts p, due_frame file s acc d k frame more cursor which ahead) (frame_plays p (frame_start file cursor frame p) d (frame_writes s frame) room now.0 now.1)

  -- THE OPENING

  -- the frames are at least one
  pub one_frame : (more : ℕ) × ((header_of file).frame_count ≡ suc more)
  one_frame = go (header_of file).frame_count acc.some_frame
    where
      go : (n : ℕ) → 0 < n → (more : ℕ) × (n ≡ suc more)
      go zero h = absurd (omega arith)
      go (suc n) h = (n, refl)

  -- the opening goes on: the room ended within it
  opening_stays : (q p : Progress) (d : Due) (rest : List WriteRecord) (room : ℕ) (inOpening : InOpening file s p d rest) → Inside file p
      → (took : Took file s q (opening_limit (header_of file) file) (header_of file).frame_start inOpening.left room p inOpening.pending (course_of s d (get_or s.frames 0 [])))
      → leb (length inOpening.pending) room ≡ false → Plays file s d rest room (play_opening (player_of file s q) file room p)
  unfolding play_opening player_of
  opening_stays q p d rest room inOpening inside took e =
      let pending : List WriteRecord = inOpening.pending in
      let left : operations_left p ≡ inOpening.left = omega (arith, inOpening.counted) in
      let left' : p.operation_count - took.index ≡ took.left' = omega (arith, took.counted, inOpening.counted) in
      let done : eqb (p.operation_count - took.index) 0 ≡ false =
      ap (λ (n : ℕ). eqb n 0) left' ∙ done_is file s _ _ took.left' took.cursor took.writes room pending took.waves (course_of s d (get_or s.frames 0 [])) took.at ∙ e in
      let long : room < length pending = leb-false _ _ e in
      let total : length rest ≡ length pending + length (frame_writes s 0) = ap length inOpening.is ∙ length-append pending (frame_writes s 0) in
      let unfinished : leb (length rest) room ≡ false = lt-leb (length rest) room (omega arith) in
      let taken : take room pending ≡ take room rest = sym (ap (take room) inOpening.is ∙ take-append-le room pending (frame_writes s 0) (omega arith)) in
      let over : drop room rest ≡ drop room pending ++ frame_writes s 0 = ap (drop room) inOpening.is ∙ drop-append-le room pending (frame_writes s 0) (omega arith) in
      let behind = onward_to_lem file s _ (header_of file).frame_start took.left' took.cursor took.at.operations took.at.from in
      record {
        next = placed p took.cursor took.index took.writes took.waves;
        is = rw (left, took.is, done) (played_is _ taken (sym unfinished));
        inside = record { cursor = omega (arith, acc.first_within); frames = inside.frames; operations = omega (arith, took.counted, inOpening.counted) };
        phase = rw unfinished (at_opening (record {
          part = inOpening.part;
          going = inOpening.going;
          left = took.left';
          pending = drop room pending;
          at = took.at;
          counted = took.counted ∙ inOpening.counted;
          which = inOpening.which;
          is = over;
        }));
      }

  opening_ends : (q p : Progress) (d : Due) (rest : List WriteRecord) (room : ℕ) (inOpening : InOpening file s p d rest) → Inside file p
      → (took : Took file s q (opening_limit (header_of file) file) (header_of file).frame_start inOpening.left room p inOpening.pending (course_of s d (get_or s.frames 0 [])))
      → leb (length inOpening.pending) room ≡ true → Plays file s d rest room (play_opening (player_of file s q) file room p)
  unfolding play_opening player_of
  opening_ends q p d rest room inOpening inside took e =
      let pending : List WriteRecord = inOpening.pending in
      let left : operations_left p ≡ inOpening.left = omega (arith, inOpening.counted) in
      let left' : p.operation_count - took.index ≡ took.left' = omega (arith, took.counted, inOpening.counted) in
      let done : eqb (p.operation_count - took.index) 0 ≡ true =
      ap (λ (n : ℕ). eqb n 0) left' ∙ done_is file s _ _ took.left' took.cursor took.writes room pending took.waves (course_of s d (get_or s.frames 0 [])) took.at ∙ e in
      let enough : length pending ≤ room = leb-true _ _ e in
      let gathering : Progress = placed p took.cursor took.index took.writes took.waves in
      let begun = begins file s acc 0 0 one_frame.0 (header_of file).frame_start (subst (λ (n : ℕ). Ahead file s 0 0 n (header_of file).frame_start) one_frame.1 (first_ahead file s acc)) in
      let none : took.left' ≡ 0 = eqb-true _ _ (done_is file s _ _ took.left' took.cursor took.writes room pending took.waves (course_of s d (get_or s.frames 0 [])) took.at ∙ e) in
      let ended = at_end file s _ _ took.cursor took.writes (drop room pending) took.waves (course_of s d (get_or s.frames 0 [])) (rw none at took.at) in
      let now = begun_frame d 0 0 one_frame.0 (header_of file).frame_start (ap vsync_behind inOpening.which) begun gathering
      (along_later file s d (get_or s.frames 0 []) took.writes took.waves ended.1) (rw inOpening.which (first_whole s)) in
      let plays = frame_plays q (frame_start file (header_of file).frame_start 0 gathering) d (frame_writes s 0) (room - length pending) now.0 now.1 in
      let total : length rest ≡ length pending + length (frame_writes s 0) = ap length inOpening.is ∙ length-append pending (frame_writes s 0) in
      let whole : leb (length (frame_writes s 0)) (room - length pending) ≡ leb (length rest) room = leb_shift (length pending) _ room enough ∙ ap (λ (n : ℕ). leb n room) (sym total) in
      let taken : take room pending ++ take (room - length pending) (frame_writes s 0) ≡ take room rest =
      ap (λ (l : List WriteRecord). l ++ take (room - length pending) (frame_writes s 0)) (take_all room pending enough)
      ∙ sym (ap (take room) inOpening.is ∙ take_past room pending (frame_writes s 0) enough) in
      let over : drop room rest ≡ drop (room - length pending) (frame_writes s 0) = ap (drop room) inOpening.is ∙ drop_past room pending (frame_writes s 0) enough in
      record {
        next = plays.next;
        is = rw (left, took.is, done, begun.counts gathering, plays.is) (played_is _ taken whole);
        inside = plays.inside;
        phase = rw (← whole, over) plays.phase;
      }

  pub opening_plays : (q p : Progress) (d : Due) (rest : List WriteRecord) (room : ℕ) → InOpening file s p d rest → Inside file p
      → Plays file s d rest room (play_opening (player_of file s q) file room p)
  opening_plays q p d rest room inOpening inside =
      go (leb (length inOpening.pending) room) refl
    where
      took : Took file s q (opening_limit (header_of file) file) (header_of file).frame_start inOpening.left room p inOpening.pending (course_of s d (get_or s.frames 0 []))
      took = gather file s acc q (opening_limit (header_of file) file) (header_of file).frame_start inOpening.left room p inOpening.pending (course_of s d (get_or s.frames 0 [])) inOpening.at

      go : (done : Bool) → leb (length inOpening.pending) room ≡ done → Plays file s d rest room (play_opening (player_of file s q) file room p)
      go true e = opening_ends q p d rest room inOpening inside took e
      go false e = opening_stays q p d rest room inOpening inside took e

  pub first_plays : (p : Progress) (room : ℕ) → p.wave_sources ≡ start_due.waves
      → Plays file s start_due (writes_in s first) room (play_opening (player_of file s p) file room (opening_begun (header_of file) p))
  unfolding writes_in
  first_plays p room sources =
      opening_plays p (opening_begun (header_of file) p) start_due (writes_in s first) room (record {
        part = refl;
        going = refl;
        left = (header_of file).initial_count;
        pending = opening_writes s;
        at = at_start file s acc _ (header_of file).frame_start (header_of file).initial_count (header_of file).initial_start s.opening acc.opening
            p.wave_sources (course_of s start_due (get_or s.frames 0 []))
            (first_along file s start_due refl p.wave_sources sources);
        counted = omega arith;
        which = refl;
        is = refl;
      }) (record { cursor = omega (arith, acc.opening_first, acc.first_within); frames = omega arith; operations = omega arith })

  -- THE CLOSING WRITES

  closing_settles : (p : Progress) (d : Due) (room : ℕ) → s.repeat ≡ false → d.which ≡ later (length s.frames) → p.write_index ≤ length (closing s)
      → p.wave_sources ≡ d.waves → (done : Bool) → leb (length (drop p.write_index (closing s))) room ≡ done
      → Phase file s (closing_at (p.write_index + length (take room (drop p.write_index (closing s)))) done p) (cond done (next_due file s d) d)
      (cond done (writes_in s (vsync_behind d.which)) (drop room (drop p.write_index (closing s))))
  closing_settles p d room once which within sources true e =
      let taken = length-take room (drop p.write_index (closing s)) in
      at_over (record {
        over = refl;
        once = once;
        number = suc (length s.frames);
        which = ap vsync_behind which;
        last = omega arith;
        within = omega (arith, taken, length-drop p.write_index (closing s));
        sources = sources ∙ sym (waves_still file s once d (length s.frames) which (omega arith));
        is = ap (λ (t : WhichVsync). writes_in s (vsync_behind t)) which ∙ writes_over s once (suc (length s.frames)) (omega arith);
      })
  closing_settles p d room once which within sources false e =
      let long : room < length (drop p.write_index (closing s)) = leb-false _ _ e in
      let taken : length (take room (drop p.write_index (closing s))) ≡ room = omega (arith, length-take room (drop p.write_index (closing s))) in
      at_closing (record {
        part = refl;
        going = refl;
        once = once;
        which = which;
        within = omega (arith, length-drop p.write_index (closing s));
        sources = sources;
        is = drop-drop room p.write_index (closing s) ∙ ap (λ (n : ℕ). drop (p.write_index + n) (closing s)) (sym taken);
      })

  pub closing_plays : (q p : Progress) (d : Due) (rest : List WriteRecord) (room : ℕ) → InClosing file s p d rest → Inside file p → Plays file s d rest room (play_closing (player_of file s q) room p)
  unfolding play_closing player_of closing
  closing_plays q p d rest room inClosing inside =
      subst (λ (r : List WriteRecord). Plays file s d r room (play_closing (player_of file s q) room p)) (sym inClosing.is) (record {
        next = closing_at (p.write_index + length (take room (drop p.write_index (closing s)))) (leb (length (drop p.write_index (closing s))) room) p;
        is = rw (le-ltb (length (closing s)) p.write_index inClosing.within);
        inside = record { cursor = inside.cursor; frames = inside.frames; operations = omega arith };
        phase = closing_settles p d room inClosing.once inClosing.which inClosing.within inClosing.sources (leb (length (drop p.write_index (closing s))) room) refl;
      })
