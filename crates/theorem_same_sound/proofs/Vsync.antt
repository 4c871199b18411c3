-- The one lemma: a call with its own file gives as many of the vsync's remaining writes as there is room for.
use Prim.Native.Nat.{ℕ, zero, suc, ◌+◌, ◌*◌, ◌≤◌, ◌<◌}
use mathlib.Core.Bool.{Bool, true, false, cond, not, false≢true}
use mathlib.Core.List.{List, []}
use mathlib.Core.Path.{◌≡◌, refl, sym, ap, subst, ◌∙◌}
use native.Mathlib.Omega.{arith}
use borrow.Author.Tests.{le-ltb, lt-ltb}
use lib.Dec.{ltb, leb-zero}
use lib.ListN.{length}
use lib.Seq.{take-nil}
use Rattle.base_format.specs.declared.player.NextPart.{NextPart}
use Rattle.base_format.specs.declared.player.Part.{Part}
use Rattle.base_format.specs.declared.player.Part.TheVariants.{Between}
use Rattle.base_format.specs.declared.player.Progress.{Progress}
use Rattle.base_format.specs.declared.player.StreamPlayer.{StreamPlayer}
use Rattle.base_format.specs.declared.operation.WriteRecord.{WriteRecord}
use Rattle.base_format.specs.Checked.{Checked, ok, ◌>>=◌, ◌>>◌}
use Rattle.base_format.specs.Header.{header_of}
use Rattle.base_format.specs.Next.{frame_next, opening_next, closing_next, next_part, by_next}
use Rattle.base_format.specs.Player.{Played, opening_begun, frame_begun, closing_at, play_frame, play_opening, play_closing, play, belongs, as25, call}
use Rattle.base_format.specs.State.{part_of, unplayed, player_of, started_as, started}
use Rattle.base_format.specs.Stream.{Stream, read}
use Rattle.base_format.specs.Writes.{WhichVsync, first, later, vsync_behind, closing, writes_in}
use Rattle.base_format.proofs.Accepted.{Accepted, HeaderOk, accepted, header_ok}
use Rattle.index_laws.proofs.Places.{frame_count}
use Rattle.theorem_same_sound.proofs.Heard.{Goes}
use Rattle.theorem_same_sound.proofs.Course.{Due, start_due}
use Rattle.theorem_same_sound.proofs.Phases.{Inside, Ahead, Over, Phase, at_start_of_all, at_opening, at_frame, at_between, at_closing, at_over, Holds, belongs_own}
use Rattle.theorem_same_sound.proofs.Phases.{again_ahead, waves_still, writes_closing, writes_over}
use Rattle.theorem_same_sound.proofs.Parts.{Plays, played_is, frame_plays, begin_plays, opening_plays, first_plays, closing_plays, one_frame}

module _ (file : List ℕ) (s : Stream) (acc : Accepted file (header_of file) s) where
  -- BETWEEN VSYNCS

  -- the parts that a vsync can begin with
  abbrev next_frame : Progress → ℕ → Checked Played
  next_frame p room = frame_begun file p.cursor p.frame_index p >>= play_frame (player_of file s p) file room

  abbrev first_frame : Progress → ℕ → Checked Played
  first_frame p room = frame_begun file (header_of file).frame_start 0 p >>= play_frame (player_of file s p) file room

  abbrev closes : Progress → ℕ → Checked Played
  closes p room = play_closing (player_of file s p) room (closing_at 0 false p)

  abbrev plays_next : Progress → ℕ → NextPart → Checked Played
  plays_next p room next =
      by_next next (play_opening (player_of file s p) file room (opening_begun (header_of file) p))
      (λ (place frame : ℕ). frame_begun file place frame p >>= play_frame (player_of file s p) file room) (closes p room)

  opened : (p : Progress) (room : ℕ) → p.initialized ≡ true
      → play (player_of file s p) file room p Between
      ≡ cond (ltb p.frame_index (header_of file).frame_count) (next_frame p room) (cond (header_of file).repeat (first_frame p room) (closes p room))
  unfolding play player_of next_part
  opened p room e =
      ap (λ (on : Bool). plays_next p room (cond (not on) opening_next (onward (ltb p.frame_index (header_of file).frame_count) (header_of file).repeat))) e
      ∙ go (ltb p.frame_index (header_of file).frame_count) (header_of file).repeat
    where
      onward : (more again : Bool) → NextPart
      onward more again = cond more (frame_next p.cursor p.frame_index) (cond again (frame_next (header_of file).frame_start 0) closing_next)

      go : (more again : Bool) → plays_next p room (onward more again) ≡ cond more (next_frame p room) (cond again (first_frame p room) (closes p room))
      go true again = refl
      go false true = refl
      go false false = refl

  after_last : (p : Progress) (d : Due) (k room : ℕ) → d.which ≡ later k → Ahead file s k p.frame_index 0 p.cursor → Inside file p → p.wave_sources ≡ d.waves
      → (again : Bool) → (header_of file).repeat ≡ again → Plays file s d (writes_in s d.which) room (cond again (first_frame p room) (closes p room))
  unfolding closing
  after_last p d k room which ahead inside sources true e =
      let start = subst (λ (n : ℕ). Ahead file s k 0 n (header_of file).frame_start) (one_frame file s acc).1 (again_ahead file s acc (acc.repeat ∙ e) k p.frame_index p.cursor ahead) in
      begin_plays file s acc p d k 0 (one_frame file s acc).0 (header_of file).frame_start room which start sources
  after_last p d k room which ahead inside sources false e =
      let once : s.repeat ≡ false = acc.repeat ∙ e in
      let number : k ≡ 0 * (header_of file).frame_count + p.frame_index = ahead.vsyncs ∙ ap (λ (m : ℕ). m * (header_of file).frame_count + p.frame_index) (ahead.once once) in
      let last : k ≡ length s.frames = omega (arith, frame_count file s acc, ahead.counted) in
      closing_plays file s acc p (closing_at 0 false p) d (writes_in s d.which) room (record {
        part = refl;
        going = refl;
        once = once;
        which = which ∙ ap later last;
        within = omega arith;
        sources = sources;
        is = ap (writes_in s) which ∙ writes_closing s once k last;
      }) (record { cursor = inside.cursor; frames = inside.frames; operations = omega arith })

  between_plays : (p : Progress) (d : Due) (k room more : ℕ) → p.initialized ≡ true → d.which ≡ later k → Ahead file s k p.frame_index more p.cursor → Inside file p
      → p.wave_sources ≡ d.waves → Plays file s d (writes_in s d.which) room (play (player_of file s p) file room p Between)
  between_plays p d k room (suc more) initialized which ahead inside sources =
      let less : p.frame_index < (header_of file).frame_count = omega (arith, ahead.counted) in
      let begin = opened p room initialized ∙ ap (λ (b : Bool). cond b (next_frame p room) (cond (header_of file).repeat (first_frame p room) (closes p room))) (lt-ltb _ _ less) in
      rw begin (begin_plays file s acc p d k p.frame_index more p.cursor room which ahead sources)
  between_plays p d k room zero initialized which ahead inside sources =
      let none : (header_of file).frame_count ≤ p.frame_index = omega (arith, ahead.counted) in
      let begin = opened p room initialized ∙ ap (λ (b : Bool). cond b (next_frame p room) (cond (header_of file).repeat (first_frame p room) (closes p room))) (le-ltb _ _ none) in
      rw begin (after_last p d k room which ahead inside sources (header_of file).repeat refl)

  -- THE CALL

  abbrev PlaysAs : Progress → Due → List WriteRecord → ℕ → Part → Type 0
  PlaysAs p d rest room part = Plays file s d rest room (play (player_of file s p) file room p part)

  start_plays : (room : ℕ) → PlaysAs (unplayed false (header_of file).frame_start) start_due (writes_in s first) room (part_of (unplayed false (header_of file).frame_start).part)
  unfolding play next_part player_of unplayed
  start_plays room = first_plays file s acc (unplayed false (header_of file).frame_start) room refl

  -- a state that is not finished plays on
  phase_plays : (p : Progress) (d : Due) (rest : List WriteRecord) (room : ℕ) → Inside file p → Phase file s p d rest → p.finished ≡ false → PlaysAs p d rest room (part_of p.part)
  unfolding play
  phase_plays p d rest room inside (at_start_of_all e none is) going =
      subst (λ (p : Progress). PlaysAs p d rest room (part_of p.part)) (sym e) (rw (none, is) (start_plays room))
  phase_plays p d rest room inside (at_opening phase) going =
      subst (PlaysAs p d rest room) (sym phase.part) (opening_plays file s acc p p d rest room phase inside)
  phase_plays p d rest room inside (at_frame phase) going =
      subst (PlaysAs p d rest room) (sym phase.part) (frame_plays file s acc p p d rest room phase inside)
  phase_plays p d rest room inside (at_between phase) going =
      subst (PlaysAs p d rest room) (sym phase.part)
      (subst (λ (r : List WriteRecord). PlaysAs p d r room Between) (sym phase.is)
      (between_plays p d phase.number room phase.more phase.initialized phase.which phase.ahead inside phase.sources))
  phase_plays p d rest room inside (at_closing phase) going =
      subst (PlaysAs p d rest room) (sym phase.part) (closing_plays file s acc p p d rest room phase inside)
  phase_plays p d rest room inside (at_over phase) going = absurd (false≢true (sym going ∙ phase.over))

  -- a finished state is over
  finished_over : (p : Progress) (d : Due) (rest : List WriteRecord) → Phase file s p d rest → p.finished ≡ true → Over file s p d rest
  unfolding unplayed
  finished_over p d rest (at_start_of_all e none is) h = absurd (false≢true (sym (ap (λ (p : Progress). p.finished) e) ∙ h))
  finished_over p d rest (at_opening phase) h = absurd (false≢true (sym phase.going ∙ h))
  finished_over p d rest (at_frame phase) h = absurd (false≢true (sym phase.going ∙ h))
  finished_over p d rest (at_between phase) h = absurd (false≢true (sym phase.going ∙ h))
  finished_over p d rest (at_closing phase) h = absurd (false≢true (sym phase.going ∙ h))
  finished_over p d rest (at_over phase) h = phase

  call_finished : (p : Progress) (room : ℕ) → p.finished ≡ true → call (player_of file s p) file room ≡ ok (record { records = []; complete = true; next = player_of file s p })
  unfolding call player_of
  call_finished p room h =
      ap (λ (b : Bool). cond b (ok (record { records = []; complete = true; next = player_of file s p })) (as25 (belongs (player_of file s p) file >> play (player_of file s p) file room p (part_of p.part)))) h

  call_going : (p : Progress) (room : ℕ) → p.finished ≡ false → call (player_of file s p) file room ≡ as25 (belongs (player_of file s p) file >> play (player_of file s p) file room p (part_of p.part))
  unfolding call player_of
  call_going p room h =
      ap (λ (b : Bool). cond b (ok (record { records = []; complete = true; next = player_of file s p })) (as25 (belongs (player_of file s p) file >> play (player_of file s p) file room p (part_of p.part)))) h

  abbrev Called : Progress → Due → List WriteRecord → ℕ → Type 0
  Called p d rest room = Goes file s d rest room (call (player_of file s p) file room)

  over_goes : (p : Progress) (d : Due) (rest : List WriteRecord) (room : ℕ) → Inside file p → Over file s p d rest → Called p d rest room
  over_goes p d rest room inside over =
      subst (λ (r : List WriteRecord). Called p d r room) (sym over.is) (record {
        next = player_of file s p;
        is = call_finished p room over.over ∙ played_is _ (sym (take-nil room)) (sym (leb-zero room));
        holds = rw (leb-zero room) (record {
          progress = p;
          is = refl;
          inside = inside;
          phase = at_over (record {
            over = over.over;
            once = over.once;
            number = suc over.number;
            which = ap vsync_behind over.which;
            last = omega (arith, over.last);
            within = over.within;
            sources = over.sources ∙ sym (waves_still file s over.once d over.number over.which (omega (arith, over.last)));
            is = ap (λ (t : WhichVsync). writes_in s (vsync_behind t)) over.which ∙ writes_over s over.once (suc over.number) (omega (arith, over.last));
          });
        });
      })

  going_goes : (p : Progress) (d : Due) (rest : List WriteRecord) (room : ℕ) → HeaderOk (header_of file) → Inside file p → p.finished ≡ false
      → PlaysAs p d rest room (part_of p.part) → Called p d rest room
  going_goes p d rest room header inside going plays =
      record {
        next = player_of file s plays.next;
        is = call_going p room going ∙ rw (belongs_own file s acc header p inside, plays.is);
        holds = record { progress = plays.next; is = refl; inside = plays.inside; phase = plays.phase };
      }

  called : (p : Progress) (d : Due) (rest : List WriteRecord) (room : ℕ) → HeaderOk (header_of file) → Inside file p → Phase file s p d rest → Called p d rest room
  called p d rest room header inside phase = go p.finished refl
    where
      go : (b : Bool) → p.finished ≡ b → Called p d rest room
      go true e = over_goes p d rest room inside (finished_over p d rest phase e)
      go false e = going_goes p d rest room header inside e (phase_plays p d rest room inside phase e)

-- THE ONE LEMMA

pub one_lemma : (file : List ℕ) (s : Stream) → read file ≡ ok s → (state : StreamPlayer) (d : Due) (rest : List WriteRecord) → Holds file s state d rest → (room : ℕ)
    → Goes file s d rest room (call state file room)
one_lemma file s e state d rest holds room =
    let both = accepted file s e in
    subst (λ (st : StreamPlayer). Goes file s d rest room (call st file room)) (sym holds.is)
    (called file s both.0 holds.progress d rest room (header_ok file both.1) holds.inside holds.phase)

-- a start holds
pub start_holds : (file : List ℕ) (s : Stream) → read file ≡ ok s → Holds file s (started file) start_due (writes_in s first)
unfolding started_as unplayed
start_holds file s e =
    let both = accepted file s e in
    record {
      progress = unplayed false (header_of file).frame_start;
      is = rw e;
      inside = record { cursor = both.0.first_within; frames = omega arith; operations = omega arith };
      phase = at_start_of_all refl refl refl;
    }
