-- A jump with the player's own file: what it gives on every state that such a player reaches.
use Prim.Native.Nat.{ℕ, suc, ◌+◌, ◌-◌, ◌≤◌, ◌<◌}
use mathlib.Core.Bool.{false, not}
use mathlib.Core.List.{List}
use mathlib.Core.Path.{◌≡◌, refl, sym, ap, subst}
use native.Mathlib.Nat.{zero-mul}
use native.Mathlib.Omega.{arith}
use borrow.Author.Tests.{ne_eqb, le-ltb, ltb-false}
use lib.Dec.{eqb, ltb}
use lib.ListN.{length, drop}
use Rattle.base_format.specs.declared.operation.WriteRecord.{WriteRecord}
use Rattle.base_format.specs.declared.player.Part.{Part}
use Rattle.base_format.specs.declared.player.Part.TheVariants.{Between, Opening, Frame, Closing}
use Rattle.base_format.specs.declared.player.Progress.{Progress}
use Rattle.base_format.specs.declared.player.StreamPlayer.{StreamPlayer}
use Rattle.base_format.specs.Bytes.{byte, same_bytes}
use Rattle.base_format.specs.Checked.{ok, refused, refuse, ◌>>◌}
use Rattle.base_format.specs.Header.{header_of}
use Rattle.base_format.specs.Index.{frame_place, index_of}
use Rattle.base_format.specs.Jump.{records_other, closing_past, jump_belongs, before_frame, no_frame, jumped}
use Rattle.base_format.specs.Player.{belongs}
use Rattle.base_format.specs.State.{part_of, unplayed, player_of, refused_player, moved}
use Rattle.base_format.specs.Steps.{vsync_of_frame}
use Rattle.base_format.specs.Stream.{Stream, read}
use Rattle.base_format.specs.Writes.{later, frame_writes, closing, writes_in, uses_si22}
use Rattle.base_format.proofs.Accepted.{Accepted, HeaderOk, accepted, header_ok}
use Rattle.base_format.proofs.Cards.{table_cards}
use Rattle.base_format.proofs.Checks.{or_false, positive}
use Rattle.base_format.proofs.Equal.{bool_self}
use Rattle.index_laws.proofs.Index.{header_room}
use Rattle.index_laws.proofs.Places.{frame_count, frames_at_lem}
use Rattle.theorem_same_sound.proofs.Course.{Due}
use Rattle.theorem_same_sound.proofs.Phases.{Ahead, Phase, at_start_of_all, at_opening, at_frame, at_between, at_closing, at_over, Holds, belongs_own, frames_onward, writes_frame}
use Rattle.theorem_same_sound.proofs.Recorded.{header_self, cards_self}

-- THE TESTS OF 25 PASS

own_recorded : (file : List ℕ) (s : Stream) (p : Progress) → records_other (player_of file s p) file s ≡ false
unfolding records_other player_of
own_recorded file s p = rw (header_self (header_of file), table_cards s.cards, cards_self s.cards, bool_self (uses_si22 s))

within_none : (file : List ℕ) (s : Stream) (p : Progress) (part : Part) → p.write_index ≤ length (closing s) → closing_past (player_of file s p) part ≡ false
unfolding closing_past player_of closing
within_none file s p Between h = refl
within_none file s p Opening h = refl
within_none file s p Frame h = refl
within_none file s p Closing h = le-ltb _ _ h

closing_within : (file : List ℕ) (s : Stream) (p : Progress) (d : Due) (rest : List WriteRecord) → Phase file s p d rest → closing_past (player_of file s p) (part_of p.part) ≡ false
unfolding closing_past unplayed
closing_within file s p d rest (at_start_of_all e due is) = ap (λ (q : Progress). closing_past (player_of file s p) (part_of q.part)) e
closing_within file s p d rest (at_opening phase) = ap (closing_past (player_of file s p)) phase.part
closing_within file s p d rest (at_frame phase) = ap (closing_past (player_of file s p)) phase.part
closing_within file s p d rest (at_between phase) = ap (closing_past (player_of file s p)) phase.part
closing_within file s p d rest (at_closing phase) = within_none file s p (part_of p.part) phase.within
closing_within file s p d rest (at_over phase) = within_none file s p (part_of p.part) phase.within

module _ (file : List ℕ) (s : Stream) (e : read file ≡ ok s) where
  acc : Accepted file (header_of file) s
  acc = (accepted file s e).0

  header : HeaderOk (header_of file)
  header = header_ok file (accepted file s e).1

  own_belongs : (state : StreamPlayer) (d : Due) (rest : List WriteRecord) → Holds file s state d rest → jump_belongs state file s ≡ ok tt
  unfolding jump_belongs player_of
  own_belongs state d rest holds =
      let p = holds.progress in
      subst (λ (st : StreamPlayer). jump_belongs st file s ≡ ok tt) (sym holds.is)
      (rw (belongs_own file s acc header p holds.inside, closing_within file s p d rest holds.phase, own_recorded file s p))

  -- WHAT A JUMP WITH THE OWN FILE GIVES: never 25; 26 exactly where the index is not the own one, and then 27 exactly for 0 and above the count
  pub own_jump : (state : StreamPlayer) (d : Due) (rest : List WriteRecord) → Holds file s state d rest → (index : List ℕ) (frame : ℕ)
      → jumped state file index frame
      ≡ (refuse 26 0 (not (same_bytes index (index_of s))) >> (refuse 27 0 (no_frame (length s.frames) frame) >> ok (moved state (before_frame s (frame - 1) state.progress))))
  unfolding jumped
  own_jump state d rest holds index frame = rw (e, own_belongs state d rest holds)

  -- what the vsync behind a jump begins with: the wave sources stay
  abbrev pub jump_due : StreamPlayer → (frame : ℕ) → Due
  jump_due state frame = record { which = vsync_of_frame frame; waves = state.progress.wave_sources }

  -- that frame and the later ones are ahead, from the place that the jump sets
  ahead : (frame : ℕ) → frame < length s.frames → (more : ℕ) × Ahead file s frame frame (suc more) (frame_place s frame)
  ahead frame less =
      let more = length s.frames - suc frame in
      let counted : frame + suc more ≡ (header_of file).frame_count = omega (arith, frame_count file s acc) in
      (more, record { passes = 0; once = λ e. refl; counted = counted; vsyncs = rw zero-mul (omega arith); later = frames_at_lem file s acc frame (suc more) counted })

  -- a state that is reached by a jump holds, before that frame's vsync
  frame_holds : (state : StreamPlayer) (d : Due) (rest : List WriteRecord) → Holds file s state d rest → (frame : ℕ) → frame < length s.frames
      → Holds file s (moved state (before_frame s frame state.progress)) (record { which = later frame; waves = state.progress.wave_sources }) (writes_in s (later frame))
  unfolding player_of
  frame_holds state d rest holds frame less =
      let found = ahead frame less in
      let within = frames_onward file s (suc found.0) (frame_place s frame) (drop frame s.frames) (length file) found.1.later in
      let before = before_frame s frame state.progress in
      record {
        progress = before;
        is = ap (λ (st : StreamPlayer). moved st before) holds.is;
        inside = record { cursor = within; frames = omega (arith, found.1.counted); operations = omega arith };
        phase = at_between (record {
          part = refl;
          going = refl;
          initialized = refl;
          more = suc found.0;
          number = frame;
          which = refl;
          ahead = found.1;
          sources = refl;
          is = refl;
        });
      }

  -- a frame number that is not refused
  frame_exists : (frame : ℕ) → no_frame (length s.frames) frame ≡ false → frame - 1 < length s.frames
  frame_exists frame h =
      let both = or_false (eqb frame 0) (ltb (length s.frames) frame) h in
      omega (arith, positive frame both.0, ltb-false (length s.frames) frame both.1)

  pub jump_holds : (state : StreamPlayer) (d : Due) (rest : List WriteRecord) → Holds file s state d rest → (frame : ℕ) → no_frame (length s.frames) frame ≡ false
      → Holds file s (moved state (before_frame s (frame - 1) state.progress)) (jump_due state frame) (writes_in s (vsync_of_frame frame))
  jump_holds state d rest holds frame h = frame_holds state d rest holds (frame - 1) (frame_exists frame h)

  -- the vsync behind it plays that frame, and no opening
  pub jump_writes : (frame : ℕ) → no_frame (length s.frames) frame ≡ false → writes_in s (vsync_of_frame frame) ≡ frame_writes s (frame - 1)
  jump_writes frame h =
      let found = ahead (frame - 1) (frame_exists frame h) in
      writes_frame file s acc (frame - 1) (frame - 1) found.0 (frame_place s (frame - 1)) found.1

-- the state of a refused start: 25 for every file that passes 1 to 20
pub refused_start_jump : (file index : List ℕ) (s : Stream) (frame : ℕ) → read file ≡ ok s → jumped refused_player file index frame ≡ refused 25 0
unfolding jumped jump_belongs belongs refused_player
refused_start_jump file index s frame e =
    let room = (accepted file s e).1.room in
    rw (e, ne_eqb (length file) 0 (λ none. omega (arith, none, header_room (byte file 4), room)))
