-- The call of a state goes on with the part that `playing_part_of` says.
use Prim.Native.Nat.{ℕ, ◌+◌}
use mathlib.Core.Bool.{Bool, true, false, cond}
use mathlib.Core.List.{List}
use mathlib.Core.Path.{◌≡◌, sym, ap, ◌∙◌}
use lib.Dec.{eqb, ltb}
use lib.ListN.{length}
use Rattle.std.specs.Prelude.{Some}
use Rattle.base_format.specs.declared.header.Header.{Header}
use Rattle.base_format.specs.declared.player.Part.TheVariants.{Opening}
use Rattle.base_format.specs.declared.player.Progress.{Progress}
use Rattle.base_format.specs.declared.player.StreamPlayer.{StreamPlayer}
use Rattle.base_format.specs.Checked.{Checked, ok, refuse, ◌>>=◌, ◌>>◌}
use Rattle.base_format.specs.Player.{Played, opening_begun, frame_start, frame_begun, play_frame, play_opening, play, belongs, as25, call}
use Rattle.base_format.specs.State.{part_of, part_number, opening_from}
use Rattle.base_format.proofs.Checks.{cond_false}
use Rattle.base_format.proofs.Next.{next_unbegun, next_frame_begun}
use Rattle.play_belongs.proofs.Belongs.{foreign_is}
use Rattle.play_fast_part.specs.declared.PlayingPart.{PlayingPart}
use Rattle.play_fast_part.specs.PlayingPart.{going_on, frame_on, playing_part_of, playing}
use Rattle.play_fast_part.proofs.Found.{Way, opens, begins, opening, frame, playing_part_found}

-- THE PROGRESS IN A PART THAT BEGINS

opening_playing : (header : Header) (limit : ℕ) (p : Progress) → p.initialized ≡ false → p.finished ≡ false → opening_begun header p ≡ playing p (going_on limit (opening_from header))
opening_playing header limit p on unfinished = rw (on, unfinished)

frame_playing : (file : List ℕ) (place number : ℕ) (p : Progress) → p.initialized ≡ true → p.finished ≡ false → frame_start file place number p ≡ playing p (frame_on file place number)
frame_playing file place number p on unfinished = rw (on, unfinished)

-- THE PART

module _ (state : StreamPlayer) (file : List ℕ) (room : ℕ) where
  -- the opening or a frame goes on
  abbrev goes_on : Progress → PlayingPart → Checked Played
  goes_on p c = cond (eqb c.at.part (part_number Opening)) (play_opening state file room (playing p c)) (play_frame state file room (playing p c))

  frame_begins : (p : Progress) (place number : ℕ) → p.initialized ≡ true → p.finished ≡ false → ltb (length file) (place + 2) ≡ false
      → (frame_begun file place number p >>= play_frame state file room) ≡ play_frame state file room (playing p (frame_on file place number))
  unfolding frame_begun
  frame_begins p place number on unfinished long =
      ap (λ (short : Bool). (refuse 14 place short >> ok (frame_start file place number p)) >>= play_frame state file room) long ∙ ap (play_frame state file room) (frame_playing file place number p on unfinished)

  part_goes_on : (p : Progress) (c : PlayingPart) → p.finished ≡ false → Way file state.header p c → play state file room p (part_of p.part) ≡ goes_on p c
  unfolding play
  part_goes_on p c unfinished (opens between first e) =
      rw (between, e, first) (ap (play_opening state file room) (opening_playing state.header c.limit p (next_unbegun state.header p first) unfinished))
  part_goes_on p c unfinished (begins between place number framed long e) =
      rw (between, e, framed) (frame_begins p place number (next_frame_begun state.header p place number framed) unfinished long)
  part_goes_on p c unfinished (opening between first e) = rw (between, first, e, first)
  part_goes_on p c unfinished (frame between first framed on e) = rw (between, first, framed, e, first)

  -- THE CALL

  pub playing_part_call : (c : PlayingPart) → Some c ≡ playing_part_of file state.header state.cards.count state.progress → call state file room ≡ as25 (goes_on state.progress c)
  unfolding call
  playing_part_call c e =
      let found = playing_part_found file state.header state.progress c state.cards.count e in
      let own : belongs state file ≡ ok tt = sym (foreign_is state file) ∙ ap (refuse 25 0) found.own in
      cond_false state.progress.finished _ _ found.unfinished
      ∙ ap as25 (ap (λ (b : Checked (Unit {0})). b >> play state file room state.progress (part_of state.progress.part)) own ∙ part_goes_on state.progress c found.unfinished found.way)
