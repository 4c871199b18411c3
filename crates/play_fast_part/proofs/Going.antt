-- What holds of a part that a call goes on with: its limit stands in the file, and its count is not passed.
use Prim.Native.Nat.{ℕ, ◌≤◌}
use mathlib.Core.Bool.{true, false}
use mathlib.Core.List.{List}
use mathlib.Core.Path.{◌≡◌, refl}
use native.Mathlib.Omega.{arith}
use borrow.Author.Tests.{eqb-true}
use lib.ListN.{length}
use Rattle.std.specs.Prelude.{Some}
use Rattle.base_format.specs.declared.header.Header.{Header}
use Rattle.base_format.specs.declared.player.Part.TheVariants.{Opening, Frame}
use Rattle.base_format.specs.declared.player.Progress.{Progress}
use Rattle.base_format.specs.declared.player.StreamPlayer.{StreamPlayer}
use Rattle.base_format.specs.State.{part_number}
use Rattle.base_format.specs.Stream.{opening_limit}
use Rattle.base_format.proofs.Accepted.{opening_limit_lem}
use Rattle.base_format.proofs.Next.{next_frame_begun}
use Rattle.play_belongs.proofs.Belongs.{own_operations, own_frames}
use Rattle.play_fast_part.specs.declared.PlayingPart.{PlayingPart}
use Rattle.play_fast_part.specs.PlayingPart.{playing_part_of}
use Rattle.play_fast_part.proofs.Found.{Way, opens, begins, opening, frame, playing_part_found}

-- the opening, or a frame behind it
pub data Goes (state : StreamPlayer) (file : List ℕ) (c : PlayingPart) : Type 0 where
  in_opening : c.at.part ≡ part_number Opening → c.limit ≤ opening_limit state.header file → Goes state file c
  in_frame_lem : c.at.part ≡ part_number Frame → c.limit ≡ length file → state.progress.initialized ≡ true → Goes state file c

pub record Going (state : StreamPlayer) (file : List ℕ) (c : PlayingPart) : Type 0 where
  pub unfinished : state.progress.finished ≡ false
  pub counted : c.at.operation_index ≤ c.at.operation_count
  pub inside : c.limit ≤ length file
  pub goes : Goes state file c

-- THE PART

abbrev Bounds : List ℕ → PlayingPart → Type 0
Bounds file c = (c.limit ≤ length file) × (c.at.operation_index ≤ c.at.operation_count)

module _ (file : List ℕ) (header : Header) (p : Progress) (c : PlayingPart) where
  way_bounds : header.frame_start ≤ length file → p.operation_index ≤ p.operation_count → Way file header p c → Bounds file c
  way_bounds start counted (opens between first e) = rw e ((opening_limit_lem header file start).1, omega arith)
  way_bounds start counted (begins between place number framed long e) = rw e (omega arith, omega arith)
  way_bounds start counted (opening between first e) = rw e ((opening_limit_lem header file start).1, counted)
  way_bounds start counted (frame between first framed on e) = rw e (omega arith, counted)

  pub playing_part_bounds : (cards : ℕ) → Some c ≡ playing_part_of file header cards p → Bounds file c
  playing_part_bounds cards e =
      let found = playing_part_found file header p c cards e in
      way_bounds (own_frames (length file) header cards p found.own) (own_operations (length file) header cards p found.own) found.way

module _ (state : StreamPlayer) (file : List ℕ) (c : PlayingPart) where
  way_goes : Way file state.header state.progress c → Goes state file c
  way_goes (opens between first e) = rw e (in_opening refl (omega arith))
  way_goes (begins between place number framed long e) = rw e (in_frame_lem refl refl (next_frame_begun state.header state.progress place number framed))
  way_goes (opening between first e) = rw e (in_opening (eqb-true _ _ first) (omega arith))
  way_goes (frame between first framed on e) = rw e (in_frame_lem (eqb-true _ _ framed) refl on)

  pub playing_part_going : Some c ≡ playing_part_of file state.header state.cards.count state.progress → Going state file c
  playing_part_going e =
      let found = playing_part_found file state.header state.progress c state.cards.count e in
      let bounds = playing_part_bounds file state.header state.progress c state.cards.count e in
      record { unfinished = found.unfinished; counted = bounds.1; inside = bounds.0; goes = way_goes found.way }
