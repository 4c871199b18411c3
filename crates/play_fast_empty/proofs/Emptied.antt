-- A call of an empty frame that is taken is the call: no record, the vsync is complete, and the same state behind it.
use Prim.Native.Nat.{ℕ, ◌+◌}
use mathlib.Core.Bool.{Bool, true, false, cond, not}
use mathlib.Core.List.{List, []}
use mathlib.Core.Path.{◌≡◌, refl, sym, ap, ◌∙◌}
use borrow.Author.Tests.{eqb-true}
use lib.Dec.{eqb, ltb}
use lib.ListN.{length}
use Rattle.base_format.specs.declared.player.NextPart.{NextPart}
use Rattle.base_format.specs.declared.player.NextPart.TheVariants.{Opening, Frame, Closing}
use Rattle.base_format.specs.declared.player.Part.TheVariants.{Between}
use Rattle.base_format.specs.declared.player.Position.{Position}
use Rattle.base_format.specs.declared.player.Progress.{Progress}
use Rattle.base_format.specs.declared.player.StreamPlayer.{StreamPlayer}
use Rattle.base_format.specs.Bytes.{be}
use Rattle.base_format.specs.Checked.{Checked, ok, refuse, ◌>>=◌, ◌>>◌}
use Rattle.base_format.specs.Next.{next_part, by_next}
use Rattle.base_format.specs.Player.{Played, gathered, frame_begun, play_frame, play, belongs, as25, call}
use Rattle.base_format.specs.State.{part_number, part_of, between_at, moved, moved_to}
use Rattle.base_format.proofs.Checks.{cond_false}
use Rattle.base_format.proofs.Next.{next_frame_begun}
use Rattle.play_belongs.specs.Foreign.{foreign_to}
use Rattle.play_belongs.proofs.Belongs.{foreign_is}
use Rattle.play_fast_empty.specs.declared.EmptyStep.TheVariants.{UnderWay, NotTaken, Taken}
use Rattle.play_fast_empty.specs.Empty.{empty_at, empty_frame, empty_of}

-- what holds of the next frame where a call of it is taken
record Begins (file : List ℕ) (place frame : ℕ) (to : Position) : Type 0 where
  inside : ltb (length file) (place + 2) ≡ false
  empty : be 2 file place ≡ 0
  is : Taken to ≡ empty_at place frame

begins : (file : List ℕ) (place frame : ℕ) (to : Position) → Taken to ≡ empty_frame file place frame → Begins file place frame to
unfolding empty_frame
begins file place frame to e = go (ltb (length file) (place + 2)) refl (eqb (be 2 file place) 0) refl e
  where
    go : (s : Bool) → ltb (length file) (place + 2) ≡ s → (n : Bool) → eqb (be 2 file place) 0 ≡ n
        → Taken to ≡ cond s NotTaken (cond (not n) NotTaken (empty_at place frame)) → Begins file place frame to
    go false s true n h = record { inside = s; empty = eqb-true _ _ n; is = h }
    go false s false n h = cc
    go true s n m h = cc

module _ (state : StreamPlayer) (file : List ℕ) (room : ℕ) (to : Position) where
  abbrev p : Progress
  p = state.progress

  -- what a call answers that is taken, with the player then at a position
  abbrev pub answer : Played
  answer = record { records = []; complete = true; next = moved state (moved_to p to) }

  frame_empty : (place frame : ℕ) → Begins file place frame to → p.initialized ≡ true → p.finished ≡ false
      → (frame_begun file place frame p >>= play_frame state file room) ≡ ok answer
  unfolding frame_begun play_frame gathered
  frame_empty place frame b on going =
      let is : to ≡ between_at (place + 2) (frame + 1) = cc (b.is) in
      rw (b.inside, b.empty, is, on, going)

  -- between vsyncs, by what is next
  next_empty : (next : NextPart) → next_part state.header p ≡ next → p.finished ≡ false → Taken to ≡ by_next next NotTaken (empty_frame file) NotTaken
      → play state file room p (part_of (part_number Between)) ≡ ok answer
  unfolding play
  next_empty Opening is going e = cc
  next_empty (Frame place frame) is going e =
      rw is (frame_empty place frame (begins file place frame to e) (next_frame_begun state.header p place frame is) going)
  next_empty Closing is going e = cc

  pub empty_call : Taken to ≡ empty_of file state.header state.cards.count p → call state file room ≡ ok answer
  unfolding empty_of call
  empty_call e = go (eqb p.part (part_number Between)) refl p.finished refl (foreign_to (length file) state.header state.cards.count p) refl e
    where
      go : (n : Bool) → eqb p.part (part_number Between) ≡ n → (over : Bool) → p.finished ≡ over → (f : Bool)
          → foreign_to (length file) state.header state.cards.count p ≡ f
          → Taken to ≡ cond (not n) UnderWay (cond over NotTaken (cond f NotTaken (by_next (next_part state.header p) NotTaken (empty_frame file) NotTaken)))
          → cond p.finished (ok (record { records = []; complete = true; next = state })) (as25 (belongs state file >> play state file room p (part_of p.part))) ≡ ok answer
      go true n false going false f h =
          let own : belongs state file ≡ ok tt = sym (foreign_is state file) ∙ ap (refuse 25 0) f in
          let part : p.part ≡ part_number Between = eqb-true _ _ n in
          cond_false p.finished _ _ going
          ∙ ap as25 (ap (λ (x : Checked (Unit {0})). x >> play state file room p (part_of p.part)) own
          ∙ ap (λ (number : ℕ). play state file room p (part_of number)) part ∙ next_empty (next_part state.header p) refl going h)
      go true n false going true f h = cc
      go true n true going f k h = cc
      go false n over o f k h = cc
