-- Laws of what is still to be stored: one turn, the end, and the run's length.
use Prim.Native.Nat.{ℕ, zero, suc, ◌≤◌, ◌<◌}
use mathlib.Core.Bool.{Bool, true, false, cond}
use mathlib.Core.List.{List}
use mathlib.Core.Path.{◌≡◌, refl, sym, ◌∙◌}
use native.Mathlib.Nat.{le_refl}
use native.Mathlib.Omega.{arith}
use borrow.Author.Tests.{eq-eqb, ne_eqb, eqb-true}
use lib.Dec.{eqb}
use lib.ListN.{length}
use Rattle.base_format.specs.declared.operation.WriteRecord.{WriteRecord}
use Rattle.base_format.specs.declared.player.StreamPlayer.{StreamPlayer}
use Rattle.base_format.proofs.Checks.{positive}
use Rattle.play_segments.specs.declared.place.Place.{Place}
use Rattle.play_segments_first.specs.First.{first_place}
use Rattle.play_segments.specs.Turn.{turn}
use Rattle.play_segments.proofs.Fewer.{turn_less}
use Rattle.play_store_segment.specs.Segment.{segment_stored}
use Rattle.play_store_segment.proofs.Segments.{stored_long}
use Rattle.play_store.specs.Stored.{stored_in, stored_from, stored_call}

module _ (file : List ℕ) (state : StreamPlayer) where
  -- the run after a turn
  abbrev pub turned : Place → List WriteRecord → List WriteRecord
  turned place run = segment_stored file (turn file state place).segment (turn file state place).at run

  in_none : (turns : ℕ) (place : Place) (run : List WriteRecord) → place.left ≡ 0 → stored_in turns file state place run ≡ run
  unfolding stored_in
  in_none zero place run none = refl
  in_none (suc turns) place run none = rw (eq-eqb _ _ none)

  in_step : (turns : ℕ) (place : Place) (run : List WriteRecord) → 0 < place.left → stored_in (suc turns) file state place run ≡ stored_in turns file state (turn file state place).place (turned place run)
  unfolding stored_in
  in_step turns place run some = rw (ne_eqb place.left 0 (λ (e : place.left ≡ 0). omega arith))

  -- turns beyond those that are left change nothing
  enough : (n m : ℕ) (place : Place) (run : List WriteRecord) → place.left ≤ n → place.left ≤ m → stored_in n file state place run ≡ stored_in m file state place run
  enough zero m place run h h' =
      let none : place.left ≡ 0 = omega arith in
      in_none zero place run none ∙ sym (in_none m place run none)
  enough (suc n) zero place run h h' =
      let none : place.left ≡ 0 = omega arith in
      in_none (suc n) place run none ∙ sym (in_none zero place run none)
  enough (suc n) (suc m) place run h h' = go (eqb place.left 0) refl (λ less. enough n m (turn file state place).place (turned place run) (omega (arith, less)) (omega (arith, less)))
    where
      go : (b : Bool) → eqb place.left 0 ≡ b
          → ((turn file state place).place.left < place.left → stored_in n file state (turn file state place).place (turned place run) ≡ stored_in m file state (turn file state place).place (turned place run))
          → stored_in (suc n) file state place run ≡ stored_in (suc m) file state place run
      go true e later =
          let none : place.left ≡ 0 = eqb-true _ _ e in
          in_none (suc n) place run none ∙ sym (in_none (suc m) place run none)
      go false e later =
          let some : 0 < place.left = positive place.left e in
          in_step n place run some ∙ later (turn_less file state place some) ∙ sym (in_step m place run some)

  -- nothing is left
  pub stored_none : (place : Place) (run : List WriteRecord) → place.left ≡ 0 → stored_from file state place run ≡ run
  unfolding stored_from
  stored_none place run none = in_none place.left place run none

  -- one turn
  pub stored_step : (place : Place) (run : List WriteRecord) → 0 < place.left → stored_from file state place run ≡ stored_from file state (turn file state place).place (turned place run)
  unfolding stored_from
  stored_step place run some =
      let less = turn_less file state place some in
      enough place.left (suc place.left) place run (le_refl place.left) (omega arith) ∙ in_step place.left place run some
      ∙ enough place.left (turn file state place).place.left (turn file state place).place (turned place run) (omega (arith, less)) (le_refl (turn file state place).place.left)

  in_long : (turns : ℕ) (place : Place) (run : List WriteRecord) → length (stored_in turns file state place run) ≡ length run
  unfolding stored_in
  in_long zero place run = refl
  in_long (suc turns) place run = go (eqb place.left 0) (in_long turns (turn file state place).place (turned place run))
    where
      go : (b : Bool) → length (stored_in turns file state (turn file state place).place (turned place run)) ≡ length (turned place run)
          → length (cond b run (stored_in turns file state (turn file state place).place (turned place run))) ≡ length run
      go true later = refl
      go false later = later ∙ stored_long file (turn file state place).segment (turn file state place).at run

  -- a call's records are what is to be stored from its first place on
  pub call_is : (count : ℕ) (run : List WriteRecord) → stored_from file state (first_place file state count (length run)) run ≡ stored_call file state count run
  unfolding stored_call
  call_is count run = refl

  -- the run keeps its length
  pub call_long : (count : ℕ) (run : List WriteRecord) → length (stored_call file state count run) ≡ length run
  unfolding stored_call stored_from
  call_long count run = in_long (first_place file state count (length run)).left (first_place file state count (length run)) run
