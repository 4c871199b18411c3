-- The test of a state is the sheet's: refusal 25 exactly where it belongs to another file.
use Prim.Native.Nat.{ℕ, ◌≤◌}
use mathlib.Core.Bool.{Bool, true, false, not, ◌||◌}
use mathlib.Core.List.{List}
use mathlib.Core.Path.{◌≡◌, refl, sym}
use borrow.Author.Tests.{ltb-false}
use lib.Dec.{eqb, ltb}
use lib.ListN.{length}
use Rattle.base_format.specs.declared.header.Header.{Header}
use Rattle.base_format.specs.declared.player.Progress.{Progress}
use Rattle.base_format.specs.declared.player.StreamPlayer.{StreamPlayer}
use Rattle.base_format.specs.Checked.{refuse, ◌>>◌}
use Rattle.base_format.specs.Player.{belongs}
use Rattle.base_format.proofs.Checks.{or_false}
use Rattle.play_belongs.specs.Foreign.{foreign_to}

-- two tests with one refusal are one test
either : (number place : ℕ) (a b : Bool) → (refuse number place a >> refuse number place b) ≡ refuse number place (a || b)
either number place true b = refl
either number place false b = refl

pub foreign_is : (state : StreamPlayer) (file : List ℕ) → refuse 25 0 (foreign_to (length file) state.header state.cards.count state.progress) ≡ belongs state file
unfolding foreign_to belongs
foreign_is state file = sym (rw (either 25 0, either 25 0, either 25 0))

-- a state that belongs to the file
module _ (size : ℕ) (header : Header) (cards : ℕ) (p : Progress) (own : foreign_to size header cards p ≡ false) where
  abbrev before : Bool
  before = ltb size p.cursor || ltb size header.initial_start

  abbrev past_counter : Bool
  past_counter = ltb header.frame_count p.frame_index || ltb p.operation_count p.operation_index

  none_past : ((before || ltb size header.frame_start || ltb size header.directory_offset) ≡ false) × (past_counter ≡ false)
  unfolding foreign_to
  none_past =
      let recorded = (or_false (not (eqb size header.total_size)) _ own).1 in
      let places = (or_false (eqb header.version 0 || ltb 4 header.version || ltb 8 header.card_count || ltb 8 cards) _ recorded).1 in
      or_false (before || ltb size header.frame_start || ltb size header.directory_offset) _ places

  -- has no more operations done than there are
  pub own_operations : p.operation_index ≤ p.operation_count
  own_operations = ltb-false _ _ (or_false (ltb header.frame_count p.frame_index) _ none_past.1).1

  -- and frames that start in the file
  pub own_frames : header.frame_start ≤ size
  own_frames =
      let first = (or_false (before || ltb size header.frame_start) _ none_past.0).0 in
      ltb-false _ _ (or_false before (ltb size header.frame_start) first).1
