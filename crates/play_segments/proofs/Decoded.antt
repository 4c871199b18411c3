-- An item that the rules let pass is the one that is decoded, and the turn there is its turn.
use Prim.Native.Nat.{ℕ, ◌+◌, ◌≤◌}
use mathlib.Core.Bool.{Bool, true, false, cond}
use mathlib.Core.List.{List}
use mathlib.Core.Path.{◌≡◌, ◌∙◌, ap}
use native.Mathlib.Omega.{arith}
use borrow.Author.Tests.{le-ltb}
use lib.Dec.{eqb}
use lib.ListN.{length}
use Rattle.base_format.specs.declared.operation.Item.{Item}
use Rattle.base_format.specs.declared.player.StreamPlayer.{StreamPlayer}
use Rattle.base_format.specs.Bytes.{byte}
use Rattle.base_format.specs.Checked.{ok}
use Rattle.base_format.specs.Operation.{Setting, address_width, operation_at, record_at, item_at}
use Rattle.base_format.specs.Player.{setting_in}
use Rattle.base_format.proofs.Checks.{cond_false}
use Rattle.base_format.proofs.Steps.{size_here, record_is, operation_is}
use Rattle.play_segments.specs.declared.place.Place.{Place}
use Rattle.play_item_span.specs.Decoded.{record_decoded, operation_decoded, decoded}
use Rattle.play_segments.specs.Turn.{turn_of, turn, operation_turn}

module _ (setting : Setting) (file : List ℕ) (limit at : ℕ) (item : Item) (within : limit ≤ length file) where
  record_decoded_lem : record_at setting file limit at ≡ ok item → record_decoded file at ≡ ok item
  unfolding record_decoded
  record_decoded_lem e =
      let found = record_is setting file limit at item e in
      rw (le-ltb (length file) (at + 5) (omega (arith, found.room))) (ap ok found.is)

  operation_decoded_lem : operation_at setting file limit at ≡ ok item → operation_decoded file (address_width setting.version) at ≡ ok item
  unfolding operation_decoded
  operation_decoded_lem e =
      let found = operation_is setting file limit at item e in
      rw (le-ltb 2 (byte file at) found.known, le-ltb (length file) (at + size_here setting file at) (omega (arith, found.room))) (ap ok found.is)

  pub item_decoded : item_at setting file limit at ≡ ok item → decoded file setting.version at ≡ ok item
  unfolding item_at decoded
  item_decoded = go (eqb setting.version 1)
    where
      go : (b : Bool) → cond b (record_at setting file limit at) (operation_at setting file limit at) ≡ ok item → cond b (record_decoded file at) (operation_decoded file (address_width setting.version) at) ≡ ok item
      go true e = record_decoded_lem e
      go false e = operation_decoded_lem e

pub turns : (file : List ℕ) (state : StreamPlayer) (limit : ℕ) (place : Place) (item : Item) → limit ≤ length file → place.closing ≡ false
    → item_at (setting_in state file) file limit place.cursor ≡ ok item
    → turn file state place ≡ operation_turn file state.header.directory_offset place item.operation item.next
unfolding turn
turns file state limit place item within plays e =
    cond_false place.closing _ _ plays ∙ ap (turn_of file state.header.directory_offset place) (item_decoded (setting_in state file) file limit place.cursor item within e)
