-- Each turn leaves less than there was.
use Prim.Native.Nat.{ℕ, ◌-◌, ◌<◌}
use mathlib.Core.Bool.{Bool, true, false, cond}
use mathlib.Core.List.{List}
use native.Mathlib.Omega.{arith}
use lib.Dec.{leb}
use Rattle.base_format.specs.declared.operation.Item.{Item}
use Rattle.base_format.specs.declared.operation.Operation.{Operation}
use Rattle.base_format.specs.declared.player.StreamPlayer.{StreamPlayer}
use Rattle.base_format.specs.Checked.{Checked, ok, refused}
use Rattle.play_laws.specs.Plan.{count_of}
use Rattle.play_segments.specs.declared.place.Place.{Place}
use Rattle.play_segments.specs.declared.place.Turn.{Turn}
use Rattle.play_item_span.specs.Decoded.{decoded}
use Rattle.play_segments.specs.Operation.{unplayable}
use Rattle.play_segments.specs.Turn.{closing_turn, operation_turn, turn_of, turn}

one_less : (b : Bool) (n : ℕ) (p q : Place) → p.left < n → q.left < n → (cond b p q).left < n
one_less true n p q h h' = h
one_less false n p q h h' = h'

turn_either : (b : Bool) (n : ℕ) (t u : Turn) → t.place.left < n → u.place.left < n → (cond b t u).place.left < n
turn_either true n t u h h' = h
turn_either false n t u h h' = h'

closing_less : (place : Place) → 0 < place.left → (closing_turn place).place.left < place.left
unfolding closing_turn
closing_less place some = one_less (leb place.room 1) place.left _ _ some (omega arith)

operation_less : (file : List ℕ) (directory : ℕ) (place : Place) (operation : Operation) (next : ℕ) → 0 < place.left → (operation_turn file directory place operation next).place.left < place.left
unfolding operation_turn
operation_less file directory place operation next some =
    turn_either (unplayable operation place.done) place.left _ _ some (turn_either (leb place.room (count_of operation - place.done)) place.left _ _ some (omega arith))

of_less : (file : List ℕ) (directory : ℕ) (place : Place) (item : Checked Item) → 0 < place.left → (turn_of file directory place item).place.left < place.left
of_less file directory place (ok item) some = operation_less file directory place item.operation item.next some
of_less file directory place (refused number at) some = some

pub turn_less : (file : List ℕ) (state : StreamPlayer) (place : Place) → 0 < place.left → (turn file state place).place.left < place.left
unfolding turn
turn_less file state place some =
    turn_either place.closing place.left _ _ (closing_less place some) (of_less file state.header.directory_offset place (decoded file state.header.version place.cursor) some)
