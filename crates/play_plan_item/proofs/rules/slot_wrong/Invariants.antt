-- The loop's invariant: the cards from the index on decide.
use Rattle.std.proofs.Common.{◌≡◌, drop}
use Rattle.base_format.specs.Card.{cards_of}
use Rattle.base_format.specs.Player.{slot_wrong}
use Rattle.play_plan_item.proofs.rules.slot_wrong.Given as goal

abbrev pub invariant-loop-card : goal.invariant-loop-card
invariant-loop-card l = slot_wrong (cards_of l.fn.table) l.slot ≡ slot_wrong (drop l.card-index l.card-items) l.slot
