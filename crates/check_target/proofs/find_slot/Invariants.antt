-- The cards from the next one on decide.
use Rattle.std.proofs.Common.{◌≡◌, drop}
use Rattle.base_format.specs.Card.{cards_of}
use Rattle.base_format.specs.Target.{slot_target}
use Rattle.check_target.proofs.find_slot.Given as goal

abbrev pub invariant-loop-card : goal.invariant-loop-card
invariant-loop-card l = slot_target (cards_of l.fn.table) l.slot ≡ slot_target (drop l.card-index l.card-items) l.slot
