-- The search for the card of a slot, card by card.
use Prim.Native.Nat.{ℕ, ◌+◌, ◌≤◌, ◌<◌}
use mathlib.Core.Path.{◌≡◌}
use mathlib.Core.Bool.{false, cond}
use mathlib.Core.List.{List}
use native.Mathlib.Numerals.{add-one}
use lib.Dec.{eqb}
use lib.ListN.{length, get_or, drop, drop_of_length-le}
use lib.Seq.{drop-cons}
use Rattle.base_format.specs.declared.card.CardRequirement.{CardRequirement}
use Rattle.base_format.specs.Card.{one_card_wrong}
use Rattle.base_format.specs.Player.{slot_wrong}

-- that card has the slot, or the cards behind decide
pub wrong_step : (cards : List CardRequirement) (i slot : ℕ) (d : CardRequirement) → i < length cards
    → slot_wrong (drop i cards) slot ≡ cond (eqb (get_or cards i d).slot slot) (one_card_wrong (get_or cards i d)) (slot_wrong (drop (i + 1) cards) slot)
unfolding slot_wrong
wrong_step cards i slot d inside = rw (drop-cons cards i d, add-one)

-- behind the last card none is wrong
pub wrong_end : (cards : List CardRequirement) (i slot : ℕ) → length cards ≤ i → slot_wrong (drop i cards) slot ≡ false
unfolding slot_wrong
wrong_end cards i slot all = rw (drop_of_length-le cards all)
