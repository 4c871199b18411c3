-- The first of the cards from a place on decides, or those behind it do.
use Rattle.std.proofs.Common.{◌≡◌, ℕ, ◌+◌, ◌<◌, ◌≤◌, List, length, get_or, drop, drop-cons, add-one}
use borrow.Author.Tests.{eq-eqb, ne_eqb}
use lib.ListN.{drop_of_length-le}
use Rattle.base_targets.specs.declared.Target.TheVariants.{Slot, Missing}
use Rattle.base_format.specs.declared.card.CardRequirement.{CardRequirement}
use Rattle.base_format.specs.Target.{slot_target}

module _ (cards : List CardRequirement) (i slot : ℕ) where
  pub slot_here : (past : CardRequirement) → i < length cards → (get_or cards i past).slot ≡ slot
      → slot_target (drop i cards) slot ≡ Slot (get_or cards i past).bulk_start (get_or cards i past).bulk_length
  unfolding slot_target
  slot_here past h e = rw (drop-cons cards i past, eq-eqb _ _ e)

  pub slot_behind : (past : CardRequirement) → i < length cards → ((get_or cards i past).slot ≡ slot → ⊥) → slot_target (drop i cards) slot ≡ slot_target (drop (i + 1) cards) slot
  unfolding slot_target
  slot_behind past h e = rw (drop-cons cards i past, add-one, ne_eqb _ _ e)

  pub slot_none : length cards ≤ i → slot_target (drop i cards) slot ≡ Missing
  unfolding slot_target
  slot_none h = rw (drop_of_length-le cards h)
