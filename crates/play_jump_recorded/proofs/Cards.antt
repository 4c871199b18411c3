-- What `==` says of cards is what the sheet's comparison of cards says.
use Prim.Native.Nat.{ℕ, min}
use mathlib.Core.List.{List, [], ◌∷◌}
use mathlib.Core.Path.{◌≡◌, refl}
use native.Mathlib.Omega.{arith}
use lib.Dec.{eqb}
use lib.ListN.{length, take}
use lib.Pointwise.{pointwise}
use Rattle.base_format.specs.declared.card.CardRequirement.{CardRequirement}
use Rattle.base_format.specs.declared.card.CardTable.{CardTable}
use Rattle.base_format.specs.Bytes.{same_bytes}
use Rattle.base_format.specs.Card.{cards_of}
use Rattle.base_format.specs.Jump.{same_card, same_cards}
use Rattle.base_format.proofs.Cards.{held_cards}
use Rattle.base_format.specs.contracts.card.CardRequirementPartialEq.TheImpl.{eq-value}

name_same : (a b : List ℕ) → pointwise eqb a b ≡ same_bytes a b
name_same [] [] = refl
name_same [] (y ∷ b) = refl
name_same (x ∷ a) [] = refl
name_same (x ∷ a) (y ∷ b) = rw (name_same a b)

pub card_same : (a b : CardRequirement) → eq-value.it a b ≡ same_card a b
unfolding same_card
card_same a b = rw (name_same a.id b.id) (grind arith)

equal_same : (a b : List CardRequirement) → pointwise eq-value.it a b ≡ same_cards a b
unfolding same_cards
equal_same [] [] = refl
equal_same [] (y ∷ b) = refl
equal_same (x ∷ a) [] = refl
equal_same (x ∷ a) (y ∷ b) = rw (card_same x y, equal_same a b)

pub held_same : (a b : CardTable) → length a.cards ≡ 8 → length b.cards ≡ 8
    → pointwise eq-value.it (take (min a.count 8) a.cards) (take (min b.count 8) b.cards) ≡ same_cards (cards_of a) (cards_of b)
held_same a b size size' = rw (held_cards a size, held_cards b size') (equal_same _ _)
