-- The ranges of addresses that a WRITE or a FILL may go to. The entry of an opcode and a target stands at 16 * opcode + target; the
-- operation is allowed where its count is not 0, its address is not before the start, and address and count are below the end.
use Rattle.std.specs.Prelude.{ℕ, ◌+◌, ◌-◌, cond, ◌&&◌, List, eqb, leb, ltb, set}
use Rattle.base_format.specs.declared.card.CardRequirement.{CardRequirement}
use Rattle.base_targets.specs.declared.Target.{Target}
use Rattle.base_targets.specs.declared.Target.TheVariants.{Slot, Missing}
use Rattle.base_format.specs.Card.{one_card_wrong}
use Rattle.base_format.specs.Player.{slot_wrong}
use Rattle.base_format.specs.Target.{slot_of, target_of, missing, write_limit, bulk_start}
use Rattle.check_fast_limits.specs.Limits.{bulk_end, tabled}

-- a WRITE's address and its count of 1 are at most the write limit and 1
unfoldable pub write_top : Target → ℕ
write_top target = cond (missing target) 0 (write_limit target + 2)

-- the target of a number; missing where its card breaks rule 7
unfoldable pub usable : (version : ℕ) → List CardRequirement → (number : ℕ) → Target
usable version cards number =
    cond (eqb version 4 && leb 3 number && leb number 10 && slot_wrong cards (slot_of number)) Missing (target_of version cards number)

-- the ranges of the targets that the numbers stand for
unfoldable pub starts_by : (ℕ → Target) → List ℕ
starts_by f = tabled (λ k. cond (ltb k 16) 0 (bulk_start (f (k - 16)))) 32

unfoldable pub ends_by : (ℕ → Target) → List ℕ
ends_by f = tabled (λ k. cond (ltb k 16) (write_top (f k)) (bulk_end (f (k - 16)))) 32

abbrev pub starts_of : (version : ℕ) → List CardRequirement → List ℕ
starts_of version cards = starts_by (usable version cards)

abbrev pub ends_of : (version : ℕ) → List CardRequirement → List ℕ
ends_of version cards = ends_by (usable version cards)

-- STORES

-- the arrays with the ranges of a target at its number
abbrev pub starts_with : List ℕ → (number : ℕ) → Target → List ℕ
starts_with starts number target = set starts (number + 16) (bulk_start target)

abbrev pub ends_with : List ℕ → (number : ℕ) → Target → List ℕ
ends_with ends number target = set (set ends number (write_top target)) (number + 16) (bulk_end target)

-- what a card's slot stands for
unfoldable pub card_target : CardRequirement → Target
card_target card = cond (one_card_wrong card) Missing (Slot card.bulk_start card.bulk_length)

-- the arrays with the ranges of a card; a slot past the eight is no target
abbrev pub starts_card : List ℕ → CardRequirement → List ℕ
starts_card starts card = cond (ltb 7 card.slot) starts (starts_with starts (card.slot + 3) (card_target card))

abbrev pub ends_card : List ℕ → CardRequirement → List ℕ
ends_card ends card = cond (ltb 7 card.slot) ends (ends_with ends (card.slot + 3) (card_target card))
