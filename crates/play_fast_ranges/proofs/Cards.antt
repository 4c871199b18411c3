-- The targets of a version's cards, stored from the last to the first, are those that the numbers stand for.
use Prim.Native.Nat.{ℕ, ◌+◌, ◌-◌, ◌≤◌, ◌<◌, min}
use mathlib.Core.Path.{◌≡◌, refl, ◌∙◌}
use mathlib.Core.Bool.{Bool, true, false, cond, ◌&&◌}
use mathlib.Core.List.{List, [], ◌∷◌}
use native.Mathlib.Numerals.{add-one}
use native.Mathlib.Omega.{arith}
use borrow.Author.Tests.{ltb-false, leb-true, leb-false, eqb-true, eqb-false, eq-eqb, ne_eqb, le-ltb}
use lib.Dec.{eqb, leb, ltb}
use lib.ListN.{length, get_or, take, drop, length-take, drop_of_length-le}
use lib.Seq.{drop-cons, get_or-take}
use Rattle.base_format.specs.declared.card.CardRequirement.{CardRequirement}
use Rattle.base_format.specs.declared.card.CardTable.{CardTable}
use Rattle.base_targets.specs.declared.Target.{Target}
use Rattle.base_targets.specs.declared.Target.TheVariants.{Slot, Missing}
use Rattle.base_format.specs.Card.{cards_of, one_card_wrong}
use Rattle.base_format.specs.Player.{slot_wrong}
use Rattle.base_format.specs.Target.{slot_of, slot_target, target_of}
use Rattle.base_format.proofs.Cards.{held_cards, past_card}
use Rattle.play_fast_ranges.specs.Ranges.{usable, card_target}
use Rattle.play_fast_ranges.proofs.Stored.{put, with_card}

-- the targets with those of cards, of which the first with a slot stays
unfoldable pub with_cards : (ℕ → Target) → List CardRequirement → ℕ → Target
with_cards f [] = f
with_cards f (card ∷ cards) = with_card (with_cards f cards) card

-- no card changes a target below 3 or above 10
with_outside : (f : ℕ → Target) (cards : List CardRequirement) (n : ℕ) → ((slot : ℕ) → slot ≤ 7 → n ≡ slot + 3 → ⊥) → with_cards f cards n ≡ f n
unfolding with_cards with_card
with_outside f [] n apart = refl
with_outside f (card ∷ cards) n apart = go (ltb 7 card.slot) refl ∙ with_outside f cards n apart
  where
    go : (b : Bool) → ltb 7 card.slot ≡ b → cond b (with_cards f cards n) (put (with_cards f cards) (card.slot + 3) (card_target card) n) ≡ with_cards f cards n
    go true e = refl
    go false e = rw (ne_eqb n (card.slot + 3) (apart card.slot (ltb-false 7 card.slot e)))

-- the target of a slot is by the first card with that slot
with_slot : (f : ℕ → Target) (cards : List CardRequirement) (slot : ℕ) → slot ≤ 7 → f (slot + 3) ≡ Missing → with_cards f cards (slot + 3) ≡ cond (slot_wrong cards slot) Missing (slot_target cards slot)
unfolding with_cards with_card card_target slot_wrong slot_target
with_slot f [] slot low none = none
with_slot f (card ∷ cards) slot low none = first (eqb card.slot slot) refl (with_slot f cards slot low none)
  where
    this : Target
    this = cond (one_card_wrong card) Missing (Slot card.bulk_start card.bulk_length)

    other : (b : Bool) → eqb card.slot slot ≡ false → ltb 7 card.slot ≡ b → cond b (with_cards f cards (slot + 3)) (cond (eqb (slot + 3) (card.slot + 3)) this (with_cards f cards (slot + 3))) ≡ with_cards f cards (slot + 3)
    other true e past = refl
    other false e past = rw (ne_eqb (slot + 3) (card.slot + 3) λ same. eqb-false card.slot slot e (omega arith))

    first : (b : Bool) → eqb card.slot slot ≡ b → with_cards f cards (slot + 3) ≡ cond (slot_wrong cards slot) Missing (slot_target cards slot)
        → cond (ltb 7 card.slot) (with_cards f cards (slot + 3)) (cond (eqb (slot + 3) (card.slot + 3)) this (with_cards f cards (slot + 3)))
        ≡ cond (cond b (one_card_wrong card) (slot_wrong cards slot)) Missing (cond b (Slot card.bulk_start card.bulk_length) (slot_target cards slot))
    first true e rest =
        let same : card.slot ≡ slot = eqb-true card.slot slot e in
        rw (le-ltb 7 card.slot (omega arith), eq-eqb (slot + 3) (card.slot + 3) (omega arith))
    first false e rest = other (ltb 7 card.slot) e refl ∙ rest

-- VERSIONS

-- version 4
pub cards_usable : (cards : List CardRequirement) (n : ℕ) → with_cards (target_of 4 []) cards n ≡ usable 4 cards n
unfolding usable target_of slot_target
cards_usable cards n = low (leb 3 n) refl
  where
    plain : (b c : Bool) → ltb n 2 ≡ b → eqb n 2 ≡ c → n < 3 → target_of 4 [] n ≡ target_of 4 cards n
    plain true c first second small = rw first
    plain false true first second small = rw (first, second)
    plain false false first second small = absurd (eqb-false n 2 second (omega (arith, ltb-false n 2 first)))

    high : (b : Bool) → leb n 10 ≡ b → 3 ≤ n → with_cards (target_of 4 []) cards n ≡ cond (b && slot_wrong cards (slot_of n)) Missing (target_of 4 cards n)
    high true e large =
        let most : n ≤ 10 = leb-true n 10 e in
        let number : n ≡ n - 3 + 3 = omega arith in
        let none : target_of 4 [] (n - 3 + 3) ≡ Missing = rw (← number, le-ltb n 2 (omega arith), ne_eqb n 2 (λ same. omega arith), e) in
        rw (le-ltb n 2 (omega arith), ne_eqb n 2 (λ same. omega arith), e) (rw (← number) at (with_slot (target_of 4 []) cards (n - 3) (omega arith) none))
    high false e large =
        let more : 10 < n = leb-false n 10 e in
        with_outside (target_of 4 []) cards n (λ slot seven same. omega arith) ∙ rw e

    low : (b : Bool) → leb 3 n ≡ b → with_cards (target_of 4 []) cards n ≡ cond (b && leb n 10 && slot_wrong cards (slot_of n)) Missing (target_of 4 cards n)
    low true e = high (leb n 10) refl (leb-true 3 n e)
    low false e =
        let small : n < 3 = leb-false 3 n e in
        with_outside (target_of 4 []) cards n (λ slot seven same. omega arith) ∙ plain (ltb n 2) (eqb n 2) refl refl small

-- every other version has no cards
pub plain_usable : (version : ℕ) (cards : List CardRequirement) (n : ℕ) → eqb version 4 ≡ false → target_of version [] n ≡ usable version cards n
unfolding usable target_of
plain_usable version cards n other = rw other

-- the cards that a version has of a table
pub held_usable : (version : ℕ) (table : CardTable) (n : ℕ) → length table.cards ≡ 8 → with_cards (target_of version []) (take (cond (eqb version 4) (min table.count 8) 0) table.cards) n ≡ usable version (cards_of table) n
unfolding with_cards
held_usable version table n eight = go (eqb version 4) refl
  where
    go : (four : Bool) → eqb version 4 ≡ four → with_cards (target_of version []) (take (cond four (min table.count 8) 0) table.cards) n ≡ usable version (cards_of table) n
    go true e =
        let is : version ≡ 4 = eqb-true version 4 e in
        rw (is, ← (held_cards table eight)) (cards_usable (cards_of table) n)
    go false e = plain_usable version (cards_of table) n e

-- one card more, from the last to the first
pub with_next : (f : ℕ → Target) (cards : List CardRequirement) (n i : ℕ) → i < n → n ≤ length cards → with_cards f (drop i (take n cards)) ≡ with_card (with_cards f (drop (i + 1) (take n cards))) (get_or cards i past_card)
unfolding with_cards
with_next f cards n i h within =
    let inside : i < length (take n cards) = simp length-take (omega arith) in
    rw (drop-cons (take n cards) i past_card, get_or-take n cards i past_card, add-one)

-- behind the last card there is none
pub with_none : (f : ℕ → Target) (cards : List CardRequirement) (n : ℕ) → with_cards f (drop n (take n cards)) ≡ f
unfolding with_cards
with_none f cards n =
    let all : length (take n cards) ≤ n = simp length-take (omega arith) in
    rw (drop_of_length-le (take n cards) all)
