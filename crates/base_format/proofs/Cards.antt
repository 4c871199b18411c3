-- Laws of the cards of a file and of card tables: how many there are, which a table holds, and the search for a slot.
use Prim.Native.Nat.{ℕ, zero, suc, ◌+◌, ◌≤◌, ◌<◌, min}
use mathlib.Core.Path.{◌≡◌, refl, sym, ap, ◌∙◌}
use mathlib.Core.Bool.{Bool, true, false, cond}
use mathlib.Core.List.{List, []}
use native.Mathlib.Numerals.{add-one}
use native.Mathlib.Omega.{arith}
use borrow.Author.Tests.{leb-true, leb-false}
use lib.Dec.{eqb, leb}
use lib.ListN.{length, get_or, take, drop, length-take, drop_of_length-le}
use lib.Seq.{drop-cons, get_or-take, take_all, take-append_seam}
use mir.Val.{Val}
use denote.Laws.{Is}
use denote.Struct.Declared as Declared
use Rattle.base_format.specs.declared.card.CardRequirement.{CardRequirement}
use Rattle.base_format.specs.declared.card.CardTable.{CardTable}
use Rattle.base_targets.specs.declared.Target.TheVariants.{Slot, Missing}
use Rattle.base_format.specs.Bytes.{byte}
use Rattle.base_format.specs.Card.{cards_of, cards_from}
use Rattle.base_format.specs.Checked.{ok}
use Rattle.base_format.specs.State.{table_of}
use Rattle.base_format.specs.Target.{slot_target}
use Rattle.base_format.proofs.Checks.{ok_is}
use Rattle.base_format.proofs.Steps.{card_step}
use Rattle.base_format.specs.contracts.card.CardTable.{the_type}

-- the cards of an accepted file are as many as its header says
pub cards_count : (file : List ℕ) (count at least : ℕ) (cards : List CardRequirement) → cards_from file count at least ≡ ok cards → length cards ≡ count
unfolding cards_from
cards_count file zero at least cards e = ap length (sym (ok_is e))
cards_count file (suc count) at least cards e =
    let step = card_step file count at least cards e in
    ap length (sym step.is) ∙ ap suc (cards_count file count (at + 32) (byte file at + 1) step.others step.from)

-- the table holds the cards
pub table_cards : (cards : List CardRequirement) → cards_of (table_of cards) ≡ cards
unfolding table_of
table_cards cards = take-append_seam cards _

-- a table that a function is handed has eight cards: `vs` is what `c.good` says of the parameter
pub eight : (table : CardTable) (vs : List Val) → Is (Declared.row the_type) table vs → length table.cards ≡ 8
eight table vs good = good.1.1.0.1.0.1

-- the cards of a table are at most the eight that it has
pub held_cards : (table : CardTable) → length table.cards ≡ 8 → cards_of table ≡ take (min table.count 8) table.cards
held_cards table size = go (leb table.count 8) refl
  where
    go : (b : Bool) → leb table.count 8 ≡ b → take table.count table.cards ≡ take (min table.count 8) table.cards
    go true e =
        let less : min table.count 8 ≡ table.count = omega (arith, leb-true table.count 8 e) in
        rw less
    go false e =
        let more : 8 < table.count = leb-false table.count 8 e in
        take_all table.count table.cards (omega arith) ∙ sym (take_all (min table.count 8) table.cards (omega arith))

-- what stands for a card past the end of a table
abbrev pub past_card : CardRequirement
past_card = record { slot = 0; id_length = 0; id_offset = 0; bulk_start = 0; bulk_length = 0; id = [] }

-- the search for a slot from a card on: that card has it, or the cards behind decide
pub slot_step : (cards : List CardRequirement) (n i slot : ℕ) → i < n → n ≤ length cards
    → slot_target (drop i (take n cards)) slot
    ≡ cond (eqb (get_or cards i past_card).slot slot) (Slot (get_or cards i past_card).bulk_start (get_or cards i past_card).bulk_length) (slot_target (drop (i + 1) (take n cards)) slot)
unfolding slot_target
slot_step cards n i slot h within =
    let inside : i < length (take n cards) = simp length-take (omega arith) in
    rw (drop-cons (take n cards) i past_card, get_or-take n cards i past_card, add-one)

-- behind the last card there is none
pub slot_end : (cards : List CardRequirement) (n slot : ℕ) → slot_target (drop n (take n cards)) slot ≡ Missing
unfolding slot_target
slot_end cards n slot =
    let all : length (take n cards) ≤ n = simp length-take (omega arith) in
    rw (drop_of_length-le (take n cards) all)
