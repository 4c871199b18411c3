-- Cards of version 4, 32 bytes each: slot, "rising from card to card", length of the name, two 0 bytes, name offset, bulk start and bulk
-- length of 4 bytes each, and the name, "padded with 0 to byte 31".
use Rattle.std.specs.Prelude.{ℕ, zero, suc, ◌+◌, Bool, not, ◌||◌, List, [], ◌∷◌, length, take, drop, eqb, ltb}
use Rattle.base_format.specs.declared.card.CardRequirement.{CardRequirement}
use Rattle.base_format.specs.declared.card.CardTable.{CardTable}
use Rattle.base_format.specs.Bytes.{byte, be, part, all_zero}
use Rattle.base_format.specs.Checked.{Checked, ok, refuse, ◌>>=◌, ◌>>◌}

-- the cards of a table are those below its count
abbrev pub cards_of : CardTable → List CardRequirement
cards_of table = take table.count table.cards

-- the fields of the 32 bytes at a place
abbrev pub card_at : List ℕ → (at : ℕ) → CardRequirement
card_at file at =
    record { slot = byte file at; id_length = byte file (at + 1); id_offset = be 4 file (at + 4); bulk_start = be 4 file (at + 8); bulk_length = be 4 file (at + 12); id = part file (at + 16) 16 }

-- what breaks the rules that speak of one card. The ends of its name and of its bulk range "are at most 0x2000000"
unfoldable pub one_card_wrong : CardRequirement → Bool
one_card_wrong card =
    ltb 7 card.slot
    || eqb card.id_length 0
    || ltb 16 card.id_length
    || not (all_zero (drop card.id_length card.id))
    || ltb 0x2000000 (card.id_offset + card.id_length)
    || ltb 0x2000000 (card.bulk_start + card.bulk_length)

-- what breaks the card rules. Slots rise: the first card's is at least 0, each next one's at least one more than the slot before
unfoldable pub card_wrong : List ℕ → (at least : ℕ) → CardRequirement → Bool
card_wrong file at least card = ltb card.slot least || not (all_zero (part file (at + 2) 2)) || one_card_wrong card

-- so many cards from a place: "a card entry is cut off or breaks a card rule" (7)
unfoldable pub cards_from : List ℕ → (count at least : ℕ) → Checked (List CardRequirement)
cards_from file zero at least = ok []
cards_from file (suc count) at least = do
  refuse 7 at (ltb (length file) (at + 32) || card_wrong file at least (card_at file at))
  cards ← cards_from file count (at + 32) (byte file at + 1)
  ok (card_at file at ∷ cards)
