-- Laws of cards as bytes: the two bytes that are 0, and one card more.
use Prim.Native.Nat.{ℕ, ◌+◌, ◌<◌}
use mathlib.Core.Path.{◌≡◌, refl, sym, ap, ◌∙◌}
use mathlib.Core.List.{List, [], ◌∷◌, ◌++◌, append-nil, append_assoc}
use native.Mathlib.Numerals.{add-one}
use native.Mathlib.Omega.{arith}
use lib.ListN.{length, get_or, take}
use lib.Seq.{take-suc}
use Rattle.base_format.specs.declared.card.CardRequirement.{CardRequirement}
use Rattle.base_format.specs.Bytes.{Field, raw, bytes_of, bytes_of_all}
use Rattle.base_format.specs.Written.{card_fields, cards_bytes}
use Rattle.base_format.proofs.Fields.{fields_size_lem}
use Rattle.bytes_put_fields.proofs.Laid.{fields_append}
use Rattle.bytes_put_tables.specs.Card.{number_fields}

pub two_zeros : bytes_of 2 0 ≡ 0 ∷ 0 ∷ []
unfolding bytes_of
two_zeros = refl

abbrev pub numbers_of : CardRequirement → List Field
numbers_of card = number_fields card.slot card.id_length card.id_offset card.bulk_start card.bulk_length

pub card_size_lem : (card : CardRequirement) → length card.id ≡ 16 → length (bytes_of_all (card_fields card)) ≡ 32
card_size_lem card n = fields_size_lem (card_fields card) ∙ omega arith

one_raw : (bytes : List ℕ) → bytes_of_all (raw bytes ∷ []) ≡ bytes
unfolding bytes_of_all
one_raw bytes = append-nil bytes

-- a card is its numbers and its name
pub card_parts : (card : CardRequirement) → bytes_of_all (card_fields card) ≡ bytes_of_all (numbers_of card) ++ card.id
card_parts card =
    fields_append (numbers_of card) (raw card.id ∷ []) ∙ ap (λ (l : List ℕ). bytes_of_all (numbers_of card) ++ l) (one_raw card.id)

cards_snoc : (cards : List CardRequirement) (card : CardRequirement) → cards_bytes (cards ++ (card ∷ [])) ≡ cards_bytes cards ++ bytes_of_all (card_fields card)
unfolding cards_bytes
cards_snoc [] card = append-nil (bytes_of_all (card_fields card))
cards_snoc (first ∷ cards) card =
    rw (cards_snoc cards card) (sym (append_assoc (bytes_of_all (card_fields first)) (cards_bytes cards) (bytes_of_all (card_fields card))))

-- the first cards of a table with the next one
pub cards_next : (cards : List CardRequirement) (i : ℕ) (past : CardRequirement) → i < length cards
    → cards_bytes (take (i + 1) cards) ≡ cards_bytes (take i cards) ++ bytes_of_all (card_fields (get_or cards i past))
cards_next cards i past h = rw (add-one, take-suc cards i past) (cards_snoc (take i cards) (get_or cards i past))

pub cards_none : cards_bytes [] ≡ []
unfolding cards_bytes
cards_none = refl
