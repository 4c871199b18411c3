-- Reading the cards one by one: what is still to do decides.
use Prim.Native.Nat.{ℕ, suc, ◌+◌, ◌-◌, ◌≤◌, ◌<◌}
use mathlib.Core.Path.{◌≡◌, refl, sym, ap}
use mathlib.Core.Bool.{Bool, true, false, ◌||◌}
use mathlib.Core.List.{List, [], ◌∷◌, ◌++◌, append-nil}
use native.Mathlib.Omega.{arith}
use lib.Dec.{ltb, lit≤}
use lib.ListN.{length, set, replicate, length-append}
use lib.Seq.{append_snoc}
use Rattle.base_format.specs.declared.card.CardRequirement.{CardRequirement}
use Rattle.base_format.specs.declared.card.CardTable.{CardTable}
use Rattle.base_format.specs.Bytes.{byte}
use Rattle.base_format.specs.Card.{card_at, card_wrong, cards_from}
use Rattle.base_format.specs.Checked.{Checked, ok, refused, refuse, mapped, ◌>>=◌, ◌>>◌}
use Rattle.base_format.specs.State.{no_card, table_of}
use Rattle.base_format.proofs.Checks.{passed_last}
use Rattle.base_format.proofs.Steps.{card_fine, one_card_fine}
use Rattle.check_cards.specs.Cards.{card_place, cards_after}
use Rattle.check_card.proofs.Lists.{padded, padded_next}

-- one card, then the others
pub cards_step : (file : List ℕ) (count i least : ℕ) (seen : List CardRequirement) → i < count
    → cards_after file count i least seen
    ≡ (refuse 7 (card_place i) (ltb (length file) (card_place i + 32)) >> (refuse 7 (card_place i) (card_wrong file (card_place i) least (card_at file (card_place i)))
    >> cards_after file count (i + 1) (byte file (card_place i) + 1) (seen ++ (card_at file (card_place i) ∷ []))))
unfolding cards_from
cards_step file count i least seen h =
    let at = card_place i in
    let left : count - i ≡ suc (count - (i + 1)) = omega arith in
    let next : card_place (i + 1) ≡ at + 32 = omega arith in
    rw (left, next) (go at (ltb (length file) (at + 32)) (card_wrong file at least (card_at file at)) (card_at file at) (cards_from file (count - (i + 1)) (at + 32) (byte file at + 1)))
  where
    go : (at : ℕ) (short wrong : Bool) (card : CardRequirement) (rest : Checked (List CardRequirement))
        → mapped (λ (more : List CardRequirement). table_of (seen ++ more)) (refuse 7 at (short || wrong) >> (rest >>= λ cards. ok (card ∷ cards)))
        ≡ (refuse 7 at short >> (refuse 7 at wrong >> mapped (λ (more : List CardRequirement). table_of ((seen ++ (card ∷ [])) ++ more)) rest))
    go at true wrong card rest = refl
    go at false true card rest = refl
    go at false false card (ok cards) = ap (λ (all : List CardRequirement). ok (table_of all)) (sym (append_snoc seen card cards))
    go at false false card (refused number place) = refl

-- behind the last card
pub cards_end : (file : List ℕ) (count least : ℕ) (seen : List CardRequirement) → cards_after file count count least seen ≡ ok (table_of seen)
unfolding cards_from
cards_end file count least seen =
    let none : count - count ≡ 0 = omega arith in
    rw (none, append-nil)

-- the cards that are seen, so many that `i` counts them, stand in the table, and what is still to do decides
pub record Seen (file : List ℕ) (count : ℕ) (table : List CardRequirement) (least i : ℕ) : Type 0 where
  pub seen : List CardRequirement
  pub counted : length seen ≡ i
  pub stands : table ≡ padded 8 no_card seen
  pub rising : i ≤ least
  pub top : least ≤ 8
  pub rest : mapped table_of (cards_from file count 48 0) ≡ cards_after file count i least seen

pub seen_none : (file : List ℕ) (count : ℕ) → Seen file count (replicate 8 no_card) 0 0
seen_none file count =
    let whole : count - 0 ≡ count = omega arith in
    record { seen = []; counted = refl; stands = refl; rising = lit≤ tt; top = lit≤ tt; rest = rw whole (go (cards_from file count 48 0)) }
  where
    go : (cards : Checked (List CardRequirement)) → mapped table_of cards ≡ mapped (λ (more : List CardRequirement). table_of ([] ++ more)) cards
    go (ok cards) = refl
    go (refused number place) = refl

-- a card that breaks no rule has a slot of the eight, and is not the ninth
pub fine_card : (file : List ℕ) (at i least : ℕ) (card : CardRequirement) → i ≤ least → ok tt ≡ refuse 7 at (card_wrong file at least card) → (i ≤ card.slot) × (card.slot ≤ 7)
fine_card file at i least card rising e =
    let fine = card_fine file at least card (passed_last 7 at (card_wrong file at least card) (sym e)) in
    (omega (arith, fine.rising), (one_card_fine card fine.rules).slot_range)

-- a card that is not refused is put into the table
pub seen_next : (file : List ℕ) (count : ℕ) (table : List CardRequirement) (least i : ℕ) → i < count → Seen file count table least i
    → ok tt ≡ refuse 7 (card_place i) (ltb (length file) (card_place i + 32))
    → ok tt ≡ refuse 7 (card_place i) (card_wrong file (card_place i) least (card_at file (card_place i)))
    → Seen file count (set table i (card_at file (card_place i))) (byte file (card_place i) + 1) (i + 1)
seen_next file count table least i more s room fine =
    let card : CardRequirement = card_at file (card_place i) in
    let slot = fine_card file (card_place i) i least card s.rising fine in
    record {
      seen = s.seen ++ (card ∷ []);
      counted = rw length-append (omega (arith, s.counted));
      stands = rw s.stands (padded_next 8 no_card s.seen i card s.counted (omega (arith, slot.0, slot.1)));
      rising = omega (arith, slot.0);
      top = omega (arith, slot.1);
      rest = rw (s.rest, cards_step file count i least s.seen more, ← room, ← fine);
    }

-- every card is seen
pub seen_all : (file : List ℕ) (count : ℕ) (table : List CardRequirement) (least i : ℕ) → i ≡ count → Seen file count table least i
    → ok (record { cards = table; count = count }) ≡ mapped table_of (cards_from file count 48 0)
unfolding table_of
seen_all file count table least i e s =
    let all : count ≡ length s.seen = omega (arith, s.counted) in
    rw (s.rest, e, cards_end file count least s.seen, s.stands)
    (ap (λ (n : ℕ). let t : CardTable = record { cards = padded 8 no_card s.seen; count = n } in ok t) all)
