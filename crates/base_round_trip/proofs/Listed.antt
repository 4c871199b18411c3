-- Cards and pools that are read from an accepted file are within the limits, and stand there as they are written.
use Prim.Native.Nat.{ℕ, zero, suc, ◌+◌, ◌*◌, ◌≤◌}
use mathlib.Core.Path.{◌≡◌, refl, sym, ap, ◌∙◌, subst}
use mathlib.Core.Bool.{true}
use mathlib.Core.List.{List, [], ◌∷◌}
use native.Mathlib.Nat.{add-zero}
use native.Mathlib.Omega.{arith}
use borrow.Author.Tests.{eqb-true}
use lib.Dec.{eqb}
use lib.ListN.{length, replicate}
use Rattle.base_format.specs.declared.card.CardRequirement.{CardRequirement}
use Rattle.base_format.specs.Bytes.{AllBytes, byte, part, all_zero, bytes_of_all}
use Rattle.base_format.specs.Card.{card_at, cards_from}
use Rattle.base_format.specs.Checked.{ok}
use Rattle.base_format.specs.Limits.{Each, CardFits, CardsFit, PoolFits}
use Rattle.base_format.specs.Pool.{Payload, pool_at, pools_from}
use Rattle.base_format.specs.Written.{card_fields, cards_bytes, entry_fields, directory_bytes, payloads_bytes}
use Rattle.base_format.proofs.Bytes.{part_length}
use Rattle.base_format.proofs.Checks.{given, and_true}
use Rattle.base_format.proofs.Steps.{CardFine, one_card_fine, card_step, pool_step}
use Rattle.base_round_trip.proofs.Each.{part_bytes}
use Rattle.base_field_laws.proofs.Places.{Holds, Took, took_none, took_both, took_part, took_fields}

zeros_of : (l : List ℕ) → all_zero l ≡ true → l ≡ replicate (length l) 0
zeros_of [] h = refl
zeros_of (b ∷ l) h =
    let both = and_true (eqb b 0) (all_zero l) h in
    λ i. eqb-true b 0 both.0 i ∷ zeros_of l both.1 i

-- a card that is read
card_taken : (file : List ℕ) (at least : ℕ) → AllBytes file → at + 32 ≤ length file → CardFine file at least (card_at file at)
    → CardFits least (card_at file at) × Took file at (at + 32) (bytes_of_all (card_fields (card_at file at)))
card_taken file at least bytes room fine =
    let rules = one_card_fine (card_at file at) fine.rules in
    let name-size : length (part file (at + 16) 16) ≡ 16 = part_length file (at + 16) 16 (omega arith) in
    let two : length (part file (at + 2) 2) ≡ 2 = part_length file (at + 2) 2 (omega arith) in
    let zeros : part file (at + 2) 2 ≡ 0 ∷ 0 ∷ [] = zeros_of (part file (at + 2) 2) fine.zeros ∙ ap (λ (k : ℕ). replicate k 0) two in
    let name : part file (at + 16) (length (part file (at + 16) 16)) ≡ part file (at + 16) 16 = ap (λ (k : ℕ). part file (at + 16) k) name-size in (
      record {
        rising = fine.rising;
        slot_range = rules.slot_range;
        named = rules.named;
        name_range = rules.name_range;
        name_size = name-size;
        name_bytes = part_bytes file (at + 16) 16 bytes;
        padded = rules.padded;
        offset_range = rules.offset_range;
        bulk_range = rules.bulk_range;
      },
      took_fields file at (at + 32) (card_fields (card_at file at)) bytes (omega arith) room (ap (byte file) (add-zero at), (refl, (zeros, (refl, (refl, (refl, (name, tt))))))),
    )

-- cards that are read
pub record CardsTaken (file : List ℕ) (count at least : ℕ) (cards : List CardRequirement) : Type 0 where
  pub counted : length cards ≡ count
  pub fit : CardsFit least cards
  pub took : Took file at (at + count * 32) (cards_bytes cards)

pub cards_taken : (file : List ℕ) → AllBytes file → (count at least : ℕ) (cards : List CardRequirement) → at ≤ length file → cards_from file count at least ≡ ok cards
    → CardsTaken file count at least cards
unfolding cards_from cards_bytes
cards_taken file bytes zero at least cards start e =
    given (CardsTaken file 0 at least) e (record { counted = refl; fit = tt; took = rw add-zero (took_none file at start) })
cards_taken file bytes (suc count) at least cards start e =
    let step = card_step file count at least cards e in
    let mine = card_taken file at least bytes step.room step.fine in
    let more = cards_taken file bytes count (at + 32) (byte file at + 1) step.others step.room step.from in
    let place : at + 32 + count * 32 ≡ at + suc count * 32 = omega arith in
    subst (CardsTaken file (suc count) at least) step.is (record {
      counted = ap suc more.counted;
      fit = (mine.0, more.fit);
      took = rw (← place) (took_both mine.1 more.took);
    })

-- pools that are read: their entries stand in the directory, and their payloads one after the other
pub record PoolsTaken (version : ℕ) (file : List ℕ) (directory count id start : ℕ) (found : List Payload × ℕ) : Type 0 where
  pub counted : length found.0 ≡ count
  pub fit : Each (PoolFits version) found.0
  pub entries : Took file (directory + id * 16) (directory + (id + count) * 16) (directory_bytes id start found.0)
  pub payloads : Took file start found.1 (payloads_bytes found.0)

pub pools_taken : (version : ℕ) (file : List ℕ) → AllBytes file → (directory count id start : ℕ) (found : List Payload × ℕ) → start ≤ length file
    → directory + (id + count) * 16 ≤ length file → pools_from version file directory count id start ≡ ok found
    → PoolsTaken version file directory count id start found
unfolding pools_from directory_bytes payloads_bytes
pools_taken version file bytes directory zero id start found inside room e =
    given (PoolsTaken version file directory 0 id start) e (record {
      counted = refl;
      fit = tt;
      entries = rw add-zero (took_none file (directory + id * 16) (omega arith));
      payloads = took_none file start inside;
    })
pools_taken version file bytes directory (suc count) id start found inside room e =
    let at = directory + id * 16 in
    let next = directory + suc id * 16 in
    let end = directory + (suc id + count) * 16 in
    let pool = pool_at file directory id in
    let n = pool.size in
    let step = pool_step version file directory count id start found e in
    let fine = step.fine in
    let fits = step.within in
    let others = step.others in
    let place : directory + (id + suc count) * 16 ≡ end = omega arith in
    let more = pools_taken version file bytes directory count (suc id) (start + n) others fits (omega arith) step.from in
    let mine : Payload = record { kind = pool.kind; bytes = part file start n } in
    let size : length mine.bytes ≡ n = part_length file start n fits in
    let fields = entry_fields id start mine in
    let numbers : Holds file at 0 fields = (rw add-zero fine.id_here, (refl, (fine.codec, (sym size, (rw size fine.again, (fine.here, tt)))))) in
    let entry : Took file at next (bytes_of_all fields) = took_fields file at next fields bytes (omega arith) (omega arith) numbers in
    let behind = subst (λ (k : ℕ). Took file next end (directory_bytes (suc id) (start + k) others.0)) (sym size) more.entries in
    subst (PoolsTaken version file directory (suc count) id start) step.is (record {
      counted = ap suc more.counted;
      fit = (record { kind_size = rw size fine.kind; pool_bytes = part_bytes file start n bytes }, more.fit);
      entries = rw place (took_both entry behind);
      payloads = took_both (took_part file start n fits) more.payloads;
    })
