-- Cards and pools that are written, read.
use Prim.Native.Nat.{ℕ, zero, suc, ◌+◌, ◌*◌, ◌^◌, ◌≤◌, ◌<◌}
use mathlib.Core.Path.{◌≡◌, refl}
use mathlib.Core.Bool.{false}
use mathlib.Core.List.{List, [], ◌∷◌, ◌++◌, append_assoc}
use native.Mathlib.Nat.{add-zero, add_assoc, le_of_suc-le-suc, not-suc-le-zero}
use native.Mathlib.Omega.{arith}
use borrow.Author.Tests.{le-ltb, eq-eqb, ne_eqb}
use lib.Dec.{lit<}
use lib.ListN.{length, get_or, drop, length-append}
use Rattle.base_format.specs.declared.card.CardRequirement.{CardRequirement}
use Rattle.base_format.specs.Bytes.{byte, be, part, bytes_of_all}
use Rattle.base_format.specs.Card.{card_at, one_card_wrong, card_wrong, cards_from}
use Rattle.base_format.specs.Checked.{ok}
use Rattle.base_format.specs.Limits.{Each, CardFits, CardsFit, PoolFits}
use Rattle.base_format.specs.Pool.{no_pool, Payload, pool_at, pool_wrong, pools_from}
use Rattle.base_format.specs.Written.{card_fields, cards_bytes, entry_fields, directory_bytes, payloads_bytes}
use Rattle.base_format.proofs.Rules.{EntryFor}
use Rattle.base_format.proofs.Bytes.{behind, part_here}
use Rattle.base_format.proofs.Fields.{fields_size_lem}
use Rattle.base_format.proofs.Written.{card_size_lem}
use Rattle.base_field_laws.proofs.Places.{Holds, Fit, holds}

-- the card rules let a card within the limits pass
card_passes : (file : List ℕ) (at least : ℕ) (card : CardRequirement) → CardFits least card → part file (at + 2) 2 ≡ 0 ∷ 0 ∷ [] → card_wrong file at least card ≡ false
unfolding card_wrong one_card_wrong
card_passes file at least card f zeros =
    let n = card.id_length in
    rw (
      le-ltb card.slot least f.rising,
      zeros,
      le-ltb 7 card.slot f.slot_range,
      ne_eqb n 0 (λ e. omega (arith, e, f.named)),
      le-ltb 16 n f.name_range,
      f.padded,
      le-ltb 0x2000000 (card.id_offset + n) f.offset_range,
      le-ltb 0x2000000 (card.bulk_start + card.bulk_length) f.bulk_range,
    )

-- cards one after the other
pub cards_here : (file : List ℕ) (at least : ℕ) (cards : List CardRequirement) (rest : List ℕ)
    → CardsFit least cards
    → drop at file ≡ cards_bytes cards ++ rest
    → at + length (cards_bytes cards) ≤ length file
    → cards_from file (length cards) at least ≡ ok cards
unfolding cards_from cards_bytes
cards_here file at least [] rest fits here inside = refl
cards_here file at least (card ∷ cards) rest fits here inside =
    let mine = bytes_of_all (card_fields card) in
    let others = cards_bytes cards in
    let f : CardFits least card = fits.0 in
    let here' : drop at file ≡ mine ++ (others ++ rest) = rw append_assoc at here in
    let thirty : length mine ≡ 32 = card_size_lem card f.name_size in
    let sum : length (mine ++ others) ≡ 32 + length others = simp (length-append, thirty) in
    let big : ◌<◌ 0x2000000 (256 ^ 4) = lit< tt in
    let small : Fit (card_fields card) = (omega (arith, f.offset_range, f.bulk_range), (omega (arith, f.bulk_range), (omega (arith, f.bulk_range), tt))) in
    let h : Holds file at 0 (card_fields card) = holds file at 0 (card_fields card) (others ++ rest) (rw add-zero here') small in
    let slot : byte file at ≡ card.slot = rw add-zero at h.0 in
    let name : part file (at + 16) 16 ≡ card.id = rw f.name_size at h.1.1.1.1.1.1.0 in
    let same : card_at file at ≡ card = rw (slot, h.1.0, h.1.1.1.0, h.1.1.1.1.0, h.1.1.1.1.1.0, name) in
    let fine : card_wrong file at least card ≡ false = card_passes file at least card f h.1.1.0 in
    let next : drop (at + 32) file ≡ others ++ rest = rw thirty at (behind file at (others ++ rest) mine here') in
    rw (le-ltb (length file) (at + 32) (omega arith), same, fine, slot, cards_here file (at + 32) (card.slot + 1) cards rest fits.1 next (omega arith))

-- an entry of the directory
entry_here : (file : List ℕ) (directory id start : ℕ) (pool : Payload) (rest : List ℕ)
    → id < 256 ^ 2
    → start + length pool.bytes < 256 ^ 4
    → drop (directory + id * 16) file ≡ bytes_of_all (entry_fields id start pool) ++ rest
    → Holds file (directory + id * 16) 0 (entry_fields id start pool)
entry_here file directory id start pool rest i n here =
    let small : length pool.bytes < 256 ^ 4 = omega arith in
    let early : start < 256 ^ 4 = omega arith in
    holds file (directory + id * 16) 0 (entry_fields id start pool) rest (rw add-zero here) (i, (small, (small, (early, tt))))

next_entry : (file : List ℕ) (directory id start : ℕ) (pool : Payload) (rest : List ℕ)
    → drop (directory + id * 16) file ≡ bytes_of_all (entry_fields id start pool) ++ rest → drop (directory + suc id * 16) file ≡ rest
next_entry file directory id start pool rest here =
    let place : directory + id * 16 + 16 ≡ directory + suc id * 16 = omega arith in
    rw (fields_size_lem (entry_fields id start pool), place) at (behind file (directory + id * 16) rest (bytes_of_all (entry_fields id start pool)) here)

-- pools one after the other, with their payloads
pub pools_here : (version : ℕ) (file : List ℕ) (directory id start : ℕ) (pools : List Payload) (rest rest' : List ℕ)
    → Each (PoolFits version) pools
    → id + length pools ≤ 256 ^ 2
    → start + length (payloads_bytes pools) < 256 ^ 4
    → drop (directory + id * 16) file ≡ directory_bytes id start pools ++ rest
    → drop start file ≡ payloads_bytes pools ++ rest'
    → start + length (payloads_bytes pools) ≤ length file
    → pools_from version file directory (length pools) id start ≡ ok (pools, start + length (payloads_bytes pools))
unfolding pools_from directory_bytes payloads_bytes pool_wrong
pools_here version file directory id start [] rest rest' fits ids small here here' inside = rw add-zero
pools_here version file directory id start (pool ∷ pools) rest rest' fits ids small here here' inside =
    let n = length pool.bytes in
    let others = directory_bytes (suc id) (start + n) pools in
    let payloads = payloads_bytes pools in
    let sum : length (pool.bytes ++ payloads) ≡ n + length payloads = length-append pool.bytes payloads in
    let entry : drop (directory + id * 16) file ≡ bytes_of_all (entry_fields id start pool) ++ (others ++ rest) = rw append_assoc at here in
    let bytes : drop start file ≡ pool.bytes ++ (payloads ++ rest') = rw append_assoc at here' in
    let h : Holds file (directory + id * 16) 0 (entry_fields id start pool) = entry_here file directory id start pool (others ++ rest) (omega arith) (omega arith) entry in
    let id-read : be 2 file (directory + id * 16) ≡ id = rw add-zero at h.0 in
    let entries = next_entry file directory id start pool (others ++ rest) entry in
    let bytes' = behind file start (payloads ++ rest') pool.bytes bytes in
    let more = pools_here version file directory (suc id) (start + n) pools rest rest' fits.1 (omega arith) (omega arith) entries bytes' (omega arith) in
    rw (
      id-read,
      h.1.0,
      h.1.1.0,
      h.1.1.1.0,
      h.1.1.1.1.0,
      h.1.1.1.1.1.0,
      eq-eqb id id refl,
      fits.0.kind_size,
      eq-eqb n n refl,
      eq-eqb start start refl,
      le-ltb (length file) (start + n) (omega arith),
      more,
      part_here file start (payloads ++ rest') pool.bytes bytes,
      sum,
      add_assoc,
    )

-- what the directory says of a pool
pub entries_here : (file : List ℕ) (directory id start : ℕ) (pools : List Payload) (rest : List ℕ)
    → id + length pools ≤ 256 ^ 2
    → start + length (payloads_bytes pools) < 256 ^ 4
    → drop (directory + id * 16) file ≡ directory_bytes id start pools ++ rest
    → (k : ℕ) → k < length pools
    → EntryFor (get_or pools k no_pool) (pool_at file directory (id + k))
unfolding directory_bytes payloads_bytes
entries_here file directory id start [] rest ids small here k h = absurd (not-suc-le-zero h)
entries_here file directory id start (pool ∷ pools) rest ids small here zero h =
    let others = directory_bytes (suc id) (start + length pool.bytes) pools in
    let sum : length (pool.bytes ++ payloads_bytes pools) ≡ length pool.bytes + length (payloads_bytes pools) = length-append pool.bytes (payloads_bytes pools) in
    let e : Holds file (directory + id * 16) 0 (entry_fields id start pool) = entry_here file directory id start pool (others ++ rest) (omega arith) (omega arith) (rw append_assoc at here) in
    rw add-zero (e.1.0, e.1.1.1.0)
entries_here file directory id start (pool ∷ pools) rest ids small here (suc k) h =
    let n = length pool.bytes in
    let others = directory_bytes (suc id) (start + n) pools in
    let sum : length (pool.bytes ++ payloads_bytes pools) ≡ n + length (payloads_bytes pools) = length-append pool.bytes (payloads_bytes pools) in
    let place : id + suc k ≡ suc id + k = omega arith in
    let entries = next_entry file directory id start pool (others ++ rest) (rw append_assoc at here) in
    rw place (entries_here file directory (suc id) (start + n) pools rest (omega arith) (omega arith) entries k (le_of_suc-le-suc h))
