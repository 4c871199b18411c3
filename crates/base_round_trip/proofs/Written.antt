-- A stream within the limits is written as bytes.
use Prim.Native.Nat.{ℕ, zero, suc, ◌+◌, ◌/◌, ◌%◌, ◌<◌}
use mathlib.Core.Path.{◌≡◌, refl}
use mathlib.Core.Bool.{Bool, true, false, cond, true≢false}
use mathlib.Core.List.{List, [], ◌∷◌, ◌++◌}
use native.Mathlib.Nat.{mod-lt}
use native.Mathlib.Omega.{arith}
use borrow.Author.Tests.{eqb-true, leb-true, ltb-true}
use lib.Dec.{eqb, leb, ltb, lit<}
use lib.ListN.{length}
use Rattle.base_format.specs.declared.card.CardRequirement.{CardRequirement}
use Rattle.base_format.specs.declared.operation.Operation.{Operation}
use Rattle.base_format.specs.declared.operation.Operation.TheVariants.{Write, Fill, Copy}
use Rattle.base_targets.specs.declared.Target.TheVariants.{Core, Pcm, Bank, Si22, Missing}
use Rattle.base_format.specs.Bytes.{AllBytes, bytes_of, Field, u8, u, raw, u16, u32, bytes_of_all}
use Rattle.base_format.specs.Limits.{Each, Bytes, OperationFits, FrameFits, CardsFit, PoolFits, Limits}
use Rattle.base_format.specs.Operation.{address_width}
use Rattle.base_format.specs.Pool.{Payload, kind_wrong}
use Rattle.base_format.specs.Stream.{Stream}
use Rattle.base_format.specs.Target.{slot_of, slot_target, target_of, missing}
use Rattle.base_format.specs.Written.{operation_fields, without_first, item_bytes, operations_bytes, frames_bytes, card_fields, cards_bytes, entry_fields, directory_bytes, payloads_bytes, payloads_place}
use Rattle.base_format.specs.Written.{header_in, plain_fields, pooled_fields, header_fields, body_bytes, written}
use Rattle.base_round_trip.proofs.Each.{each_append, all_bytes}
use Rattle.base_format.proofs.Steps.{KindIs, is_wave, is_pcm, is_bank, kind_is}

abbrev IsByte : ℕ → Type 0
IsByte b = b < 256

pub bytes_of_bytes : (width n : ℕ) → Bytes (bytes_of width n)
unfolding bytes_of
bytes_of_bytes zero n = tt
bytes_of_bytes (suc width) n = each_append IsByte (bytes_of width (n / 256)) (n % 256 ∷ []) (bytes_of_bytes width (n / 256)) (mod-lt n (lit< tt), tt)

-- fields whose single bytes are bytes
abbrev ByteFields : List Field → Type 0
ByteFields [] = Unit {0}
ByteFields (u8 n ∷ fields) = (n < 256) × ByteFields fields
ByteFields (u width n ∷ fields) = ByteFields fields
ByteFields (raw bytes ∷ fields) = Bytes bytes × ByteFields fields

fields_bytes : (fields : List Field) → ByteFields fields → Bytes (bytes_of_all fields)
unfolding bytes_of_all
fields_bytes [] h = tt
fields_bytes (u8 n ∷ fields) h = (h.0, fields_bytes fields h.1)
fields_bytes (u width n ∷ fields) h = each_append IsByte (bytes_of width n) (bytes_of_all fields) (bytes_of_bytes width n) (fields_bytes fields h)
fields_bytes (raw bytes ∷ fields) h = each_append IsByte bytes (bytes_of_all fields) h.0 (fields_bytes fields h.1)

-- a target that exists is at most 11
pub target_small : (version : ℕ) (cards : List CardRequirement) (target : ℕ) → missing (target_of version cards target) ≡ false → target < 256
unfolding target_of
target_small version cards target =
    go (ltb target 2) (eqb target 2) (eqb version 3) (eqb target 3) (eqb version 4) (leb target 10) (eqb target 11) refl refl refl refl refl
  where
    go : (core pcm three bank four slot synth : Bool) → ltb target 2 ≡ core → eqb target 2 ≡ pcm → eqb target 3 ≡ bank → leb target 10 ≡ slot → eqb target 11 ≡ synth
        → missing (cond core Core (cond pcm Pcm (cond three (cond bank Bank Missing) (cond four (cond slot (slot_target cards (slot_of target)) (cond synth Si22 Missing)) Missing)))) ≡ false
        → target < 256
    go true pcm three bank four slot synth a b c d f e = omega (arith, ltb-true target 2 a)
    go false true three bank four slot synth a b c d f e = omega (arith, eqb-true target 2 b)
    go false false true true four slot synth a b c d f e = omega (arith, eqb-true target 3 c)
    go false false true false four slot synth a b c d f e = absurd (true≢false e)
    go false false false bank true true synth a b c d f e = omega (arith, leb-true target 10 d)
    go false false false bank true false true a b c d f e = omega (arith, eqb-true target 11 f)
    go false false false bank true false false a b c d f e = absurd (true≢false e)
    go false false false bank false slot synth a b c d f e = absurd (true≢false e)

operation_bytes_lem : (version width : ℕ) (cards : List CardRequirement) (pools : List Payload) (operation : Operation) → OperationFits version cards pools operation
    → ByteFields (operation_fields width operation) × ByteFields (without_first (operation_fields width operation))
operation_bytes_lem version width cards pools (Write target address value) fits =
    let t = target_small version cards target fits.exists in
    ((lit< tt, (t, (fits.value_byte, tt))), (t, (fits.value_byte, tt)))
operation_bytes_lem version width cards pools (Fill target address size value) fits =
    let t = target_small version cards target fits.exists in
    ((lit< tt, (t, (fits.value_byte, tt))), (t, (fits.value_byte, tt)))
operation_bytes_lem version width cards pools (Copy target address pool source size) fits =
    let t = target_small version cards target fits.exists in
    ((lit< tt, (t, tt)), (t, tt))

module _ (version : ℕ) (cards : List CardRequirement) (pools : List Payload) where
  item_bytes_lem : (operation : Operation) → OperationFits version cards pools operation → Bytes (item_bytes version operation)
  unfolding item_bytes
  item_bytes_lem operation fits = go (eqb version 1)
    where
      go : (b : Bool) → Bytes (bytes_of_all (cond b (without_first (operation_fields 3 operation)) (operation_fields (address_width version) operation)))
      go true = fields_bytes (without_first (operation_fields 3 operation)) (operation_bytes_lem version 3 cards pools operation fits).1
      go false = fields_bytes (operation_fields (address_width version) operation) (operation_bytes_lem version (address_width version) cards pools operation fits).0

  operations_bytes_lem : (operations : List Operation) → Each (OperationFits version cards pools) operations → Bytes (operations_bytes version operations)
  unfolding operations_bytes
  operations_bytes_lem [] fits = tt
  operations_bytes_lem (operation ∷ operations) fits =
      each_append IsByte (item_bytes version operation) (operations_bytes version operations) (item_bytes_lem operation fits.0) (operations_bytes_lem operations fits.1)

  frames_bytes_lem : (frames : List (List Operation)) → Each (FrameFits version cards pools) frames → Bytes (frames_bytes version frames)
  unfolding frames_bytes
  frames_bytes_lem [] fits = tt
  frames_bytes_lem (frame ∷ frames) fits =
      each_append IsByte (bytes_of_all (u16 (length frame) ∷ [])) (operations_bytes version frame ++ frames_bytes version frames) (fields_bytes (u16 (length frame) ∷ []) tt)
      (each_append IsByte (operations_bytes version frame) (frames_bytes version frames) (operations_bytes_lem frame fits.0.operations) (frames_bytes_lem frames fits.1))

cards_bytes_lem : (least : ℕ) (cards : List CardRequirement) → CardsFit least cards → Bytes (cards_bytes cards)
unfolding cards_bytes
cards_bytes_lem least [] fits = tt
cards_bytes_lem least (card ∷ cards) fits =
    let f = fits.0 in
    let mine = fields_bytes (card_fields card) (omega (arith, f.slot_range), (omega (arith, f.name_range), ((lit< tt, (lit< tt, tt)), (f.name_bytes, tt)))) in
    each_append IsByte (bytes_of_all (card_fields card)) (cards_bytes cards) mine (cards_bytes_lem (card.slot + 1) cards fits.1)

-- a kind is 1, 2 or 3
kind_small : (version kind size : ℕ) → kind_wrong version kind size ≡ false → kind < 256
kind_small version kind size e = go (kind_is version kind size e)
  where
    go : KindIs version kind size → kind < 256
    go (is_wave k same) = omega arith
    go (is_pcm k low high) = omega arith
    go (is_bank k low high) = omega arith

directory_bytes_lem : (version id start : ℕ) (pools : List Payload) → Each (PoolFits version) pools → Bytes (directory_bytes id start pools)
unfolding directory_bytes
directory_bytes_lem version id start [] fits = tt
directory_bytes_lem version id start (pool ∷ pools) fits =
    each_append IsByte (bytes_of_all (entry_fields id start pool)) (directory_bytes (suc id) (start + length pool.bytes) pools)
    (fields_bytes (entry_fields id start pool) (kind_small version pool.kind (length pool.bytes) fits.0.kind_size, (lit< tt, tt)))
    (directory_bytes_lem version (suc id) (start + length pool.bytes) pools fits.1)

payloads_bytes_lem : (version : ℕ) (pools : List Payload) → Each (PoolFits version) pools → Bytes (payloads_bytes pools)
unfolding payloads_bytes
payloads_bytes_lem version [] fits = tt
payloads_bytes_lem version (pool ∷ pools) fits = each_append IsByte pool.bytes (payloads_bytes pools) fits.0.pool_bytes (payloads_bytes_lem version pools fits.1)

header_bytes : (s : Stream) → Limits s → ByteFields (header_fields (header_in s))
header_bytes s within = (omega (arith, within.last_version), (lit< tt, (repeat s.repeat, (lit< tt, go (eqb s.version 1)))))
  where
    repeat : (b : Bool) → cond b 1 0 < 256
    repeat true = lit< tt
    repeat false = lit< tt

    late : (b : Bool) → ByteFields (cond b (u32 s.period ∷ u32 0 ∷ []) [])
    late true = tt
    late false = tt

    go : (one : Bool) → ByteFields (cond one (plain_fields (header_in s)) (pooled_fields (header_in s)))
    go true = tt
    go false = (omega (arith, within.card_count), (lit< tt, late (eqb s.version 4)))

pub written_bytes : (s : Stream) → Limits s → AllBytes (written s)
unfolding written body_bytes
written_bytes s within =
    let v = s.version in
    let fs = frames_bytes v s.frames in
    let os = operations_bytes v s.opening in
    let ps = payloads_bytes s.pools in
    let ds = directory_bytes 0 (payloads_place s) s.pools in
    all_bytes (written s) (each_append IsByte (bytes_of_all (header_fields (header_in s))) (body_bytes s) (fields_bytes (header_fields (header_in s)) (header_bytes s within))
    (each_append IsByte (cards_bytes s.cards) (ds ++ (ps ++ (os ++ fs))) (cards_bytes_lem 0 s.cards within.cards_fit)
    (each_append IsByte ds (ps ++ (os ++ fs)) (directory_bytes_lem v 0 (payloads_place s) s.pools within.pools_fit)
    (each_append IsByte ps (os ++ fs) (payloads_bytes_lem v s.pools within.pools_fit)
    (each_append IsByte os fs (operations_bytes_lem v s.cards s.pools s.opening within.opening_fits) (frames_bytes_lem v s.cards s.pools s.frames within.frames_fit))))))
