-- The records of one operation: of one value, upward from its address, and then the next operation's.
use Rattle.std.proofs.Common.{◌≡◌, ℕ, zero, suc, ◌+◌, ◌-◌, ◌%◌, ◌^◌, ◌<◌, ◌≤◌, List, ◌∷◌, length, take, drop, replicate, sym, refl, ap, ◌∙◌, add-zero, mod-eq_of_lt, suc-add, arith, le-ltb, lt-ltb}
use Rattle.base_format.specs.declared.operation.WriteRecord.{WriteRecord}
use Rattle.base_format.specs.Bytes.{byte, part}
use Rattle.base_format.specs.Operation.{address_width}
use Rattle.base_format.proofs.Sizes.{width_range}
use Rattle.base_format.specs.Writes.{write, upward}
use Rattle.bytes_operation.specs.declared.decode.Decoded.{Decoded}
use Rattle.bytes_operation.specs.Decoded.{decoded_at, decoded_operation}
use Rattle.bytes_operation_known.proofs.Laws.{fill_length_lem, fill_value_lem, fill_size_lem}
use Rattle.play_fast_fill_records.specs.declared.FillPlace.{FillPlace}
use Rattle.play_fast_fill_records.specs.Records.{fill_place, next_fill, fill_records, place_after}
use Rattle.play_fast_fill_records.proofs.Records.{after_next}

-- WRITES OF ONE VALUE

module _ (target value : ℕ) where
  pub drop_upward : (d n address : ℕ) → drop d (upward target address (replicate (d + n) value)) ≡ upward target (address + d) (replicate n value)
  unfolding upward
  drop_upward zero n address =
      let none : 0 + n ≡ n = omega arith in
      rw (none, add-zero)
  drop_upward (suc d) n address =
      let place : address + 1 + d ≡ address + suc d = omega arith in
      rw (suc-add d n, ← place) (drop_upward d n (address + 1))

  pub take_upward : (n m address : ℕ) → take n (upward target address (replicate (n + m) value)) ≡ upward target address (replicate n value)
  unfolding upward
  take_upward zero m address = refl
  take_upward (suc n) m address = rw (suc-add n m) (ap (λ (l : List WriteRecord). write target address value ∷ l) (take_upward n m (address + 1)))

-- WITHIN AN OPERATION

-- the place so many records further
abbrev further : (n : ℕ) → FillPlace → FillPlace
further n p =
    record { target = p.target; address = p.address + n; value = p.value; left = p.left - n; cursor = p.cursor; made = p.made }

module _ (file : List ℕ) (version : ℕ) where
  next_further : (p : FillPlace) → 0 < p.left → p.address + 1 < 2 ^ 32 → next_fill file version p ≡ further 1 p
  unfolding next_fill
  next_further p some small = rw (lt-ltb 0 p.left some, mod-eq_of_lt small)

  further_records : (n : ℕ) (p : FillPlace) → n ≤ p.left → p.address + n < 2 ^ 32 → fill_records file version n p ≡ upward p.target (p.address + 1) (replicate n p.value)
  unfolding fill_records upward
  further_records zero p few small = refl
  further_records (suc n) p few small =
      rw (next_further p (omega arith) (omega arith)) (ap (λ (l : List WriteRecord). write p.target (p.address + 1) p.value ∷ l) (further_records n (further 1 p) (omega arith) (omega arith)))

  further_after : (n : ℕ) (p : FillPlace) → n ≤ p.left → p.address + n < 2 ^ 32 → place_after file version n p ≡ further n p
  unfolding place_after
  further_after zero p few small =
      let left : p.left - 0 ≡ p.left = omega arith in
      rw (add-zero, left)
  further_after (suc n) p few small =
      let address : p.address + n + 1 ≡ p.address + suc n = omega arith in
      let left : p.left - n - 1 ≡ p.left - suc n = omega arith in
      rw (further_after n p (omega arith) (omega arith)) (next_further (further n p) (omega arith) (omega arith) ∙ rw (address, left))

  -- where no record is left the next operation's come
  next_fresh : (p : FillPlace) → p.left ≡ 0 → next_fill file version p ≡ next_fill file version (fill_place p.cursor p.made)
  unfolding next_fill
  next_fresh p none = rw none

  records_fresh : (n : ℕ) (p : FillPlace) → p.left ≡ 0 → fill_records file version n p ≡ fill_records file version n (fill_place p.cursor p.made)
  unfolding fill_records
  records_fresh zero p none = refl
  records_fresh (suc n) p none = rw (next_fresh p none)

  module _ (at made : ℕ) (inside : at + 16 ≤ length file) where
    -- the operation there
    abbrev item : Decoded
    item = decoded_at (address_width version) file at

    module _ (low : item.opcode ≤ 1) (more : made < item.length) (small : item.address + item.length ≤ 2 ^ 32) where
      -- its first record, by the reader's numbers
      abbrev first : FillPlace
      first =
          record {
            target = item.target;
            address = (item.address + made) % 2 ^ 32;
            value = item.value;
            left = item.length - made - 1;
            cursor = at + item.size;
            made = 0;
          }

      first_is : next_fill file version (fill_place at made) ≡ first
      unfolding next_fill
      first_is =
          let range = width_range version in
          let bytes = part file at 16 in
          let opcode : byte bytes 0 ≤ 1 = unfold decoded_operation in low in
          rw (
            le-ltb _ _ inside,
            fill_value_lem (address_width version) bytes opcode,
            fill_length_lem (address_width version) bytes opcode,
            fill_size_lem (address_width version) bytes opcode range.0 range.1,
          )

      wraps : (item.address + made) % 2 ^ 32 ≡ item.address + made
      wraps = mod-eq_of_lt (omega arith)

      -- so many of those that are not made yet
      pub operation_records : (n : ℕ) → made + n ≤ item.length
          → fill_records file version n (fill_place at made) ≡ upward item.target (item.address + made) (replicate n item.value)
      unfolding fill_records upward
      operation_records zero few = refl
      operation_records (suc n) few =
          rw (first_is, wraps)
          (ap (λ (l : List WriteRecord). write item.target (item.address + made) item.value ∷ l)
          (further_records n
          (record { target = item.target; address = item.address + made; value = item.value; left = item.length - made - 1; cursor = at + item.size; made = 0 })
          (omega arith)
          (omega arith)))

      -- behind all of them
      pub operation_after : (n : ℕ)
          → fill_records file version n (place_after file version (item.length - made) (fill_place at made)) ≡ fill_records file version n (fill_place (at + item.size) 0)
      unfolding place_after
      operation_after n =
          let others : ℕ = item.length - made - 1 in
          let one : item.length - made ≡ suc others = omega arith in
          let last = sym (after_next file version others (fill_place at made)) ∙ ap (place_after file version others) first_is ∙ further_after others first (omega arith) (omega (arith, wraps)) in
          let none : others - others ≡ 0 = omega arith in
          rw (one, last) (records_fresh n (further others first) none)
