-- What a quick test passes is one step of the walk over items.
use Prim.Native.Nat.{ℕ, ◌+◌, ◌*◌, ◌≤◌, ◌<◌}
use mathlib.Core.Path.{◌≡◌, refl}
use mathlib.Core.Bool.{Bool, true, false, cond, ◌||◌, true≢false, false≢true}
use mathlib.Core.List.{List}
use native.Mathlib.Omega.{arith}
use borrow.Author.Tests.{ltb-false, leb-false, eqb-true, ne_eqb, not-true}
use lib.Dec.{eqb, leb, ltb}
use lib.ListN.{length}
use Rattle.base_format.specs.declared.card.CardRequirement.{CardRequirement}
use Rattle.base_targets.specs.declared.Target.{Target}
use Rattle.base_format.specs.declared.operation.Operation.TheVariants.{Write, Fill, Copy}
use Rattle.base_format.specs.Bytes.{byte, part}
use Rattle.base_format.specs.Checked.{ok}
use Rattle.base_format.specs.Operation.{Setting, address_width, allowed}
use Rattle.base_format.specs.Pool.{pool_at}
use Rattle.base_format.specs.Target.{target_of, missing}
use Rattle.base_format.specs.Writes.{target_number}
use Rattle.base_format.proofs.Bytes.{byte_part, be_part}
use Rattle.base_format.proofs.Sizes.{size_most, width_range}
use Rattle.bytes_operation.specs.declared.decode.Decoded.{Decoded}
use Rattle.bytes_operation.specs.Decoded.{decoded_operation, decoded_record, decoded_item, operation_of}
use Rattle.bytes_operation.proofs.Laws.{item_decoded}
use Rattle.check_items.specs.Walk.{walk_step}
use Rattle.check_fast_limits.specs.Limits.{limits_for, limit_table, limits_at}
use Rattle.check_fast_limits.proofs.Tabled.{limits_at_lem}
use Rattle.check_fast_rules.specs.Quick.{out_of_bulk, pool_fits}
use Rattle.check_fast.specs.declared.item.Quick.{Quick}
use Rattle.check_fast.specs.Passes.{write_passes, fill_passes, copy_passes, item_passes, record_passes, none, quick_operation}
use Rattle.check_fast.specs.Run.{record_test, operation_test, has_si22}
use Rattle.check_fast.proofs.Passed.{write_there, write_passes_lem, fill_passes_lem, pool_right, copy_passes_lem}
use Rattle.check_fast.proofs.Runs.{Steps}

-- what a file's operations go by
abbrev pub setting : (version : ℕ) → List CardRequirement → (pools directory : ℕ) → List ℕ → Setting
setting version cards pools directory file =
    record { version = version; cards = cards; pools = pools; pool_of = pool_at file directory }

-- a choice that is true
chosen : (b c : Bool) → cond b false c ≡ true → (b ≡ false) × (c ≡ true)
chosen true c h = absurd (false≢true h)
chosen false c h = (refl, h)

-- WHAT IS PASSED IS ALLOWED

module _ (version : ℕ) (cards : List CardRequirement) (pools directory : ℕ) (file : List ℕ) (at : ℕ) (item : Decoded) where
  abbrev s : Setting
  s = setting version cards pools directory file

  abbrev target : Target
  target = target_of version cards item.target

  copy_allowed : item.opcode ≡ 2 → copy_passes file pools directory (limits_for target) item ≡ true → allowed s at (operation_of item) ≡ ok tt
  unfolding copy_passes pool_fits operation_of allowed
  copy_allowed is e =
      let entry = directory + item.pool * 16 in
      let first = chosen (out_of_bulk item.address item.length _ _) _ e in
      let second = chosen (leb pools item.pool) _ first.1 in
      let third = chosen (ltb (length file) (entry + 16)) _ second.1 in
      let fits = rw (be_part 4 file entry 16 4 (omega arith), byte_part file entry 16 2 (omega arith)) at third.1 in
      rw is
      (copy_passes_lem at version pools target item.address item.pool (pool_at file directory item.pool) item.source item.length first.0 second.0
      (pool_right target (pool_at file directory item.pool) item.address item.source item.length fits))

  -- an item that is passed has an opcode of the sheet, and the rules 15 to 19 allow it
  abbrev Allowed : Type 0
  Allowed = (item.opcode ≤ 2) × (allowed s at (operation_of item) ≡ ok tt)

  item_allowed : item_passes file pools directory (limits_for target) item ≡ true → Allowed
  unfolding item_passes write_passes fill_passes operation_of allowed
  item_allowed = write (eqb item.opcode 0) refl
    where
      copy : (b : Bool) → eqb item.opcode 2 ≡ b → cond b (copy_passes file pools directory (limits_for target) item) false ≡ true → Allowed
      copy false e h = absurd (false≢true h)
      copy true e h =
          let is : item.opcode ≡ 2 = eqb-true _ _ e in
          (omega arith, copy_allowed is h)

      fill : (b : Bool) → eqb item.opcode 1 ≡ b → cond b (fill_passes (limits_for target) item) (cond (eqb item.opcode 2) (copy_passes file pools directory (limits_for target) item) false) ≡ true → Allowed
      fill false e h = copy (eqb item.opcode 2) refl h
      fill true e h =
          let is : item.opcode ≡ 1 = eqb-true _ _ e in
          (omega arith, rw is (fill_passes_lem at target item.address item.length (not-true _ h)))

      write : (b : Bool) → eqb item.opcode 0 ≡ b
          → cond b (write_passes (limits_for target) item) (cond (eqb item.opcode 1) (fill_passes (limits_for target) item) (cond (eqb item.opcode 2) (copy_passes file pools directory (limits_for target) item) false)) ≡ true
          → Allowed
      write false e h = fill (eqb item.opcode 1) refl h
      write true e h =
          let is : item.opcode ≡ 0 = eqb-true _ _ e in
          (omega arith, rw is (write_passes_lem at target item.address h))

-- ONE STEP

-- the target of an operation is the one that the reader gave
target_kept : (item : Decoded) → target_number (operation_of item) ≡ item.target
unfolding operation_of
target_kept item = go (eqb item.opcode 0) (eqb item.opcode 1)
  where
    go : (write fill : Bool)
        → target_number (cond write (Write item.target item.address item.value)
        (cond fill (Fill item.target item.address item.length item.value) (Copy item.target item.address item.pool item.source item.length)))
        ≡ item.target
    go true fill = refl
    go false true = refl
    go false false = refl

module _ (version : ℕ) (cards : List CardRequirement) (pools directory : ℕ) (file : List ℕ) (limit last at : ℕ) (room : last + 16 ≤ limit) (near : at ≤ last) where
  -- an item of the version that is passed by the limits of its target
  item_step : (seen : Bool) (item : Decoded) → item ≡ decoded_item version (part file at 16) → item.size ≤ 16 → item.target < 12
      → item_passes file pools directory (limits_at (limit_table version cards) item.target) item ≡ true
      → walk_step seen (setting version cards pools directory file) file limit at ≡ ok (at + item.size, seen || eqb item.target 11)
  item_step seen item e small below passed =
      let fine = item_allowed version cards pools directory file at item (rw (limits_at_lem version cards item.target below) at passed) in
      let step = item_decoded (setting version cards pools directory file) file limit at (rw (← e) fine.0) (rw (← e) (omega arith)) in
      rw (step, ← e, fine.1, target_kept item)

-- in version 1 no target is 11
no_si22 : (version : ℕ) (cards : List CardRequirement) (number : ℕ) → eqb version 1 ≡ true → missing (target_of version cards number) ≡ false → eqb number 11 ≡ false
unfolding target_of
no_si22 version cards number one there = ne_eqb number 11 (λ e. true≢false (rw (e, eqb-true version 1 one) at there))

-- an operation has at most 16 bytes
small : (b : Bool) (size : ℕ) → (b ≡ false → size ≤ 16) → cond b 0 size ≤ 16
small true size h = omega arith
small false size h = h refl

operation_small : (width : ℕ) (bytes : List ℕ) → 3 ≤ width → width ≤ 4 → (decoded_operation width bytes).size ≤ 16
unfolding decoded_operation
operation_small width bytes low high =
    small (ltb 2 (byte bytes 0)) _ (λ e. size_most width (byte bytes 0) low high (ltb-false 2 (byte bytes 0) e))

pub quick_small : (width : ℕ) (file : List ℕ) (pools directory : ℕ) (table : List (List ℕ)) (bytes : List ℕ) → 3 ≤ width → width ≤ 4 → (quick_operation width file pools directory table bytes).size ≤ 16
unfolding quick_operation
quick_small width file pools directory table bytes low high = go (leb 12 item.target) (ltb 2 item.opcode)
  where
    item : Decoded
    item = decoded_operation width bytes

    go : (past unknown : Bool) → ◌≤◌ (cond past none (cond unknown none (record { passed = item_passes file pools directory (limits_at table item.target) item; size = item.size }))).size 16
    go true unknown = omega arith
    go false true = omega arith
    go false false = operation_small width bytes low high

module _ (version : ℕ) (cards : List CardRequirement) (pools directory : ℕ) (file : List ℕ) (limit last : ℕ) (room : last + 16 ≤ limit) where
  abbrev table : List (List ℕ)
  table = limit_table version cards

  pub record_steps : eqb version 1 ≡ true → Steps (record_test file table last) (λ place. false) (setting version cards pools directory file) file limit
  unfolding record_passes
  record_steps one seen at passed = go (ltb last at) refl passed
    where
      item : Decoded
      item = decoded_record (part file at 16)

      said : Bool → Quick
      said past = cond past none (record { passed = record_passes table item; size = item.size })

      is : item ≡ decoded_item version (part file at 16)
      is = unfold decoded_item in rw one

      go : (past : Bool) → ltb last at ≡ past → (said past).passed ≡ true → walk_step seen (setting version cards pools directory file) file limit at ≡ ok (at + (said past).size, seen || false)
      go true e h = absurd (false≢true h)
      go false e h =
          let some = chosen (leb 12 item.target) _ h in
          let below : item.target < 12 = leb-false 12 _ some.0 in
          let fits = rw (limits_at_lem version cards item.target below) at some.1 in
          let unmarked = no_si22 version cards item.target one (write_there (target_of version cards item.target) item.address (unfold write_passes in fits)).0 in
          let five : item.size ≤ 16 = unfold decoded_record in omega arith in
          rw (← unmarked)
          (item_step version cards pools directory file limit last at room (ltb-false last at e) seen item is five below (unfold item_passes decoded_record in some.1))

  pub operation_steps : eqb version 1 ≡ false → Steps (operation_test (address_width version) file pools directory table last) (has_si22 file) (setting version cards pools directory file) file limit
  unfolding quick_operation
  operation_steps pooled seen at passed = go (ltb last at) (leb 12 item.target) (ltb 2 item.opcode) refl refl refl passed
    where
      item : Decoded
      item = decoded_operation (address_width version) (part file at 16)

      said : (past foreign unknown : Bool) → Quick
      said past foreign unknown =
          cond past none (cond foreign none (cond unknown none (record { passed = item_passes file pools directory (limits_at table item.target) item; size = item.size })))

      is : item ≡ decoded_item version (part file at 16)
      is = unfold decoded_item in rw pooled

      marked : eqb item.target 11 ≡ has_si22 file at
      marked = unfold decoded_operation in refl

      go : (past foreign unknown : Bool) → ltb last at ≡ past → leb 12 item.target ≡ foreign → ltb 2 item.opcode ≡ unknown → (said past foreign unknown).passed ≡ true
          → walk_step seen (setting version cards pools directory file) file limit at ≡ ok (at + (said past foreign unknown).size, seen || has_si22 file at)
      go true foreign unknown e f u h = absurd (false≢true h)
      go false true unknown e f u h = absurd (false≢true h)
      go false false true e f u h = absurd (false≢true h)
      go false false false e f u h =
          let range = width_range version in
          rw (← marked)
          (item_step version cards pools directory file limit last at room (ltb-false last at e) seen item is (operation_small (address_width version) (part file at 16) range.0 range.1) (leb-false 12 _ f) h)
