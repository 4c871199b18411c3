-- A plain WRITE is an operation that a call takes: the rules allow it, and it uses neither a card nor a pool.
use Prim.Native.Nat.{ℕ, ◌+◌, ◌≤◌}
use mathlib.Core.Path.{◌≡◌, refl}
use mathlib.Core.Bool.{Bool, true, false, cond, ◌&&◌, and-false}
use mathlib.Core.List.{List, [], ◌∷◌}
use native.Mathlib.Omega.{arith}
use borrow.Author.Tests.{ltb-true, leb-true, eqb-true, le-ltb, lt-leb}
use lib.Dec.{eqb, leb, ltb, lit≤}
use Rattle.base_format.specs.declared.card.CardRequirement.{CardRequirement}
use Rattle.base_format.specs.declared.operation.Operation.{Operation}
use Rattle.base_format.specs.declared.operation.Operation.TheVariants.{Write}
use Rattle.base_format.specs.declared.player.StreamPlayer.{StreamPlayer}
use Rattle.base_format.specs.Bytes.{part}
use Rattle.base_format.specs.Card.{cards_of}
use Rattle.base_format.specs.Checked.{ok}
use Rattle.base_format.specs.Operation.{address_width, size_of, write_rules, allowed}
use Rattle.base_format.specs.Player.{setting_in, card_used, pools_used, item_used}
use Rattle.base_format.specs.Target.{target_of}
use Rattle.base_format.specs.Writes.{upward, writes_with}
use Rattle.bytes_operation.specs.declared.decode.Decoded.{Decoded}
use Rattle.bytes_operation.specs.Decoded.{decoded_operation, decoded_record, decoded_item, operation_of}
use Rattle.bytes_operation.proofs.Laws.{item_decoded}
use Rattle.bytes_operation_known.specs.Known.{write_value}
use Rattle.bytes_operation_known.proofs.Laws.{write_value_lem}
use Rattle.base_format.proofs.Checks.{and_true}
use Rattle.base_format.proofs.Sizes.{size_most, width_range}
use Rattle.base_format.specs.Size.{record_size}
use Rattle.play_fast_plain.specs.Plain.{plain_end, plain_size, plain_in, plain_at, plain_value, plain_write}

-- THE RULES

-- what the rules 15, 16 and 7 say of an address before the end
abbrev Allowed : (version : ℕ) → List CardRequirement → (at target address : ℕ) → Type 0
Allowed version cards at target address =
    (write_rules at (target_of version cards target) address ≡ ok tt) × ((eqb version 4 && leb 3 target && leb target 10) ≡ false)

plain_allowed : (version : ℕ) (cards : List CardRequirement) (at target address : ℕ) → ltb address (plain_end version target) ≡ true → Allowed version cards at target address
unfolding plain_end target_of write_rules
plain_allowed version cards at target address e = core (ltb target 2) refl e
  where
    none : {A : Type 0} → ltb address 0 ≡ true → A
    none h = absurd (omega (arith, ltb-true address 0 h))

    si22 : (b : Bool) → eqb target 11 ≡ b → eqb version 4 ≡ true → ltb address (cond b 0x40 0) ≡ true → Allowed version cards at target address
    si22 false t v h = none h
    si22 true t v h =
        let is : target ≡ 11 = eqb-true target 11 t in
        let four : version ≡ 4 = eqb-true version 4 v in
        (rw (is, four, le-ltb 0x3F address (omega (arith, ltb-true address 0x40 h))), rw (is, four))

    four : (b : Bool) → eqb version 4 ≡ b → ltb address (cond b (cond (eqb target 11) 0x40 0) 0) ≡ true → Allowed version cards at target address
    four false v h = none h
    four true v h = si22 (eqb target 11) refl v h

    bank : (b : Bool) → eqb target 3 ≡ b → eqb version 3 ≡ true → ltb address (cond b 0x2000000 0) ≡ true → Allowed version cards at target address
    bank false t v h = none h
    bank true t v h =
        let is : target ≡ 3 = eqb-true target 3 t in
        let three : version ≡ 3 = eqb-true version 3 v in
        (rw (is, three, le-ltb 0x1FFFFFF address (omega (arith, ltb-true address 0x2000000 h))), rw three)

    three : (b : Bool) → eqb version 3 ≡ b → ltb address (cond b (cond (eqb target 3) 0x2000000 0) (cond (eqb version 4) (cond (eqb target 11) 0x40 0) 0)) ≡ true → Allowed version cards at target address
    three true v h = bank (eqb target 3) refl v h
    three false v h = four (eqb version 4) refl h

    pcm : (b : Bool) → eqb target 2 ≡ b
        → ltb address (cond b 0x100000 (cond (eqb version 3) (cond (eqb target 3) 0x2000000 0) (cond (eqb version 4) (cond (eqb target 11) 0x40 0) 0))) ≡ true
        → Allowed version cards at target address
    pcm false t h = three (eqb version 3) refl h
    pcm true t h =
        let is : target ≡ 2 = eqb-true target 2 t in
        (rw (is, le-ltb 0xFFFFF address (omega (arith, ltb-true address 0x100000 h))), rw (is, and-false))

    core : (b : Bool) → ltb target 2 ≡ b
        → ltb address (cond b 0x900 (cond (eqb target 2) 0x100000 (cond (eqb version 3) (cond (eqb target 3) 0x2000000 0) (cond (eqb version 4) (cond (eqb target 11) 0x40 0) 0)))) ≡ true
        → Allowed version cards at target address
    core false more h = pcm (eqb target 2) refl h
    core true less h =
        (rw (less, le-ltb 0x8FF address (omega (arith, ltb-true address 0x900 h))), rw (lt-leb 3 target (omega (arith, ltb-true target 2 less)), and-false))

-- THE OPERATION

-- a plain WRITE as the operation that it is
abbrev pub plain_operation : (version : ℕ) → List ℕ → (at : ℕ) → Operation
plain_operation version file at =
    let bytes = part file at 16 in
    let item = decoded_item version bytes in
    Write item.target item.address (plain_value version bytes)

pub plain_writes_lem : (bytes : ℕ → List ℕ) (version : ℕ) (file : List ℕ) (at : ℕ) → writes_with bytes (plain_operation version file at) ≡ plain_write version file at ∷ []
unfolding writes_with upward plain_write
plain_writes_lem bytes version file at = refl

-- the reader's size of it
plain_size_lem : (version : ℕ) (bytes : List ℕ) → (decoded_item version bytes).opcode ≡ 0 → (decoded_item version bytes).size ≡ plain_size version
unfolding decoded_item decoded_record decoded_operation plain_size
plain_size_lem version bytes = go (eqb version 1)
  where
    go : (b : Bool) → (cond b (decoded_record bytes) (decoded_operation (address_width version) bytes)).opcode ≡ 0
        → (cond b (decoded_record bytes) (decoded_operation (address_width version) bytes)).size ≡ cond b record_size (size_of (address_width version) 0)
    go true e = refl
    go false e = rw e

-- and its value
plain_value_lem : (version : ℕ) (bytes : List ℕ) → (decoded_item version bytes).opcode ≡ 0 → plain_value version bytes ≡ (decoded_item version bytes).value
unfolding decoded_item decoded_operation plain_value
plain_value_lem version bytes = go (eqb version 1)
  where
    go : (b : Bool) → (cond b (decoded_record bytes) (decoded_operation (address_width version) bytes)).opcode ≡ 0
        → cond b (decoded_record bytes).value (write_value (address_width version) bytes) ≡ (cond b (decoded_record bytes) (decoded_operation (address_width version) bytes)).value
    go true e = refl
    go false e = write_value_lem (address_width version) bytes e

-- it has at most 16 bytes
pub size_small : (version : ℕ) → plain_size version ≤ 16
unfolding plain_size
size_small version = go (eqb version 1)
  where
    go : (b : Bool) → cond b record_size (size_of (address_width version) 0) ≤ 16
    go true = lit≤ tt
    go false = size_most (address_width version) 0 (width_range version).0 (width_range version).1 (omega arith)

module _ (state : StreamPlayer) (file : List ℕ) (limit end at : ℕ) (within : end ≤ limit) where
  abbrev version : ℕ
  version = state.header.version

  abbrev item : Decoded
  item = decoded_item version (part file at 16)

  pub plain_used : plain_at version file end at ≡ true → item_used state file limit at ≡ ok (record { operation = plain_operation version file at; next = at + plain_size version })
  unfolding plain_at plain_in item_used allowed card_used pools_used operation_of
  plain_used e =
      let both = and_true (leb (at + 16) end) _ e in
      let plain = and_true (eqb item.opcode 0) _ both.1 in
      let write : item.opcode ≡ 0 = eqb-true item.opcode 0 plain.0 in
      let size = plain_size_lem version (part file at 16) write in
      let room = leb-true (at + 16) end both.0 in
      let rules = plain_allowed version (cards_of state.cards) at item.target item.address plain.1 in
      rw (item_decoded (setting_in state file) file limit at (omega (arith, write)) (omega (arith, size, size_small version)), write, rules.0, size, rules.1, plain_value_lem version (part file at 16) write)
