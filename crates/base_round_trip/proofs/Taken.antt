-- What is read from an accepted file is within the limits, and stands there as it is written.
use Prim.Native.Nat.{ℕ, zero, suc, ◌+◌, ◌≤◌, ◌<◌}
use mathlib.Core.Path.{◌≡◌, refl, sym, ap, ◌∙◌, subst}
use mathlib.Core.Bool.{Bool, true, false, cond}
use mathlib.Core.List.{List, [], ◌∷◌}
use native.Mathlib.Nat.{le_refl, add-zero}
use native.Mathlib.Omega.{arith}
use borrow.Author.Tests.{eqb-false, ltb-false}
use lib.Arith.{lt_of_le-ne}
use lib.Dec.{eqb, ltb}
use lib.ListN.{length, get_or}
use Rattle.base_format.specs.declared.operation.Operation.{Operation}
use Rattle.base_format.specs.declared.operation.Operation.TheVariants.{Write, Fill, Copy}
use Rattle.base_format.specs.Bytes.{AllBytes, byte, be, bytes_of_all, u16}
use Rattle.base_format.specs.Checked.{ok}
use Rattle.base_format.specs.Limits.{Each, OperationFits, FrameFits}
use Rattle.base_format.specs.Pool.{no_pool, Payload}
use Rattle.base_format.specs.declared.operation.Item.{Item}
use Rattle.base_format.specs.Operation.{Setting, address_width, size_of, fields_at, write_rules, fill_rules, allowed, operation_at, record_at, item_at}
use Rattle.base_format.specs.Stream.{operations_from, frames_from}
use Rattle.base_format.specs.Target.{target_of, missing, write_limit, outside}
use Rattle.base_format.specs.Written.{operation_fields, without_first, item_bytes, operations_bytes, frames_bytes}
use Rattle.base_format.proofs.Bytes.{be_below}
use Rattle.base_format.proofs.Checks.{passed_test, passed_last, given}
use Rattle.base_format.proofs.Steps.{record_is, operation_is, operation_step, frame_step}
use Rattle.base_round_trip.proofs.Items.{For}
use Rattle.base_field_laws.proofs.Operations.{fields_long}
use Rattle.base_field_laws.proofs.Places.{Holds, Took, took_none, took_both, took_fields}
use Rattle.base_format.proofs.Fields.{fields_size}
use Rattle.base_format.proofs.Rules.{passes_inside, passes_takes, copy_allowed}
use Rattle.base_format.proofs.Sizes.{size_is, width_range}

module _ (setting : Setting) (pools : List Payload) (for : For pools setting) (file : List ℕ) (bytes : AllBytes file) where
  -- rules 15 to 19, for the operation that is read at a place
  write_within : (at target address value : ℕ) → value < 256 → allowed setting at (Write target address value) ≡ ok tt
      → OperationFits setting.version setting.cards pools (Write target address value)
  unfolding allowed write_rules
  write_within at target address value byte' e =
      let what = target_of setting.version setting.cards target in
      let first = passed_test 15 at (missing what) e in
      record { exists = first.0; within = ltb-false (write_limit what) address (passed_last 16 at (ltb (write_limit what) address) first.1); value_byte = byte' }

  fill_within : (at target address size value : ℕ) → 2 ≤ setting.version → value < 256 → allowed setting at (Fill target address size value) ≡ ok tt
      → OperationFits setting.version setting.cards pools (Fill target address size value)
  unfolding allowed fill_rules
  fill_within at target address size value pooled byte' e =
      let what = target_of setting.version setting.cards target in
      let first = passed_test 15 at (missing what) e in
      record { pooled = pooled; exists = first.0; inside = passes_inside what address size (passed_last 17 at (outside what address size) first.1); value_byte = byte' }

  copy_within : (at target address id source size : ℕ) → 2 ≤ setting.version → allowed setting at (Copy target address id source size) ≡ ok tt
      → OperationFits setting.version setting.cards pools (Copy target address id source size)
  unfolding allowed
  copy_within at target address id source size pooled e =
      let what = target_of setting.version setting.cards target in
      let rules = copy_allowed at setting.version setting.pools what address id (setting.pool_of id) source size e in
      let known : id < length pools = rw for.count at rules.known in
      record {
        pooled = pooled;
        exists = rules.exists;
        inside = passes_inside what address size rules.inside;
        known = known;
        takes = passes_takes what (get_or pools id no_pool) (setting.pool_of id) address source size (for.entries id known) rules.right;
      }

  -- the operation whose fields stand at a place is within the limits
  fields_within : (at opcode : ℕ) → 2 ≤ setting.version → allowed setting at (fields_at file (address_width setting.version) at opcode) ≡ ok tt
      → OperationFits setting.version setting.cards pools (fields_at file (address_width setting.version) at opcode)
  unfolding fields_at
  fields_within at zero pooled e = write_within at _ _ _ (bytes (at + 2 + address_width setting.version)) e
  fields_within at (suc zero) pooled e = fill_within at _ _ _ _ pooled (bytes (at + 6 + address_width setting.version)) e
  fields_within at (suc (suc n)) pooled e = copy_within at _ _ _ _ _ pooled e

-- and its fields hold their numbers
fields_hold : (file : List ℕ) (width at opcode : ℕ) → opcode ≤ 2 → byte file at ≡ opcode → Holds file at 0 (operation_fields width (fields_at file width at opcode))
unfolding fields_at
fields_hold file width at zero o e =
    let e₁ : at + (2 + width) ≡ at + 2 + width = omega arith in
    (rw add-zero e, (refl, (refl, (ap (byte file) e₁, tt))))
fields_hold file width at (suc zero) o e =
    let e₁ : at + (2 + width) ≡ at + 2 + width = omega arith in
    let e₂ : at + (2 + width + 4) ≡ at + 6 + width = omega arith in
    (rw add-zero e, (refl, (refl, (ap (be 4 file) e₁, (ap (byte file) e₂, tt)))))
fields_hold file width at (suc (suc zero)) o e =
    let e₁ : at + (2 + width) ≡ at + 2 + width = omega arith in
    let e₂ : at + (2 + width + 2) ≡ at + 4 + width = omega arith in
    let e₃ : at + (2 + width + 2 + 4) ≡ at + 8 + width = omega arith in
    (rw add-zero e, (refl, (refl, (ap (be 2 file) e₁, (ap (be 4 file) e₂, (ap (be 4 file) e₃, tt))))))
fields_hold file width at (suc (suc (suc n))) o e = absurd (omega arith)

-- an item that is read: within the limits, and standing at its place as it is written
pub record ItemTaken (setting : Setting) (pools : List Payload) (file : List ℕ) (at : ℕ) (bytes : List ℕ) (item : Item) : Type 0 where
  pub fits : OperationFits setting.version setting.cards pools item.operation
  pub took : Took file at item.next bytes

-- operations that are read, and frames
pub record OperationsTaken (setting : Setting) (pools : List Payload) (file : List ℕ) (count at : ℕ) (found : List Operation × ℕ) : Type 0 where
  pub counted : length found.0 ≡ count
  pub fit : Each (OperationFits setting.version setting.cards pools) found.0
  pub took : Took file at found.1 (operations_bytes setting.version found.0)

pub record FramesTaken (setting : Setting) (pools : List Payload) (file : List ℕ) (count at : ℕ) (found : List (List Operation) × ℕ) : Type 0 where
  pub counted : length found.0 ≡ count
  pub fit : Each (FrameFits setting.version setting.cards pools) found.0
  pub took : Took file at found.1 (frames_bytes setting.version found.0)

module _ (setting : Setting) (pools : List Payload) (for : For pools setting) (file : List ℕ) (bytes : AllBytes file) (low : 1 ≤ setting.version) where
  operation_taken : (limit at : ℕ) (item : Item) → 2 ≤ setting.version → limit ≤ length file → operation_at setting file limit at ≡ ok item
      → ItemTaken setting pools file at (bytes_of_all (operation_fields (address_width setting.version) item.operation)) item
  unfolding operation_at
  operation_taken limit at item pooled within e =
      let w = address_width setting.version in
      let opcode = byte file at in
      let operation = fields_at file w at opcode in
      let fields = operation_fields w operation in
      let found = operation_is setting file limit at item e in
      let o = found.known in
      let range = width_range setting.version in
      let size : size_of w opcode ≡ fields_size fields = size_is w opcode range.0 range.1 o ∙ fields_long file w at opcode o in
      let end = found.room in
      subst (λ (i : Item). ItemTaken setting pools file at (bytes_of_all (operation_fields w i.operation)) i) found.is (record {
        fits = fields_within setting pools for file bytes at opcode pooled found.fine;
        took = took_fields file at (at + size_of w opcode) fields bytes (omega arith) (omega arith) (fields_hold file w at opcode o refl);
      })

  record_taken : (limit at : ℕ) (item : Item) → limit ≤ length file → record_at setting file limit at ≡ ok item
      → ItemTaken setting pools file at (bytes_of_all (without_first (operation_fields 3 item.operation))) item
  unfolding record_at
  record_taken limit at item within e =
      let operation = Write (byte file at) (be 3 file (at + 1)) (byte file (at + 4)) in
      let fields = without_first (operation_fields 3 operation) in
      let found = record_is setting file limit at item e in
      let end = found.room in
      subst (λ (i : Item). ItemTaken setting pools file at (bytes_of_all (without_first (operation_fields 3 i.operation))) i) found.is (record {
        fits = write_within setting pools for file bytes at _ _ _ (bytes (at + 4)) found.fine;
        took = took_fields file at (at + 5) fields bytes refl (omega arith) (ap (byte file) (add-zero at), (refl, (refl, tt)));
      })

  item_taken : (limit at : ℕ) (item : Item) → limit ≤ length file → item_at setting file limit at ≡ ok item
      → ItemTaken setting pools file at (item_bytes setting.version item.operation) item
  unfolding item_at item_bytes
  item_taken limit at item within = go (eqb setting.version 1) refl
    where
      go : (b : Bool) → eqb setting.version 1 ≡ b → cond b (record_at setting file limit at) (operation_at setting file limit at) ≡ ok item
          → ItemTaken setting pools file at (bytes_of_all (cond b (without_first (operation_fields 3 item.operation)) (operation_fields (address_width setting.version) item.operation))) item
      go true p e = record_taken limit at item within e
      go false p e = operation_taken limit at item (lt_of_le-ne low (λ q. eqb-false setting.version 1 p (sym q))) within e

  pub operations_taken : (limit count at : ℕ) (found : List Operation × ℕ) → at ≤ length file → limit ≤ length file
      → operations_from setting file limit count at ≡ ok found → OperationsTaken setting pools file count at found
  unfolding operations_from operations_bytes
  operations_taken limit zero at found start within e =
      given (OperationsTaken setting pools file 0 at) e (record { counted = refl; fit = tt; took = took_none file at start })
  operations_taken limit (suc count) at found start within e =
      let step = operation_step setting file limit count at found e in
      let mine = item_taken limit at step.item within step.here in
      let more = operations_taken limit count step.item.next step.others mine.took.inside within step.from in
      subst (OperationsTaken setting pools file (suc count) at) step.is (record {
        counted = ap suc more.counted;
        fit = (mine.fits, more.fit);
        took = took_both mine.took more.took;
      })

  pub frames_taken : (count at : ℕ) (found : List (List Operation) × ℕ) → at ≤ length file → frames_from setting file count at ≡ ok found
      → FramesTaken setting pools file count at found
  unfolding frames_from frames_bytes
  frames_taken zero at found start e = given (FramesTaken setting pools file 0 at) e (record { counted = refl; fit = tt; took = took_none file at start })
  frames_taken (suc count) at found start e =
      let v = setting.version in
      let step = frame_step setting file count at found e in
      let room = step.room in
      let frame = step.frame.0 in
      let mine = operations_taken (length file) (be 2 file at) (at + 2) step.frame room (le_refl (length file)) step.here in
      let more = frames_taken count step.frame.1 step.others mine.took.inside step.from in
      let fields = u16 (length frame) ∷ [] in
      let counted = took_fields file at (at + 2) fields bytes refl room (rw add-zero (sym mine.counted), tt) in
      let behind = took_both mine.took more.took in
      subst (FramesTaken setting pools file (suc count) at) step.is (record {
        counted = ap suc more.counted;
        fit = (record { frame_count = rw mine.counted (be_below 2 file at bytes); operations = mine.fit }, more.fit);
        took = took_both counted behind;
      })
