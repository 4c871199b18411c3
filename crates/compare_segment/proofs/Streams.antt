-- The operations of an accepted file of version 2 make the writes of the segments at their places.
use Prim.Native.Nat.{ℕ, zero, suc, ◌+◌, ◌*◌, ◌-◌, ◌≤◌, ◌<◌}
use mathlib.Core.Path.{◌≡◌, refl, sym, ap, ap₂, subst, ◌∙◌}
use mathlib.Core.Bool.{cond}
use mathlib.Core.List.{List, [], ◌∷◌, ◌++◌}
use native.Mathlib.Nat.{add-zero, zero-add}
use native.Mathlib.Numerals.{add-one}
use native.Mathlib.Omega.{arith}
use borrow.Author.Tests.{eq-eqb, ne_eqb, lt-ltb, le-ltb}
use lib.Dec.{eqb}
use lib.ListN.{length, get_or, take, drop, replicate}
use lib.Seq.{drop-cons, drop-drop, take-nil, take-take}
use Rattle.base_format.specs.declared.header.Header.{Header}
use Rattle.base_format.specs.declared.operation.Item.{Item}
use Rattle.base_format.specs.declared.operation.Operation.{Operation}
use Rattle.base_format.specs.declared.operation.Operation.TheVariants.{Write, Fill, Copy}
use Rattle.base_format.specs.declared.operation.WriteRecord.{WriteRecord}
use Rattle.base_format.specs.Bytes.{byte, be, part}
use Rattle.base_format.specs.Checked.{ok}
use Rattle.base_format.specs.Operation.{Setting, address_width, size_of, fields_at, allowed, record_at, operation_at, item_at}
use Rattle.base_format.specs.Pool.{no_pool, pool_at}
use Rattle.base_format.specs.Size.{operation_most}
use Rattle.base_format.specs.Stream.{Stream, operations_from}
use Rattle.base_format.specs.Writes.{write, upward, payload, writes_with, writes_of, writes_of_all}
use Rattle.base_format.proofs.Accepted.{Accepted, setting_for}
use Rattle.base_format.proofs.Bytes.{byte_part}
use Rattle.base_format.proofs.Checks.{ok_is}
use Rattle.base_format.proofs.Sizes.{size_is, width_range}
use Rattle.base_format.proofs.Steps.{operation_is, operation_step}
use Rattle.base_format.proofs.Pools.{PoolIs, pools_are}
use Rattle.base_format.proofs.Rules.{copy_fine}
use Rattle.bytes_operation.specs.declared.decode.Decoded.{Decoded}
use Rattle.bytes_operation.specs.Decoded.{decoded_operation, decoded_record, operation_of}
use Rattle.bytes_operation.proofs.Laws.{opcode_at, size_at, operation_at_lem, record_at_lem}
use Rattle.compare_segment.specs.Segments.{spread, segment_at, segment_writes, numbers_at, operation_writes, operations_stop, record_write}

-- VALUES

pub spread_fill : (file : List ℕ) (target address source count : ℕ) → spread file target address source 0 count ≡ upward target address (replicate count (byte file source))
unfolding spread upward
spread_fill file target address source zero = refl
spread_fill file target address source (suc count) =
    rw add-zero (ap (λ (l : List WriteRecord). write target address (byte file source) ∷ l) (spread_fill file target (address + 1) source count))

spread_copy : (file : List ℕ) (target address place size : ℕ) → place + size ≤ length file → spread file target address place 1 size ≡ upward target address (part file place size)
unfolding spread upward
spread_copy file target address place zero h = refl
spread_copy file target address place (suc size) h =
    let inside : place < length file = omega arith in
    let rest = spread_copy file target (address + 1) (place + 1) size (omega arith) in
    ap (λ (l : List WriteRecord). write target address (byte file place) ∷ l) (rest ∙ ap (λ (n : ℕ). upward target (address + 1) (take size (drop n file))) (add-one place))
    ∙ ap (λ (l : List ℕ). upward target address (take (suc size) l)) (sym (drop-cons file place 0 inside))

drop_of_take : (n k : ℕ) (l : List ℕ) → drop n (take (n + k) l) ≡ take k (drop n l)
drop_of_take zero k l = rw zero-add
drop_of_take (suc n) k [] = ap (drop (suc n)) (take-nil (suc n + k)) ∙ sym (take-nil k)
drop_of_take (suc n) k (x ∷ l) =
    let more : suc n + k ≡ suc (n + k) = omega arith in
    rw more (drop_of_take n k l)

part_of_part : (file : List ℕ) (offset total source size : ℕ) → source + size ≤ total → part (part file offset total) source size ≡ part file (offset + source) size
part_of_part file offset total source size h =
    let split : total ≡ source + (total - source) = omega arith in
    ap (λ (n : ℕ). take size (drop source (take n (drop offset file)))) split
    ∙ ap (take size) (drop_of_take source (total - source) (drop offset file))
    ∙ take-take size (total - source) (drop source (drop offset file)) (omega arith)
    ∙ ap (take size) (drop-drop source offset file)

-- ONE RECORD

-- the write of a record at a place, by the sheet's fields
pub record_write_lem : (file : List ℕ) (at : ℕ) → record_write file at ≡ write (byte file at) (be 3 file (at + 1)) (byte file (at + 4))
unfolding decoded_record operation_of
record_write_lem file at = ap first_write (record_at_lem file at operation_most (omega arith))
  where
    first_write : Operation → WriteRecord
    first_write (Write target address value) = write target address value
    first_write (Fill target address size value) = write target address value
    first_write (Copy target address id source size) = write target address 0

-- ONE OPERATION

-- what an opcode makes of the numbers
module _ (d : Decoded) where
  as_write : d.opcode ≡ 0 → operation_of d ≡ Write d.target d.address d.value
  unfolding operation_of
  as_write e = rw (eq-eqb d.opcode 0 e)

  as_fill : d.opcode ≡ 1 → operation_of d ≡ Fill d.target d.address d.length d.value
  unfolding operation_of
  as_fill e = rw (ne_eqb d.opcode 0 (λ z. omega (arith, z, e)), eq-eqb d.opcode 1 e)

  as_copy : d.opcode ≡ 2 → operation_of d ≡ Copy d.target d.address d.pool d.source d.length
  unfolding operation_of
  as_copy e = rw (ne_eqb d.opcode 0 (λ z. omega (arith, z, e)), ne_eqb d.opcode 1 (λ z. omega (arith, z, e)))

-- the length of a WRITE, and the value of a WRITE or a FILL, which is its last byte
module _ (width : ℕ) (file : List ℕ) (at : ℕ) (low : 3 ≤ width) (high : width ≤ 4) where
  abbrev numbers : Decoded
  numbers = decoded_operation width (part file at operation_most)

  length_one : numbers.opcode ≡ 0 → numbers.length ≡ 1
  unfolding decoded_operation
  length_one e = rw (eq-eqb _ 0 e)

  last_byte : (opcode place : ℕ) → size_of width opcode ≡ place + 1 → place < operation_most → byte (part file at operation_most) place ≡ byte file (at + size_of width opcode - 1)
  last_byte opcode place size within =
      let last : at + size_of width opcode - 1 ≡ at + place = omega (arith, size) in
      rw (last, byte_part file at operation_most place within)

  value_write : numbers.opcode ≡ 0 → numbers.value ≡ byte file (at + numbers.size - 1)
  unfolding decoded_operation
  value_write e = rw e (last_byte 0 (2 + width) (omega (arith, size_is width 0 low high (omega arith))) (omega arith))

  value_fill : numbers.opcode ≡ 1 → numbers.value ≡ byte file (at + numbers.size - 1)
  unfolding decoded_operation
  value_fill e = rw e (last_byte 1 (6 + width) (omega (arith, size_is width 1 low high (omega arith))) (omega arith))

module _ (file : List ℕ) (header : Header) (s : Stream) (acc : Accepted file header s) (two : header.version ≡ 2) where
  abbrev directory : ℕ
  directory = header.directory_offset

  abbrev setting : Setting
  setting = setting_for file header s.cards

  pool_is : (id : ℕ) → id < header.pool_count → PoolIs file directory id (get_or s.pools id no_pool)
  pool_is id h =
      rw zero-add at (pools_are header.version file directory header.pool_count 0 (directory + header.pool_count * 16) (s.pools, header.initial_start) acc.pools id h)

  copied : (target address id source size : ℕ) → id < header.pool_count → source + size ≤ (pool_at file directory id).size
      → upward target address (part (payload s.pools id) source size) ≡ spread file target address ((pool_at file directory id).offset + source) 1 size
  copied target address id source size h h' =
      let pool = pool_is id h in
      ap (λ (bytes : List ℕ). upward target address (part bytes source size)) pool.same
      ∙ ap (upward target address) (part_of_part file (pool_at file directory id).offset (pool_at file directory id).size source size h')
      ∙ sym (spread_copy file target address ((pool_at file directory id).offset + source) size (omega (arith, pool.within)))

  module _ (at : ℕ) where
    abbrev d : Decoded
    d = numbers_at file at

    -- one value, as often as the length says
    filled : d.opcode < 2 → d.value ≡ byte file (at + d.size - 1)
        → upward d.target d.address (replicate d.length d.value) ≡ segment_writes file (segment_at file directory at)
    unfolding segment_at
    filled h last =
        rw (lt-ltb d.opcode 2 h, last) (sym (spread_fill file d.target d.address (at + d.size - 1) d.length))

    writes_here : d.opcode ≤ 2 → allowed setting at (operation_of d) ≡ ok tt → writes_of s.pools (operation_of d) ≡ segment_writes file (segment_at file directory at)
    unfolding writes_of writes_with allowed
    writes_here known fine = go d.opcode refl
      where
        go : (n : ℕ) → d.opcode ≡ n → writes_of s.pools (operation_of d) ≡ segment_writes file (segment_at file directory at)
        go zero e =
            let value = value_write (address_width 2) file at (width_range 2).0 (width_range 2).1 e in
            let once = length_one (address_width 2) file at (width_range 2).0 (width_range 2).1 e in
            ap (writes_of s.pools) (as_write d e) ∙ ap (λ (n : ℕ). upward d.target d.address (replicate n d.value)) (sym once) ∙ filled (omega (arith, e)) value
        go (suc zero) e =
            ap (writes_of s.pools) (as_fill d e) ∙ filled (omega (arith, e)) (value_fill (address_width 2) file at (width_range 2).0 (width_range 2).1 e)
        go (suc (suc zero)) e =
            let rules = copy_fine at header.version header.pool_count _ d.address d.pool _ d.source d.length (rw (as_copy d e) at fine) in
            ap (writes_of s.pools) (as_copy d e)
            ∙ copied d.target d.address d.pool d.source d.length rules.0 rules.2
            ∙ (unfold segment_at in rw (le-ltb d.opcode 2 (omega (arith, e))))
        go (suc (suc (suc n))) e = absurd (omega (arith, e, known))

  -- SO MANY OPERATIONS

  pub operations_are : (limit count at : ℕ) (found : List Operation × ℕ) → operations_from setting file limit count at ≡ ok found
      → (writes_of_all s.pools found.0 ≡ operation_writes file directory count at) × (found.1 ≡ operations_stop file directory count at)
  unfolding operations_from writes_of_all operation_writes operations_stop item_at segment_at
  operations_are limit zero at found e =
      (ap (λ (x : List Operation × ℕ). writes_of_all s.pools x.0) (sym (ok_is e)), ap (λ (x : List Operation × ℕ). x.1) (sym (ok_is e)))
  operations_are limit (suc count) at found e =
      let step = operation_step setting file limit count at found e in
      let here : operation_at setting file limit at ≡ ok step.item = sym (ap (λ (v : ℕ). cond (eqb v 1) (record_at setting file limit at) (operation_at setting file limit at)) two) ∙ step.here in
      let op = operation_is setting file limit at step.item here in
      let wide : address_width header.version ≡ address_width 2 = ap address_width two in
      let opcode = opcode_at (address_width 2) file at in
      let fields = ap (λ (w : ℕ). fields_at file w at (byte file at)) wide ∙ sym (operation_at_lem (address_width 2) file at (width_range 2).1) in
      let fine = subst (λ (o : Operation). allowed setting at o ≡ ok tt) fields op.fine in
      let known : (numbers_at file at).opcode ≤ 2 = omega (arith, opcode, op.known) in
      let writes = ap (λ (x : Item). writes_of s.pools x.operation) (sym op.is) ∙ ap (writes_of s.pools) fields ∙ writes_here at known fine in
      let size = ap (λ (w : ℕ). at + size_of w (byte file at)) wide ∙ ap (λ (n : ℕ). at + n) (sym (size_at (address_width 2) file at op.known)) in
      let next : step.item.next ≡ (segment_at file directory at).next = ap (λ (x : Item). x.next) (sym op.is) ∙ size in
      let more = operations_are limit count step.item.next step.others step.from in (
        ap (λ (x : List Operation × ℕ). writes_of_all s.pools x.0) (sym step.is) ∙ ap₂ ◌++◌ writes (more.0 ∙ ap (operation_writes file directory count) next),
        ap (λ (x : List Operation × ℕ). x.1) (sym step.is) ∙ more.1 ∙ ap (operations_stop file directory count) next,
      )
