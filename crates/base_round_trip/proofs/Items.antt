-- Operations that are written, read.
use Prim.Native.Nat.{ℕ, ◌+◌, ◌^◌, ◌≤◌, ◌<◌}
use mathlib.Core.Path.{◌≡◌, refl, sym, ◌∙◌}
use mathlib.Core.Bool.{Bool, true, false, cond, ◌&&◌}
use mathlib.Core.List.{List, [], ◌∷◌, ◌++◌, append_assoc}
use native.Mathlib.Nat.{add-zero, add_assoc}
use native.Mathlib.Omega.{arith}
use borrow.Author.Tests.{le-ltb, lt-leb, eqb-true}
use lib.Dec.{eqb, lit≤}
use lib.ListN.{length, get_or, drop, length-append}
use Rattle.base_format.specs.declared.operation.Operation.{Operation}
use Rattle.base_format.specs.declared.operation.Operation.TheVariants.{Write, Fill, Copy}
use Rattle.base_format.specs.Bytes.{byte, be, bytes_of_all, u16}
use Rattle.base_format.specs.Checked.{ok}
use Rattle.base_format.specs.Limits.{Each, OperationFits, CardsFit, PoolFits, FrameFits}
use Rattle.base_format.specs.Pool.{no_pool, Payload}
use Rattle.base_format.specs.Operation.{extras, Setting, address_width, size_of, opcode_of, fields_at, write_rules, fill_rules, copy_rules, allowed, operation_at, record_at, item_at}
use Rattle.base_format.specs.Stream.{operations_from, frames_from}
use Rattle.base_format.specs.Target.{target_of, write_limit}
use Rattle.base_format.specs.Written.{operation_fields, without_first, item_bytes, operations_bytes, frames_bytes}
use Rattle.base_format.proofs.Bytes.{behind}
use Rattle.base_format.proofs.Fields.{fields_size, fields_size_lem}
use Rattle.base_format.proofs.Written.{operation_some}
use Rattle.base_field_laws.proofs.Places.{Holds, Fit, holds}
use Rattle.base_format.proofs.Rules.{EntryFor, inside_passes, takes_passes}
use Rattle.base_round_trip.proofs.Each.{each_at}
use Rattle.base_round_trip.proofs.Widths.{addresses_below, narrow_below, addresses_fit, kind_long}
use Rattle.base_format.proofs.Sizes.{size_is, width_range}

-- a setting goes by these pools, and by cards and pools that are within the limits
pub record For (pools : List Payload) (setting : Setting) : Type 0 where
  pub count : setting.pools ≡ length pools
  pub cards_fit : CardsFit 0 setting.cards
  pub few : length pools ≤ 256 ^ 2
  pub pools_fit : Each (PoolFits setting.version) pools
  pub entries : (id : ℕ) → id < length pools → EntryFor (get_or pools id no_pool) (setting.pool_of id)

and_false : (b : Bool) → (b && false) ≡ false
and_false true = refl
and_false false = refl

-- rules 15 to 19 let an operation within the limits pass
pub allows : (setting : Setting) (pools : List Payload) → For pools setting → (at : ℕ) (operation : Operation)
    → OperationFits setting.version setting.cards pools operation → allowed setting at operation ≡ ok tt
unfolding allowed write_rules fill_rules copy_rules
allows setting pools for at (Write target address value) fits =
    rw (fits.exists, le-ltb (write_limit (target_of setting.version setting.cards target)) address fits.within)
allows setting pools for at (Fill target address size value) fits =
    rw (fits.exists, inside_passes (target_of setting.version setting.cards target) address size fits.inside)
allows setting pools for at (Copy target address id source size) fits =
    let what = target_of setting.version setting.cards target in
    rw (
      fits.exists,
      inside_passes what address size fits.inside,
      and_false (eqb setting.version 4),
      lt-leb setting.pools id (rw for.count fits.known),
      takes_passes what (get_or pools id no_pool) (setting.pool_of id) address source size (for.entries id fits.known) fits.takes,
    )

opcode_small : (operation : Operation) → opcode_of operation ≤ 2
opcode_small (Write target address value) = lit≤ tt
opcode_small (Fill target address size value) = lit≤ tt
opcode_small (Copy target address pool source size) = lit≤ tt

-- its numbers fit their fields
fields_fit : (setting : Setting) (pools : List Payload) → For pools setting → (operation : Operation)
    → OperationFits setting.version setting.cards pools operation → Fit (operation_fields (address_width setting.version) operation)
fields_fit setting pools for (Write target address value) fits =
    (omega (arith, (addresses_fit setting.version setting.cards for.cards_fit target).0, fits.within), tt)
fields_fit setting pools for (Fill target address size value) fits =
    let narrow = addresses_fit setting.version setting.cards for.cards_fit target in
    let all = addresses_below setting.version setting.cards for.cards_fit target in
    let inside = fits.inside in
    (omega (arith, narrow.1, inside.some, inside.up_to), (omega (arith, all.1, inside.up_to), tt))
fields_fit setting pools for (Copy target address id source size) fits =
    let narrow = addresses_fit setting.version setting.cards for.cards_fit target in
    let all = addresses_below setting.version setting.cards for.cards_fit target in
    let inside = fits.inside in
    let pool = get_or pools id no_pool in
    let kind = (each_at (PoolFits setting.version) pools id no_pool for.pools_fit fits.known).kind_size in
    let long : length pool.bytes ≤ 0x2000000 = kind_long setting.version pool.kind (length pool.bytes) kind in
    (omega (arith, narrow.1, inside.some, inside.up_to), (omega (arith, fits.known, for.few), (omega (arith, fits.takes.in_pool), (omega (arith, all.1, inside.up_to), tt))))

-- its fields, read
opcode_read : (file : List ℕ) (width at : ℕ) (operation : Operation) → Holds file at 0 (operation_fields width operation) → byte file at ≡ opcode_of operation
opcode_read file width at (Write target address value) h = rw add-zero at h.0
opcode_read file width at (Fill target address size value) h = rw add-zero at h.0
opcode_read file width at (Copy target address pool source size) h = rw add-zero at h.0

fields_read : (file : List ℕ) (width at : ℕ) (operation : Operation) → Holds file at 0 (operation_fields width operation)
    → fields_at file width at (opcode_of operation) ≡ operation
unfolding fields_at
fields_read file width at (Write target address value) h =
    let e : at + 2 + width ≡ at + (2 + width) = omega arith in
    rw (e, h.1.0, h.1.1.0, h.1.1.1.0)
fields_read file width at (Fill target address size value) h =
    let e : at + 2 + width ≡ at + (2 + width) = omega arith in
    let e' : at + 6 + width ≡ at + (2 + width + 4) = omega arith in
    rw (e, e', h.1.0, h.1.1.0, h.1.1.1.0, h.1.1.1.1.0)
fields_read file width at (Copy target address pool source size) h =
    let e : at + 2 + width ≡ at + (2 + width) = omega arith in
    let e' : at + 4 + width ≡ at + (2 + width + 2) = omega arith in
    let e'' : at + 8 + width ≡ at + (2 + width + 2 + 4) = omega arith in
    rw (e, e', e'', h.1.0, h.1.1.0, h.1.1.1.0, h.1.1.1.1.0, h.1.1.1.1.1.0)

-- its size
size_read : (version : ℕ) (operation : Operation)
    → size_of (address_width version) (opcode_of operation) ≡ length (bytes_of_all (operation_fields (address_width version) operation))
size_read version operation =
    size_is (address_width version) (opcode_of operation) (width_range version).0 (width_range version).1 (opcode_small operation)
    ∙ go operation
    ∙ sym (fields_size_lem (operation_fields (address_width version) operation))
  where
    go : (o : Operation) → address_width version + get_or extras (opcode_of o) 0 ≡ fields_size (operation_fields (address_width version) o)
    go (Write target address value) = omega arith
    go (Fill target address size value) = omega arith
    go (Copy target address pool source size) = omega arith

-- an operation where its bytes stand
pub operation_here : (setting : Setting) (pools : List Payload) → For pools setting → (file : List ℕ) (limit at : ℕ) (operation : Operation) (rest : List ℕ)
    → OperationFits setting.version setting.cards pools operation
    → drop at file ≡ bytes_of_all (operation_fields (address_width setting.version) operation) ++ rest
    → at + length (bytes_of_all (operation_fields (address_width setting.version) operation)) ≤ limit
    → operation_at setting file limit at ≡ ok (record { operation = operation; next = at + length (bytes_of_all (operation_fields (address_width setting.version) operation)) })
unfolding operation_at
operation_here setting pools for file limit at operation rest fits here inside =
    let width = address_width setting.version in
    let fields = operation_fields width operation in
    let h : Holds file at 0 fields = holds file at 0 fields rest (rw add-zero here) (fields_fit setting pools for operation fits) in
    let size : size_of width (opcode_of operation) ≡ length (bytes_of_all fields) = size_read setting.version operation in
    let some : 1 ≤ length (bytes_of_all fields) = operation_some width operation in
    rw (
      lt-leb limit at (omega arith),
      opcode_read file width at operation h,
      le-ltb 2 (opcode_of operation) (opcode_small operation),
      size,
      le-ltb limit (at + length (bytes_of_all fields)) inside,
      fields_read file width at operation h,
      allows setting pools for at operation fits,
    )

-- a record where its bytes stand
record_here : (setting : Setting) (pools : List Payload) → For pools setting → (file : List ℕ) (limit at : ℕ) (operation : Operation) (rest : List ℕ)
    → setting.version ≡ 1
    → OperationFits setting.version setting.cards pools operation
    → drop at file ≡ bytes_of_all (without_first (operation_fields 3 operation)) ++ rest
    → at + length (bytes_of_all (without_first (operation_fields 3 operation))) ≤ limit
    → record_at setting file limit at ≡ ok (record { operation = operation; next = at + length (bytes_of_all (without_first (operation_fields 3 operation))) })
unfolding record_at
record_here setting pools for file limit at (Write target address value) rest one fits here inside =
    let fields = without_first (operation_fields 3 (Write target address value)) in
    let narrow : address < 256 ^ 3 = omega (arith, (narrow_below setting.version setting.cards (omega arith) target).0, fits.within) in
    let h : Holds file at 0 fields = holds file at 0 fields rest (rw add-zero here) (narrow, tt) in
    let target-read : byte file at ≡ target = rw add-zero at h.0 in
    let size : length (bytes_of_all fields) ≡ 5 = fields_size_lem fields in
    let inside' : at + 5 ≤ limit = rw size at inside in
    rw (le-ltb limit (at + 5) inside', target-read, h.1.0, h.1.1.0, allows setting pools for at (Write target address value) fits, size)
record_here setting pools for file limit at (Fill target address size value) rest one fits here inside = absurd (omega (arith, fits.pooled))
record_here setting pools for file limit at (Copy target address pool source size) rest one fits here inside = absurd (omega (arith, fits.pooled))

module _ (setting : Setting) (pools : List Payload) (for : For pools setting) (file : List ℕ) where
  -- the item at a place where its bytes stand
  pub item_here : (limit at : ℕ) (operation : Operation) (rest : List ℕ)
      → OperationFits setting.version setting.cards pools operation
      → drop at file ≡ item_bytes setting.version operation ++ rest
      → at + length (item_bytes setting.version operation) ≤ limit
      → item_at setting file limit at ≡ ok (record { operation = operation; next = at + length (item_bytes setting.version operation) })
  unfolding item_at item_bytes
  item_here limit at operation rest fits = go (eqb setting.version 1) refl
    where
      bytes : Bool → List ℕ
      bytes b = bytes_of_all (cond b (without_first (operation_fields 3 operation)) (operation_fields (address_width setting.version) operation))

      go : (b : Bool) → eqb setting.version 1 ≡ b → drop at file ≡ bytes b ++ rest → at + length (bytes b) ≤ limit
          → cond b (record_at setting file limit at) (operation_at setting file limit at) ≡ ok (record { operation = operation; next = at + length (bytes b) })
      go true e here inside = record_here setting pools for file limit at operation rest (eqb-true setting.version 1 e) fits here inside
      go false e here inside = operation_here setting pools for file limit at operation rest fits here inside

  -- operations one after the other
  pub operations_here : (limit at : ℕ) (operations : List Operation) (rest : List ℕ)
      → Each (OperationFits setting.version setting.cards pools) operations
      → drop at file ≡ operations_bytes setting.version operations ++ rest
      → at + length (operations_bytes setting.version operations) ≤ limit
      → operations_from setting file limit (length operations) at ≡ ok (operations, at + length (operations_bytes setting.version operations))
  unfolding operations_from operations_bytes
  operations_here limit at [] rest fits here inside = rw add-zero
  operations_here limit at (operation ∷ operations) rest fits here inside =
      let mine = item_bytes setting.version operation in
      let others = operations_bytes setting.version operations in
      let here' : drop at file ≡ mine ++ (others ++ rest) = rw append_assoc at here in
      let sum : length (mine ++ others) ≡ length mine + length others = length-append mine others in
      rw (
        item_here limit at operation (others ++ rest) fits.0 here' (omega arith),
        operations_here limit (at + length mine) operations rest fits.1 (behind file at (others ++ rest) mine here') (omega arith),
        sum,
        add_assoc,
      )

  -- frames one after the other
  pub frames_here : (at : ℕ) (frames : List (List Operation)) (rest : List ℕ)
      → Each (FrameFits setting.version setting.cards pools) frames
      → drop at file ≡ frames_bytes setting.version frames ++ rest
      → at + length (frames_bytes setting.version frames) ≤ length file
      → frames_from setting file (length frames) at ≡ ok (frames, at + length (frames_bytes setting.version frames))
  unfolding frames_from frames_bytes
  frames_here at [] rest fits here inside = rw add-zero
  frames_here at (frame ∷ frames) rest fits here inside =
      let count = bytes_of_all (u16 (length frame) ∷ []) in
      let mine = operations_bytes setting.version frame in
      let others = frames_bytes setting.version frames in
      let here' : drop at file ≡ count ++ (mine ++ (others ++ rest)) = simp append_assoc at here in
      let two : length count ≡ 2 = fields_size_lem (u16 (length frame) ∷ []) in
      let sum : length (count ++ (mine ++ others)) ≡ 2 + (length mine + length others) = simp (length-append, two) in
      let h : Holds file at 0 (u16 (length frame) ∷ []) = holds file at 0 (u16 (length frame) ∷ []) (mine ++ (others ++ rest)) (rw add-zero here') (fits.0.frame_count, tt) in
      let read : be 2 file at ≡ length frame = rw add-zero at h.0 in
      let first : drop (at + 2) file ≡ mine ++ (others ++ rest) = rw two at (behind file at (mine ++ (others ++ rest)) count here') in
      let places : at + 2 + length mine + length others ≡ at + (2 + (length mine + length others)) = omega arith in
      rw (
        le-ltb (length file) (at + 2) (omega arith),
        read,
        operations_here (length file) (at + 2) frame (others ++ rest) fits.0.operations first (omega arith),
        frames_here (at + 2 + length mine) frames rest fits.1 (behind file (at + 2) (others ++ rest) mine first) (omega arith),
        sum,
        places,
      )
