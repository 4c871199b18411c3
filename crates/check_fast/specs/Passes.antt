-- The quick tests of an item, by its numbers and the limits of its target.
use Rattle.std.specs.Prelude.{ℕ, ◌+◌, ◌*◌, Bool, false, cond, not, List, eqb, leb, ltb, length}
use Rattle.base_format.specs.Bytes.{part}
use Rattle.base_format.specs.Size.{entry_size}
use Rattle.bytes_operation.specs.declared.decode.Decoded.{Decoded}
use Rattle.bytes_operation.specs.Decoded.{decoded_operation}
use Rattle.check_fast_limits.specs.declared.TargetLimits.{TargetLimits}
use Rattle.check_fast_limits.specs.Limits.{limits_at}
use Rattle.check_fast_rules.specs.Quick.{out_of_bulk, pool_fits}
use Rattle.check_fast.specs.declared.item.Quick.{Quick}

unfoldable pub write_passes : TargetLimits → Decoded → Bool
write_passes limits item = ltb item.address limits.write_end

unfoldable pub fill_passes : TargetLimits → Decoded → Bool
fill_passes limits item = not (out_of_bulk item.address item.length limits.bulk_start limits.bulk_end)

-- the pool is one of the file's, its entry is there, and it has what the COPY takes
unfoldable pub copy_passes : List ℕ → (pools directory : ℕ) → TargetLimits → Decoded → Bool
copy_passes file pools directory limits item =
    let entry = directory + item.pool * entry_size in
    cond (out_of_bulk item.address item.length limits.bulk_start limits.bulk_end) false
    (cond (leb pools item.pool) false
    (cond (ltb (length file) (entry + entry_size)) false
    (pool_fits (part file entry entry_size) limits.kind item.address item.source item.length)))

-- an item whose target has these limits
unfoldable pub item_passes : List ℕ → (pools directory : ℕ) → TargetLimits → Decoded → Bool
item_passes file pools directory limits item =
    cond (eqb item.opcode 0) (write_passes limits item)
    (cond (eqb item.opcode 1) (fill_passes limits item)
    (cond (eqb item.opcode 2) (copy_passes file pools directory limits item) false))

-- a record, by the table
unfoldable pub record_passes : List (List ℕ) → Decoded → Bool
record_passes table item = cond (leb 12 item.target) false (write_passes (limits_at table item.target) item)

-- what is said of an item that no test passes
abbrev pub none : Quick
none = record { passed = false; size = 0 }

-- an operation in bytes that begin with it, by the table
unfoldable pub quick_operation : (width : ℕ) → List ℕ → (pools directory : ℕ) → List (List ℕ) → List ℕ → Quick
quick_operation width file pools directory table bytes =
    let item = decoded_operation width bytes in
    cond (leb 12 item.target) none
    (cond (ltb 2 item.opcode) none
    (record { passed = item_passes file pools directory (limits_at table item.target) item; size = item.size }))
