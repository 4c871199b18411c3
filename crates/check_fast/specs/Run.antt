-- What the loops over items have still to do.
use Rattle.std.specs.Prelude.{ℕ, zero, suc, ◌+◌, ◌-◌, min, Bool, false, cond, ◌||◌, List, eqb, ltb, length}
use Rattle.base_format.specs.Bytes.{byte, part}
use Rattle.base_format.specs.Operation.{address_width}
use Rattle.base_format.specs.Size.{operation_most}
use Rattle.bytes_operation.specs.Decoded.{decoded_record}
use Rattle.check_fast.specs.declared.run.QuickRun.{QuickRun}
use Rattle.check_fast.specs.declared.item.Quick.{Quick}
use Rattle.check_fast.specs.Passes.{record_passes, none, quick_operation}

-- so many items, as far as a test passes each; `marks` says which have target 11
unfoldable pub run_from : (test : ℕ → Quick) → (marks : ℕ → Bool) → (count at : ℕ) → Bool → QuickRun
run_from test marks zero at si22 = record { at = at; left = 0; si22 = si22 }
run_from test marks (suc count) at si22 =
    cond (test at).passed (run_from test marks count (at + (test at).size) (si22 || marks at)) (record { at = at; left = suc count; si22 = si22 })

-- a record that stands at a place up to `last`
abbrev pub record_test : List ℕ → List (List ℕ) → (last at : ℕ) → Quick
record_test file table last at =
    let item = decoded_record (part file at operation_most) in
    cond (ltb last at) none (record { passed = record_passes table item; size = item.size })

-- no record that is passed has target 11
abbrev pub records_run : List ℕ → List (List ℕ) → (last count at : ℕ) → QuickRun
records_run file table last count at = run_from (record_test file table last) (λ place. false) count at false

-- an operation that stands at a place up to `last`
abbrev pub operation_test : (width : ℕ) → List ℕ → (pools directory : ℕ) → List (List ℕ) → (last at : ℕ) → Quick
operation_test width file pools directory table last at =
    cond (ltb last at) none (quick_operation width file pools directory table (part file at operation_most))

-- whether the operation at a place has target 11
abbrev pub has_si22 : List ℕ → (at : ℕ) → Bool
has_si22 file at = eqb (byte (part file at operation_most) 1) 11

abbrev pub operations_from : (width : ℕ) → List ℕ → (pools directory : ℕ) → List (List ℕ) → (last count at : ℕ) → Bool → QuickRun
operations_from width file pools directory table last count at si22 =
    run_from (operation_test width file pools directory table last) (has_si22 file) count at si22

-- by the version, up to the last place with 16 bytes before the limit and the file's end
unfoldable pub quick_run : (version : ℕ) → List ℕ → (pools directory : ℕ) → List (List ℕ) → (limit count at : ℕ) → QuickRun
quick_run version file pools directory table limit count at =
    let end = min limit (length file) in
    cond (ltb end operation_most) (record { at = at; left = count; si22 = false })
    (cond (eqb version 1) (records_run file table (end - operation_most) count at)
    (operations_from (address_width version) file pools directory table (end - operation_most) count at false))
