-- One turn of the loops over records and over operations: where the item does not stand up to `last`, where it is not passed, and where it is.
use Rattle.std.proofs.Common.{◌≡◌, ℕ, ◌+◌, ◌-◌, ◌≤◌, ◌<◌, List, ap, ◌∙◌}
use Rattle.std.specs.Prelude.{Bool, true, false, ◌||◌, eqb}
use borrow.Author.Tests.{le-ltb, lt-ltb}
use Rattle.base_format.specs.Bytes.{byte, part}
use Rattle.bytes_operation.specs.declared.decode.Decoded.{Decoded}
use Rattle.bytes_operation.specs.Decoded.{decoded_record}
use Rattle.check_fast.specs.declared.item.Quick.{Quick}
use Rattle.check_fast.specs.Passes.{record_passes, quick_operation}
use Rattle.check_fast.specs.Run.{record_test, operation_test, has_si22, records_run, operations_from}
use Rattle.check_fast.proofs.Runs.{run_step, run_stops}

module _ (file : List ℕ) (table : List (List ℕ)) (last left at : ℕ) (some : 0 < left) where
  stops : (record_test file table last at).passed ≡ false → records_run file table last left at ≡ record { at = at; left = left; si22 = false }
  stops none = run_stops (record_test file table last) (λ place. false) left at false some none

  pub record_past : last < at → records_run file table last left at ≡ record { at = at; left = left; si22 = false }
  record_past past = stops (rw (lt-ltb _ _ past))

  module _ (near : at ≤ last) (item : Decoded) (is : item ≡ decoded_record (part file at 16)) (quick : Bool) (said : quick ≡ record_passes table item) where
    tested : record_test file table last at ≡ record { passed = quick; size = item.size }
    tested = rw (le-ltb _ _ near, ← is, said)

    pub record_stops : quick ≡ false → records_run file table last left at ≡ record { at = at; left = left; si22 = false }
    record_stops e = stops (ap (λ (q : Quick). q.passed) tested ∙ e)

    pub record_step : quick ≡ true → records_run file table last left at ≡ records_run file table last (left - 1) (at + item.size)
    record_step e = rw (← (ap (λ (q : Quick). q.size) tested)) (run_step (record_test file table last) (λ place. false) left at false some (ap (λ (q : Quick). q.passed) tested ∙ e))

module _ (width : ℕ) (file : List ℕ) (pools directory : ℕ) (table : List (List ℕ)) (last left at : ℕ) (si22 : Bool) (some : 0 < left) where
  abbrev test : ℕ → Quick
  test = operation_test width file pools directory table last

  ends : (test at).passed ≡ false → operations_from width file pools directory table last left at si22 ≡ record { at = at; left = left; si22 = si22 }
  ends none = run_stops (operation_test width file pools directory table last) (has_si22 file) left at si22 some none

  pub operation_past : last < at → operations_from width file pools directory table last left at si22 ≡ record { at = at; left = left; si22 = si22 }
  operation_past past = ends (rw (lt-ltb _ _ past))

  module _ (near : at ≤ last) (bytes : List ℕ) (are : bytes ≡ part file at 16) (quick : Quick) (said : quick ≡ quick_operation width file pools directory table bytes) where
    answered : test at ≡ quick
    answered = rw (le-ltb _ _ near, ← are, said)

    pub operation_stops : quick.passed ≡ false → operations_from width file pools directory table last left at si22 ≡ record { at = at; left = left; si22 = si22 }
    operation_stops e = ends (ap (λ (q : Quick). q.passed) answered ∙ e)

    pub operation_step : quick.passed ≡ true
        → operations_from width file pools directory table last left at si22 ≡ operations_from width file pools directory table last (left - 1) (at + quick.size) (si22 || eqb (byte bytes 1) 11)
    operation_step e =
        rw (are, ← (ap (λ (q : Quick). q.size) answered)) (run_step test (has_si22 file) left at si22 some (ap (λ (q : Quick). q.passed) answered ∙ e))
