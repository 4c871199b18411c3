-- Behind a run of items that were passed quickly, the others decide.
use Prim.Native.Nat.{ℕ, ◌+◌, ◌-◌, ◌≤◌, min}
use mathlib.Core.Path.{◌≡◌, refl}
use mathlib.Core.Bool.{Bool, true, false, cond}
use mathlib.Core.List.{List}
use native.Mathlib.Omega.{arith}
use borrow.Author.Tests.{ltb-false}
use lib.Dec.{eqb, ltb}
use lib.ListN.{length}
use Rattle.base_format.specs.declared.card.CardRequirement.{CardRequirement}
use Rattle.base_format.specs.Checked.{Checked}
use Rattle.base_format.specs.Operation.{address_width}
use Rattle.check_items.specs.Walk.{walked, walked_with}
use Rattle.check_fast.specs.declared.run.QuickRun.{QuickRun}
use Rattle.check_fast_limits.specs.Limits.{limit_table}
use Rattle.check_fast.specs.Run.{run_from, record_test, operation_test, has_si22, records_run, operations_from, quick_run}
use Rattle.check_fast.proofs.Items.{setting, record_steps, operation_steps}
use Rattle.check_fast.proofs.Runs.{ran}

-- what is left behind a run
abbrev pub left_behind : (version : ℕ) → List CardRequirement → (pools directory : ℕ) → List ℕ → (limit : ℕ) → QuickRun → Checked (ℕ × Bool)
left_behind version cards pools directory file limit run =
    walked_with run.si22 (setting version cards pools directory file) file limit run.left run.at

pub quick_ran : (version : ℕ) (cards : List CardRequirement) (pools directory : ℕ) (file : List ℕ) (table : List (List ℕ)) (limit count at : ℕ) → table ≡ limit_table version cards
    → walked (setting version cards pools directory file) file limit count at ≡ left_behind version cards pools directory file limit (quick_run version file pools directory table limit count at)
unfolding quick_run
quick_ran version cards pools directory file table limit count at is = rw is (go (ltb end 16) refl (eqb version 1) refl)
  where
    end : ℕ
    end = min limit (length file)

    known : List (List ℕ)
    known = limit_table version cards

    run : (short one : Bool) → QuickRun
    run short one =
        cond short (record { at = at; left = count; si22 = false })
        (cond one (records_run file known (end - 16) count at) (operations_from (address_width version) file pools directory known (end - 16) count at false))

    go : (short : Bool) → ltb end 16 ≡ short → (one : Bool) → eqb version 1 ≡ one → walked (setting version cards pools directory file) file limit count at ≡ left_behind version cards pools directory file limit (run short one)
    go true e one v = refl
    go false e true v =
        let room : end - 16 + 16 ≤ limit = omega (arith, ltb-false end 16 e) in
        ran (record_test file known (end - 16)) (λ place. false) (setting version cards pools directory file) file limit (record_steps version cards pools directory file limit (end - 16) room v) count at false
    go false e false v =
        let room : end - 16 + 16 ≤ limit = omega (arith, ltb-false end 16 e) in
        ran (operation_test (address_width version) file pools directory known (end - 16)) (has_si22 file) (setting version cards pools directory file) file limit
        (operation_steps version cards pools directory file limit (end - 16) room v) count at false

-- no items at all
pub quick_none : (version : ℕ) (pools directory : ℕ) (file : List ℕ) (table : List (List ℕ)) (limit at : ℕ) → quick_run version file pools directory table limit 0 at ≡ record { at = at; left = 0; si22 = false }
unfolding quick_run run_from
quick_none version pools directory file table limit at = go (ltb (min limit (length file)) 16) (eqb version 1)
  where
    last : ℕ
    last = min limit (length file) - 16

    go : (short one : Bool)
        → cond short (record { at = at; left = 0; si22 = false }) (cond one (records_run file table last 0 at) (operations_from (address_width version) file pools directory table last 0 at false))
        ≡ record { at = at; left = 0; si22 = false }
    go true one = refl
    go false true = refl
    go false false = refl
