-- The limits of every target number of a file.
use Rattle.std.specs.Prelude.{ℕ, zero, suc, ◌+◌, cond, List, [], ◌∷◌, ◌++◌, get_or}
use Rattle.base_format.specs.declared.card.CardRequirement.{CardRequirement}
use Rattle.base_targets.specs.declared.Target.{Target}
use Rattle.base_format.specs.Target.{target_of, missing, write_limit, bulk_start, bulk_length, kind_for}
use Rattle.check_fast_limits.specs.declared.TargetLimits.{TargetLimits}

-- the address behind the last one of a WRITE; a missing target has none
unfoldable pub write_end : Target → ℕ
write_end target = cond (missing target) 0 (write_limit target + 1)

-- one more than the end of the range of FILL and COPY
unfoldable pub bulk_end : Target → ℕ
bulk_end target = cond (missing target) 0 (bulk_start target + bulk_length target + 1)

-- the values of a function at the numbers below `count`
unfoldable pub tabled : (ℕ → ℕ) → (count : ℕ) → List ℕ
tabled f zero = []
tabled f (suc n) = tabled f n ++ (f n ∷ [])

-- what an item to a target is compared with
abbrev pub limits_for : Target → TargetLimits
limits_for target =
    record {
      write_end = write_end target;
      bulk_start = bulk_start target;
      bulk_end = bulk_end target;
      kind = kind_for target;
    }

-- a column of the table: one number of every target
abbrev pub column_of : (version : ℕ) → List CardRequirement → (Target → ℕ) → List ℕ
column_of version cards f = tabled (λ number. f (target_of version cards number)) 12

-- the table of a version with its cards
unfoldable pub limit_table : (version : ℕ) → List CardRequirement → List (List ℕ)
limit_table version cards =
    column_of version cards write_end ∷ column_of version cards bulk_start ∷ column_of version cards bulk_end ∷ column_of version cards kind_for ∷ []

-- the limits of a target number
abbrev pub limits_at : List (List ℕ) → (number : ℕ) → TargetLimits
limits_at table number =
    record {
      write_end = get_or (get_or table 0 []) number 0;
      bulk_start = get_or (get_or table 1 []) number 0;
      bulk_end = get_or (get_or table 2 []) number 0;
      kind = get_or (get_or table 3 []) number 0;
    }
