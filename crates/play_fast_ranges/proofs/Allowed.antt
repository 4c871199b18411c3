-- What the ranges allow: the entries of the arrays by opcode and target, and that a range is kept only by a target that may be used.
use Prim.Native.Nat.{ℕ, ◌+◌, ◌-◌, ◌<◌}
use mathlib.Core.Path.{◌≡◌, refl, ◌∙◌}
use mathlib.Core.Bool.{Bool, true, false, cond, ◌&&◌, true≢false}
use mathlib.Core.List.{List}
use native.Mathlib.Omega.{arith}
use borrow.Author.Tests.{leb-false, lt-ltb, le-ltb}
use lib.Dec.{eqb, leb, ltb}
use lib.ListN.{get_or}
use Rattle.base_format.specs.declared.card.CardRequirement.{CardRequirement}
use Rattle.base_targets.specs.declared.Target.{Target}
use Rattle.base_targets.specs.declared.Target.TheVariants.{Missing}
use Rattle.base_format.specs.Checked.{ok}
use Rattle.base_format.specs.Operation.{write_rules}
use Rattle.base_format.specs.Player.{slot_wrong}
use Rattle.base_format.specs.Target.{slot_of, target_of, missing, write_limit, bulk_start}
use Rattle.base_format.proofs.Checks.{or_false}
use Rattle.check_fast_limits.specs.Limits.{bulk_end}
use Rattle.check_fast_limits.proofs.Tabled.{tabled_at}
use Rattle.check_fast_rules.specs.Quick.{out_of_bulk}
use Rattle.play_fast_ranges.specs.Ranges.{write_top, usable, starts_by, ends_by}

-- ENTRIES

module _ (f : ℕ → Target) (n : ℕ) (below : n < 16) where
  pub write_start : get_or (starts_by f) n 0 ≡ 0
  unfolding starts_by
  write_start = tabled_at _ 32 n (omega arith) ∙ rw (lt-ltb n 16 below)

  pub write_end_lem : get_or (ends_by f) n 0 ≡ write_top (f n)
  unfolding ends_by
  write_end_lem = tabled_at _ 32 n (omega arith) ∙ rw (lt-ltb n 16 below)

  pub fill_start : get_or (starts_by f) (16 + n) 0 ≡ bulk_start (f n)
  unfolding starts_by
  fill_start =
      let number : 16 + n - 16 ≡ n = omega arith in
      tabled_at _ 32 (16 + n) (omega arith) ∙ rw (le-ltb (16 + n) 16 (omega arith), number)

  pub fill_end : get_or (ends_by f) (16 + n) 0 ≡ bulk_end (f n)
  unfolding ends_by
  fill_end =
      let number : 16 + n - 16 ≡ n = omega arith in
      tabled_at _ 32 (16 + n) (omega arith) ∙ rw (le-ltb (16 + n) 16 (omega arith), number)

-- TARGETS

-- a target that may be used and is there is the one of its number, and its card breaks no rule
pub usable_there : (version : ℕ) (cards : List CardRequirement) (n : ℕ) → missing (usable version cards n) ≡ false
    → ((eqb version 4 && leb 3 n && leb n 10 && slot_wrong cards (slot_of n)) ≡ false) × (usable version cards n ≡ target_of version cards n)
unfolding usable
usable_there version cards n e = go (eqb version 4 && leb 3 n && leb n 10 && slot_wrong cards (slot_of n)) e
  where
    go : (b : Bool) → missing (cond b Missing (target_of version cards n)) ≡ false → (b ≡ false) × (cond b Missing (target_of version cards n) ≡ target_of version cards n)
    go true e = absurd (true≢false e)
    go false e = (refl, refl)

-- a WRITE in its range keeps the rules 15 and 16
pub write_allows : (at : ℕ) (target : Target) (address : ℕ) → out_of_bulk address 1 0 (write_top target) ≡ false → (missing target ≡ false) × (write_rules at target address ≡ ok tt)
unfolding out_of_bulk write_top write_rules
write_allows at target address e = go (missing target) refl
  where
    go : (b : Bool) → missing target ≡ b → (missing target ≡ false) × (write_rules at target address ≡ ok tt)
    go true m =
        let range = or_false (ltb address 0) (leb 0 (address + 1)) (rw m at e) in
        absurd (omega (arith, leb-false 0 (address + 1) range.1))
    go false m =
        let range = or_false (ltb address 0) (leb (write_limit target + 2) (address + 1)) (rw m at e) in
        let most : address + 1 < write_limit target + 2 = leb-false _ _ range.1 in
        (m, rw (m, le-ltb (write_limit target) address (omega arith)))
