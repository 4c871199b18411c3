-- What the limits of a target pass, the rules 15 to 19 allow.
use Prim.Native.Nat.{ℕ, ◌+◌, ◌%◌, ◌<◌}
use mathlib.Core.Path.{◌≡◌, refl}
use mathlib.Core.Bool.{Bool, true, false, not, ◌&&◌, ◌||◌, and-false}
use native.Mathlib.Omega.{arith}
use borrow.Author.Tests.{ltb-true, leb-false, eqb-true, not-true, le-ltb}
use lib.Dec.{eqb, leb, ltb}
use Rattle.base_format.specs.declared.pool.Pool.{Pool}
use Rattle.base_targets.specs.declared.Target.{Target}
use Rattle.base_format.specs.Checked.{ok}
use Rattle.base_format.specs.Operation.{copy_wrong, write_rules, fill_rules, copy_rules}
use Rattle.base_format.specs.Target.{missing, write_limit, bulk_start, bulk_length, outside, kind_for}
use Rattle.base_format.proofs.Checks.{or_false, and_true}
use Rattle.check_fast_limits.specs.Limits.{write_end, bulk_end}
use Rattle.check_fast_rules.specs.Quick.{out_of_bulk, whole_wave}

-- an address before the end: the target is there, and its limit is not passed
pub write_there : (target : Target) (address : ℕ) → ltb address (write_end target) ≡ true → (missing target ≡ false) × (ltb (write_limit target) address ≡ false)
unfolding write_end
write_there target address e = go (missing target) refl
  where
    go : (b : Bool) → missing target ≡ b → (missing target ≡ false) × (ltb (write_limit target) address ≡ false)
    go true m =
        let none : address < 0 = rw m at (ltb-true address _ e) in
        absurd (omega arith)
    go false m =
        let below : address < write_limit target + 1 = rw m at (ltb-true address _ e) in
        (m, le-ltb (write_limit target) address (omega arith))

pub write_passes_lem : (at : ℕ) (target : Target) (address : ℕ) → ltb address (write_end target) ≡ true → write_rules at target address ≡ ok tt
unfolding write_rules
write_passes_lem at target address e =
    let there = write_there target address e in
    rw (there.0, there.1)

-- a range within the target's
bulk_there : (target : Target) (address size : ℕ) → out_of_bulk address size (bulk_start target) (bulk_end target) ≡ false → (missing target ≡ false) × (outside target address size ≡ false)
unfolding out_of_bulk bulk_end outside
bulk_there target address size e = go (missing target) refl
  where
    go : (b : Bool) → missing target ≡ b → (missing target ≡ false) × ((eqb size 0 || ltb address (bulk_start target) || ltb (bulk_start target + bulk_length target) (address + size)) ≡ false)
    go true m =
        let range = or_false (eqb size 0 || ltb address (bulk_start target)) (leb 0 (address + size)) (rw m at e) in
        absurd (omega (arith, leb-false 0 (address + size) range.1))
    go false m =
        let range = or_false (eqb size 0 || ltb address (bulk_start target)) (leb (bulk_start target + bulk_length target + 1) (address + size)) (rw m at e) in
        let below : address + size < bulk_start target + bulk_length target + 1 = leb-false _ _ range.1 in
        (m, rw (range.0, le-ltb (bulk_start target + bulk_length target) (address + size) (omega arith)))

pub fill_passes_lem : (at : ℕ) (target : Target) (address size : ℕ) → out_of_bulk address size (bulk_start target) (bulk_end target) ≡ false → fill_rules at target address size ≡ ok tt
unfolding fill_rules
fill_passes_lem at target address size e =
    let there = bulk_there target address size e in
    rw (there.0, there.1)

-- a whole wave begins and ends where waves do
wave_whole : (address source size : ℕ) → whole_wave address source size ≡ true → (eqb (address % 256) 0 && eqb (source % 256) 0 && eqb (size % 256) 0) ≡ true
unfolding whole_wave
wave_whole address source size h =
    let both = and_true (eqb (address % 256) 0 && eqb source 0) _ h in
    let first = and_true (eqb (address % 256) 0) _ both.0 in
    rw (first.0, eqb-true source 0 first.1, eqb-true size 256 both.1)

-- the pool of a COPY fits its target
pub pool_right : (target : Target) (pool : Pool) (address source size : ℕ)
    → (not (ltb pool.size (source + size)) && eqb pool.kind (kind_for target) && (not (eqb (kind_for target) 1) || whole_wave address source size)) ≡ true
    → copy_wrong target pool address source size ≡ false
unfolding copy_wrong
pool_right target pool address source size e =
    let all = and_true (not (ltb pool.size (source + size)) && eqb pool.kind (kind_for target)) _ e in
    let both = and_true (not (ltb pool.size (source + size))) (eqb pool.kind (kind_for target)) all.0 in
    let same : pool.kind ≡ kind_for target = eqb-true _ _ both.1 in
    rw (not-true (ltb pool.size (source + size)) both.0, both.1, same) (go (eqb (kind_for target) 1) all.1)
  where
    go : (one : Bool) → (not one || whole_wave address source size) ≡ true → (one && not (eqb (address % 256) 0 && eqb (source % 256) 0 && eqb (size % 256) 0)) ≡ false
    go true h = rw (wave_whole address source size h)
    go false h = refl

pub copy_passes_lem : (at version pools : ℕ) (target : Target) (address id : ℕ) (pool : Pool) (source size : ℕ) → out_of_bulk address size (bulk_start target) (bulk_end target) ≡ false
    → leb pools id ≡ false → copy_wrong target pool address source size ≡ false → copy_rules at version pools target address id pool source size ≡ ok tt
unfolding copy_rules
copy_passes_lem at version pools target address id pool source size e known right =
    let there = bulk_there target address size e in
    rw (there.0, there.1, and-false, known, right)
