-- Laws of arrays that are filled by number, and of the table of limits.
use Prim.Native.Nat.{ℕ, zero, suc, ◌+◌, ◌≤◌, ◌<◌}
use mathlib.Core.Path.{◌≡◌, refl}
use mathlib.Core.Bool.{Bool, true, false}
use mathlib.Core.List.{List, [], ◌∷◌, ◌++◌}
use native.Mathlib.Numerals.{add-one}
use native.Mathlib.Nat.{not-suc-le-zero}
use native.Mathlib.Omega.{arith}
use borrow.Author.Tests.{eqb-true, eqb-false}
use lib.Dec.{eqb, lit≤}
use lib.ListN.{length, get_or, set, take, length-append, length-set, get_or-append}
use lib.Seq.{get_or_at, take_all, take-suc-set}
use Rattle.base_targets.specs.declared.Target.{Target}
use Rattle.base_targets.specs.declared.Target.TheVariants.{Core, Pcm, Bank, Slot, Si22, Missing}
use Rattle.base_format.specs.declared.card.CardRequirement.{CardRequirement}
use Rattle.base_format.specs.Target.{target_of, write_limit, bulk_start, kind_for}
use Rattle.check_fast_limits.specs.Limits.{write_end, bulk_end, tabled, limits_for, limit_table, limits_at}

-- no limit passes a card's
pub write_limit_range : (target : Target) → write_limit target ≤ 0x1FFFFFF
write_limit_range Core = lit≤ tt
write_limit_range Pcm = lit≤ tt
write_limit_range Bank = lit≤ tt
write_limit_range (Slot start size) = lit≤ tt
write_limit_range Si22 = lit≤ tt
write_limit_range Missing = lit≤ tt

pub length_tabled : (f : ℕ → ℕ) (count : ℕ) → length (tabled f count) ≡ count
unfolding tabled
length_tabled f zero = refl
length_tabled f (suc n) = rw length-append (omega (arith, length_tabled f n))

-- the value at a number
module _ (f : ℕ → ℕ) where
  at_snoc : (n i : ℕ) (front : List ℕ) → length front ≡ n → (i < n → get_or front i 0 ≡ f i) → i < suc n → get_or (front ++ (f n ∷ [])) i 0 ≡ f i
  at_snoc n i front size rest h = go (eqb i n) refl
    where
      go : (b : Bool) → eqb i n ≡ b → get_or (front ++ (f n ∷ [])) i 0 ≡ f i
      go true e =
          let last : i ≡ n = eqb-true i n e in
          rw last (get_or_at front (f n) [] 0 n size)
      go false e =
          let less : i < n = omega (arith, eqb-false i n e) in
          rw (get_or-append front (f n ∷ []) 0 i (omega arith)) (rest less)

  pub tabled_at : (count i : ℕ) → i < count → get_or (tabled f count) i 0 ≡ f i
  unfolding tabled
  tabled_at zero i h = absurd (not-suc-le-zero h)
  tabled_at (suc n) i h = at_snoc n i (tabled f n) (length_tabled f n) (tabled_at n i) h

-- the limits of a target number stand at its place in the columns
pub limits_at_lem : (version : ℕ) (cards : List CardRequirement) (number : ℕ) → number < 12 → limits_at (limit_table version cards) number ≡ limits_for (target_of version cards number)
unfolding limit_table
limits_at_lem version cards number h =
    let column : (f : Target → ℕ) → get_or (tabled (λ n. f (target_of version cards n)) 12) number 0 ≡ f (target_of version cards number) = λ f. tabled_at (λ n. f (target_of version cards n)) 12 number h in
    rw (column write_end, column bulk_start, column bulk_end, column kind_for)

-- a column that is filled up to a number: empty, with one value more, and full
pub record Filled (f : ℕ → ℕ) (n : ℕ) (array : List ℕ) : Type 0 where
  pub size : length array ≡ 12
  pub front : take n array ≡ tabled f n

pub filled_none : (f : ℕ → ℕ) (array : List ℕ) → length array ≡ 12 → Filled f 0 array
unfolding tabled
filled_none f array e = record { size = e; front = refl }

pub filled_next : (f : ℕ → ℕ) (n : ℕ) (array : List ℕ) (v : ℕ) → Filled f n array → n < 12 → v ≡ f n → Filled f (n + 1) (set array n v)
unfolding tabled
filled_next f n array v filled h e =
    record {
      size = rw length-set filled.size;
      front = rw (add-one, take-suc-set array n v (omega (arith, filled.size)), filled.front, e);
    }

pub filled_all : (f : ℕ → ℕ) (array : List ℕ) → Filled f 12 array → array ≡ tabled f 12
filled_all f array filled = rw (take_all 12 array (omega (arith, filled.size))) at filled.front
