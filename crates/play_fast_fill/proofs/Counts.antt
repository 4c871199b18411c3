-- What the count of an operation that is allowed says.
use Prim.Native.Nat.{ℕ, ◌+◌, ◌*◌, ◌≤◌, ◌<◌}
use mathlib.Core.Path.{◌≡◌, refl}
use mathlib.Core.Bool.{Bool, true, false, cond, true≢false}
use mathlib.Core.List.{List}
use native.Mathlib.Omega.{arith}
use borrow.Author.Tests.{ltb-false, le-ltb, ne_eqb}
use lib.Dec.{eqb, ltb}
use lib.ListN.{get_or}
use Rattle.base_format.specs.Bytes.{byte, part}
use Rattle.check_fast_rules.specs.Quick.{out_of_bulk}
use Rattle.bytes_operation.specs.declared.decode.Decoded.{Decoded}
use Rattle.bytes_operation.specs.Decoded.{decoded_at, decoded_operation}
use Rattle.play_fast_fill.specs.Fills.{fill_count, count_at}

-- an operation that has a count
pub record Counted (item : Decoded) (starts ends : List ℕ) : Type 0 where
  pub opcode : item.opcode ≤ 1
  pub target : item.target ≤ 15
  pub inside : out_of_bulk item.address item.length (get_or starts (16 * item.opcode + item.target) 0) (get_or ends (16 * item.opcode + item.target) 0) ≡ false
  pub count : fill_count item starts ends ≡ item.length

-- three tests that a number is behind
passed : (a b c : Bool) (n : ℕ) → eqb (cond a 0 (cond b 0 (cond c 0 n))) 0 ≡ false
    → (a ≡ false) × (b ≡ false) × (c ≡ false) × (cond a 0 (cond b 0 (cond c 0 n)) ≡ n)
passed true b c n e = absurd (true≢false e)
passed false true c n e = absurd (true≢false e)
passed false false true n e = absurd (true≢false e)
passed false false false n e = (refl, refl, refl, refl)

pub counted : (item : Decoded) (starts ends : List ℕ) → eqb (fill_count item starts ends) 0 ≡ false → Counted item starts ends
unfolding fill_count
counted item starts ends some =
    let k = 16 * item.opcode + item.target in
    let all = passed (ltb 1 item.opcode) (ltb 15 item.target) (out_of_bulk item.address item.length (get_or starts k 0) (get_or ends k 0)) item.length some in
    record { opcode = ltb-false 1 item.opcode all.0; target = ltb-false 15 item.target all.1; inside = all.2; count = all.3 }

-- the count of an operation at a place: with 16 bytes before the limit, and without
module _ (file : List ℕ) (width : ℕ) (starts ends : List ℕ) (limit at : ℕ) where
  pub count_within : at + 16 ≤ limit → count_at file width starts ends limit at ≡ fill_count (decoded_at width file at) starts ends
  unfolding count_at
  count_within h = rw (le-ltb limit (at + 16) h)

  pub count_past : ltb limit (at + 16) ≡ true → count_at file width starts ends limit at ≡ 0
  unfolding count_at
  count_past h = rw h

  -- an operation that has a count has 16 bytes before the limit
  pub count_whole : eqb (count_at file width starts ends limit at) 0 ≡ false → at + 16 ≤ limit
  unfolding count_at
  count_whole some = go (ltb limit (at + 16)) refl some
    where
      go : (b : Bool) → ltb limit (at + 16) ≡ b → eqb (cond b 0 (fill_count (decoded_at width file at) starts ends)) 0 ≡ false → at + 16 ≤ limit
      go true e none = absurd (true≢false none)
      go false e some = ltb-false limit (at + 16) e

  -- as it is read from the 16 bytes there
  pub count_read : (past : Bool) (bytes : List ℕ) (count : ℕ) → past ≡ ltb limit (at + 16) → past ≡ false → bytes ≡ part file at 16
      → count ≡ fill_count (decoded_operation width bytes) starts ends → count_at file width starts ends limit at ≡ count
  unfolding count_at
  count_read past bytes count is inside read counts = rw (← is, inside, counts, read)

-- an operation whose count is above some writes has the opcode 0 or 1
pub count_low : (width : ℕ) (bytes starts ends : List ℕ) (count made : ℕ) → count ≡ fill_count (decoded_operation width bytes) starts ends → made < count → byte bytes 0 ≤ 1
unfolding decoded_operation
count_low width bytes starts ends count made is more =
    let some : count ≡ 0 → ⊥ = λ none. omega (arith, none, more) in
    (counted (decoded_operation width bytes) starts ends (rw (← is) (ne_eqb _ _ some))).opcode
