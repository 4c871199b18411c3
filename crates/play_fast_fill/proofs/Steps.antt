-- Steps of the walk over WRITEs and FILLs.
use Prim.Native.Nat.{ℕ, zero, suc, ◌+◌, ◌-◌, ◌≤◌, ◌<◌}
use mathlib.Core.Path.{◌≡◌, refl, ap}
use mathlib.Core.Bool.{Bool, true, false, cond, ◌&&◌}
use mathlib.Core.List.{List}
use native.Mathlib.Nat.{not-suc-le-zero}
use native.Mathlib.Omega.{arith}
use borrow.Author.Tests.{ne_eqb}
use lib.Dec.{eqb, leb, ltb}
use Rattle.std.specs.Prelude.{Result, Ok, Err}
use Rattle.base_format.specs.declared.card.CardRequirement.{CardRequirement}
use Rattle.base_format.specs.Operation.{address_width}
use Rattle.play_fast_ranges.specs.Ranges.{starts_of, ends_of}
use Rattle.bytes_operation.specs.Decoded.{decoded_at}
use Rattle.play_fast_fill.specs.declared.FillsTaken.{FillsTaken}
use Rattle.play_fast_fill.specs.Fills.{stopped_at, count_at, fills_from, fills_taken}

-- no more operations and no more room are left than there were
abbrev pub Fewer : (left room : ℕ) → FillsTaken → Type 0
Fewer left room r = (r.left ≤ left) × (r.room ≤ room)

-- where a walk stops, taken or not
abbrev pub stop_of : Result FillsTaken FillsTaken → FillsTaken
stop_of (Ok stop) = stop
stop_of (Err stop) = stop

module _ (file : List ℕ) (width : ℕ) (starts ends : List ℕ) (limit : ℕ) where
  -- no operation, or no room
  pub fills_end : (room cursor writes : ℕ) → fills_from file width starts ends limit 0 room cursor writes ≡ Ok (stopped_at cursor 0 room writes)
  unfolding fills_from
  fills_end room cursor writes = refl

  pub fills_full : (left cursor writes : ℕ) → fills_from file width starts ends limit left 0 cursor writes ≡ Ok (stopped_at cursor left 0 writes)
  unfolding fills_from
  fills_full zero cursor writes = refl
  fills_full (suc left) cursor writes = refl

  module _ (left room cursor writes : ℕ) (more : 0 < left) (free : 0 < room) where
    abbrev count : ℕ
    count = count_at file width starts ends limit cursor

    -- an operation that is not allowed, or whose writes are all made
    pub fills_none : leb count writes ≡ true → fills_from file width starts ends limit left room cursor writes ≡ Err (stopped_at cursor left room writes)
    unfolding fills_from
    fills_none e = go left more
      where
        go : (n : ℕ) → 0 < n → fills_from file width starts ends limit n room cursor writes ≡ Err (stopped_at cursor n room writes)
        go zero h = absurd (not-suc-le-zero h)
        go (suc n) h = rw (ne_eqb room 0 (λ none. omega arith), e)

    -- an operation, then the others
    pub fills_step : leb count writes ≡ false
        → fills_from file width starts ends limit left room cursor writes
        ≡ cond (ltb room (count - writes)) (Ok (stopped_at cursor left 0 (writes + room))) (fills_from file width starts ends limit (left - 1) (room - (count - writes)) (cursor + (decoded_at width file cursor).size) 0)
    unfolding fills_from
    fills_step e = go left more
      where
        go : (n : ℕ) → 0 < n
            → fills_from file width starts ends limit n room cursor writes
            ≡ cond (ltb room (count - writes)) (Ok (stopped_at cursor n 0 (writes + room))) (fills_from file width starts ends limit (n - 1) (room - (count - writes)) (cursor + (decoded_at width file cursor).size) 0)
        go zero h = absurd (not-suc-le-zero h)
        go (suc n) h =
            let less : suc n - 1 ≡ n = omega arith in
            rw (ne_eqb room 0 (λ none. omega arith), e, less)

  pub from_fewer : (left room cursor writes : ℕ) → Fewer left room (stop_of (fills_from file width starts ends limit left room cursor writes))
  unfolding fills_from
  from_fewer zero room cursor writes = (omega arith, omega arith)
  from_fewer (suc left) room cursor writes =
      let rest : ℕ = count_at file width starts ends limit cursor - writes in
      go (eqb room 0) (leb (count_at file width starts ends limit cursor) writes) (ltb room rest) rest _ (from_fewer left (room - rest) (cursor + (decoded_at width file cursor).size) 0)
    where
      go : (full none short : Bool) (rest : ℕ) (onward : Result FillsTaken FillsTaken) → Fewer left (room - rest) (stop_of onward)
          → Fewer (suc left) room (stop_of (cond full (Ok (stopped_at cursor (suc left) room writes)) (cond none (Err (stopped_at cursor (suc left) room writes)) (cond short (Ok (stopped_at cursor (suc left) 0 (writes + room))) onward))))
      go true none short rest onward f = (omega arith, omega arith)
      go false true short rest onward f = (omega arith, omega arith)
      go false false true rest onward f = (omega arith, omega arith)
      go false false false rest onward f = (omega (arith, f.0), omega (arith, f.1))

pub fills_fewer : (file : List ℕ) (version : ℕ) (cards : List CardRequirement) (limit left room cursor writes : ℕ) (r : FillsTaken) → r ≡ stop_of (fills_taken file version cards limit left room cursor writes) → Fewer left room r
unfolding fills_taken
fills_fewer file version cards limit left room cursor writes r is = rw is (go (leb 2 version && leb version 4))
  where
    go : (b : Bool) → Fewer left room (stop_of (cond b (fills_from file (address_width version) (starts_of version cards) (ends_of version cards) limit left room cursor writes) (Err (stopped_at cursor left room writes))))
    go true = from_fewer file (address_width version) (starts_of version cards) (ends_of version cards) limit left room cursor writes
    go false = (omega arith, omega arith)

-- of a walk that is taken
pub taken_fewer : (file : List ℕ) (version : ℕ) (cards : List CardRequirement) (limit left room cursor writes : ℕ) (r : FillsTaken) → Ok r ≡ fills_taken file version cards limit left room cursor writes → Fewer left room r
taken_fewer file version cards limit left room cursor writes r is = fills_fewer file version cards limit left room cursor writes r (ap stop_of is)
