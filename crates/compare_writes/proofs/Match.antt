-- One step of each loop that compares: what remains decides.
use Prim.Native.Nat.{ℕ, zero, suc, ◌+◌, ◌*◌, ◌-◌, ◌<◌}
use mathlib.Core.Path.{◌≡◌, refl}
use mathlib.Core.Bool.{Bool, true, false, cond, ◌&&◌}
use mathlib.Core.List.{List, [], ◌∷◌, ◌++◌}
use native.Mathlib.Nat.{not-suc-le-zero}
use native.Mathlib.Omega.{arith}
use Rattle.std.specs.Prelude.{Option, Some, None}
use Rattle.base_format.specs.declared.operation.WriteRecord.{WriteRecord}
use Rattle.base_format.specs.Bytes.{byte, be}
use Rattle.base_format.specs.Compare.{same_write, same_writes, core_writes}
use Rattle.base_format.specs.Size.{record_size, count_size}
use Rattle.base_format.specs.Writes.{write}
use Rattle.compare_segment.specs.declared.Segment.{Segment}
use Rattle.compare_writes.specs.declared.run.Records.{Records}
use Rattle.compare_segment.specs.Segments.{source_step, spread, segment_at, segment_writes, operation_writes, operations_stop, record_write, record_writes}
use Rattle.compare_writes.specs.Match.{keeps, kept, matched, matched_segment, matched_operation, same_part, matched_part, if_behind, same_frames_at}

-- the number before one that is not 0
less : (n : ℕ) → suc n - 1 ≡ n
less n = omega arith

-- WRITES THAT COUNT

kept_none : (all : Bool) → kept all [] ≡ []
unfolding core_writes
kept_none true = refl
kept_none false = refl

kept_cons : (all : Bool) (w : WriteRecord) (ws : List WriteRecord) → kept all (w ∷ ws) ≡ cond (keeps all w.target) (w ∷ kept all ws) (kept all ws)
unfolding core_writes
kept_cons true w ws = refl
kept_cons false w ws = refl

-- a segment that does not count
kept_rest : (all : Bool) (file : List ℕ) (target address source step count : ℕ) (rest : List WriteRecord) → keeps all target ≡ false
    → kept all (spread file target address source step count ++ rest) ≡ kept all rest
unfolding spread
kept_rest all file target address source step zero rest e = refl
kept_rest all file target address source step (suc count) rest e =
    rw (
      kept_cons all (write target address (byte file source)) (spread file target (address + 1) (source + step) step count ++ rest),
      e,
    ) (kept_rest all file target (address + 1) (source + step) step count rest e)

-- RECORDS AGAINST A SEGMENT

module _ (all : Bool) (master other : List ℕ) where
  pub matched_end : (left at target address source step count : ℕ) → count ≡ 0 → matched all master other left at target address source step count ≡ Some (record { at = at; left = left })
  unfolding matched
  matched_end zero at target address source step count e = rw e
  matched_end (suc left) at target address source step count e = rw e

  pub matched_short : (at target address source step count : ℕ) → 0 < count → matched all master other 0 at target address source step count ≡ None
  unfolding matched
  matched_short at target address source step zero h = absurd (not-suc-le-zero h)
  matched_short at target address source step (suc count) h = refl

  pub matched_step : (left at target address source step count : ℕ) → 0 < left → 0 < count
      → matched all master other left at target address source step count
      ≡ cond (keeps all (record_write master at).target)
      (cond (same_write (record_write master at) (write target address (byte other source)))
      (matched all master other (left - 1) (at + record_size) target (address + 1) (source + step) step (count - 1)) None)
      (matched all master other (left - 1) (at + record_size) target address source step count)
  unfolding matched
  matched_step zero at target address source step count h h' = absurd (not-suc-le-zero h)
  matched_step (suc left) at target address source step zero h h' = absurd (not-suc-le-zero h')
  matched_step (suc left) at target address source step (suc count) h h' = rw (less left, less count)

  -- the records behind are the last ones
  pub matched_place : (left at target address source step count : ℕ) (r : Records)
      → matched all master other left at target address source step count ≡ Some r → r.at + r.left * record_size ≡ at + left * record_size
  unfolding matched
  matched_place zero at target address source step zero r e =
      let p : record { at = at; left = 0 } ≡ r = cc in
      rw (← p)
  matched_place (suc left) at target address source step zero r e =
      let p : record { at = at; left = suc left } ≡ r = cc in
      rw (← p)
  matched_place zero at target address source step (suc count) r e = absurd (let z : ◌≡◌ {A = ℕ} 0 1 = cc in omega arith)
  matched_place (suc left) at target address source step (suc count) r e =
      go (keeps all (record_write master at).target) (same_write (record_write master at) (write target address (byte other source)))
      (matched_place left (at + record_size) target (address + 1) (source + step) step count r)
      (matched_place left (at + record_size) target address source step (suc count) r) e
    where
      go : {a b : Option Records} (k s : Bool) → (a ≡ Some r → r.at + r.left * record_size ≡ at + record_size + left * record_size)
          → (b ≡ Some r → r.at + r.left * record_size ≡ at + record_size + left * record_size)
          → cond k (cond s a None) b ≡ Some r → r.at + r.left * record_size ≡ at + suc left * record_size
      go true true one two e = omega (arith, one e)
      go true false one two e = absurd (let z : ◌≡◌ {A = ℕ} 0 1 = cc in omega arith)
      go false s one two e = omega (arith, two e)

  -- records behind a match against the writes behind a segment
  abbrev rest_same : (rest : List WriteRecord) → ℕ → ℕ → Bool
  rest_same rest left at = same_writes (kept all (record_writes master left at)) (kept all rest)

  match_kept : (r w : WriteRecord) (rs ws : List WriteRecord) (k : Bool) (a b : Option Records) (next : ℕ → ℕ → Bool) → keeps all w.target ≡ true → keeps all r.target ≡ k
      → same_writes (kept all rs) (kept all ws) ≡ if_behind a next false → same_writes (kept all rs) (kept all (w ∷ ws)) ≡ if_behind b next false
      → same_writes (kept all (r ∷ rs)) (kept all (w ∷ ws)) ≡ if_behind (cond k (cond (same_write r w) a None) b) next false
  unfolding same_writes
  match_kept r w rs ws true a b next e f one two = rw (kept_cons all r rs, kept_cons all w ws, e, f) (go (same_write r w) _ a one)
    where
      go : (s t : Bool) (a : Option Records) → t ≡ if_behind a next false → (s && t) ≡ if_behind (cond s a None) next false
      go true t a one = one
      go false t a one = refl
  match_kept r w rs ws false a b next e f one two = rw (kept_cons all r rs, f) two

  none_against : (w : WriteRecord) (ws : List WriteRecord) → keeps all w.target ≡ true → same_writes (kept all []) (kept all (w ∷ ws)) ≡ false
  unfolding same_writes
  none_against w ws e = rw (kept_none all, kept_cons all w ws, e)

  pub match_is : (rest : List WriteRecord) (target : ℕ) → keeps all target ≡ true → (left at address source step count : ℕ)
      → same_writes (kept all (record_writes master left at)) (kept all (spread other target address source step count ++ rest))
      ≡ if_behind (matched all master other left at target address source step count) (rest_same rest) false
  unfolding spread record_writes matched
  match_is rest target e zero at address source step zero = refl
  match_is rest target e (suc left) at address source step zero = refl
  match_is rest target e zero at address source step (suc count) =
      none_against (write target address (byte other source)) (spread other target (address + 1) (source + step) step count ++ rest) e
  match_is rest target e (suc left) at address source step (suc count) =
      match_kept (record_write master at) (write target address (byte other source)) (record_writes master left (at + record_size))
      (spread other target (address + 1) (source + step) step count ++ rest) (keeps all (record_write master at).target) _ _ (rest_same rest) e refl
      (match_is rest target e left (at + record_size) (address + 1) (source + step) step count)
      (match_is rest target e left (at + record_size) address source step (suc count))

-- RECORDS AGAINST OPERATIONS

-- behind an operation
operation_is : (all : Bool) (master other : List ℕ) (rest : List WriteRecord) (segment : Segment) (left at : ℕ)
    → rest_same all master other (segment_writes other segment ++ rest) left at ≡ if_behind (matched_operation all master other left at segment) (rest_same all master other rest) false
unfolding matched_operation
operation_is all master other rest segment left at = go (keeps all segment.target) refl
  where
    go : (k : Bool) → keeps all segment.target ≡ k
        → rest_same all master other (segment_writes other segment ++ rest) left at
        ≡ if_behind (cond k (matched_segment all master other left at segment) (Some (record { at = at; left = left }))) (rest_same all master other rest) false
    go true e = match_is all master other rest segment.target e left at segment.address segment.source (source_step segment.copied) segment.count
    go false e = rw (kept_rest all other segment.target segment.address segment.source (source_step segment.copied) segment.count rest e)

pub operation_place : (all : Bool) (master other : List ℕ) (segment : Segment) (left at : ℕ) (r : Records)
    → matched_operation all master other left at segment ≡ Some r → r.at + r.left * record_size ≡ at + left * record_size
unfolding matched_operation
operation_place all master other segment left at r = go (keeps all segment.target)
  where
    go : (k : Bool) → cond k (matched_segment all master other left at segment) (Some (record { at = at; left = left })) ≡ Some r → r.at + r.left * record_size ≡ at + left * record_size
    go true e = matched_place all master other left at segment.target segment.address segment.source (source_step segment.copied) segment.count r e
    go false e =
        let p : record { at = at; left = left } ≡ r = cc in
        rw (← p)

chosen : (r : Option Records) (same : ℕ → ℕ → Bool) (stop : Option ℕ) → cond (if_behind r same false) stop None ≡ if_behind r (λ (l a : ℕ). cond (same l a) stop None) None
chosen (Some records) same stop = refl
chosen None same stop = refl

pub part_step : (all : Bool) (master other : List ℕ) (directory left at count from : ℕ) → 0 < count
    → matched_part all master other directory left at count from
    ≡ if_behind (matched_operation all master other left at (segment_at other directory from))
    (λ (l a : ℕ). matched_part all master other directory l a (count - 1) (segment_at other directory from).next) None
unfolding matched_part same_part operation_writes operations_stop
part_step all master other directory left at zero from h = absurd (not-suc-le-zero h)
part_step all master other directory left at (suc count) from h =
    let segment = segment_at other directory from in
    rw (less count, operation_is all master other (operation_writes other directory count segment.next) segment left at) (chosen (matched_operation all master other left at segment) _ _)

pub part_end : (all : Bool) (master other : List ℕ) (directory left at count from : ℕ) → count ≡ 0
    → matched_part all master other directory left at count from ≡ cond (same_writes (kept all (record_writes master left at)) []) (Some from) None
unfolding matched_part same_part operation_writes operations_stop
part_end all master other directory left at count from e = rw (e, kept_none all)

-- the last records against nothing
pub none_step : (all : Bool) (master : List ℕ) (left at : ℕ) → 0 < left
    → same_writes (kept all (record_writes master left at)) [] ≡ cond (keeps all (record_write master at).target) false (same_writes (kept all (record_writes master (left - 1) (at + record_size))) [])
unfolding record_writes same_writes
none_step all master zero at h = absurd (not-suc-le-zero h)
none_step all master (suc left) at h =
    rw (
      less left,
      kept_cons all (record_write master at) (record_writes master left (at + record_size)),
    ) (go (keeps all (record_write master at).target) (record_write master at) (kept all (record_writes master left (at + record_size))))
  where
    go : (k : Bool) (w : WriteRecord) (ws : List WriteRecord) → same_writes (cond k (w ∷ ws) ws) [] ≡ cond k false (same_writes ws [])
    go true w ws = refl
    go false w ws = refl

pub none_end : (all : Bool) (master : List ℕ) (left at : ℕ) → left ≡ 0 → same_writes (kept all (record_writes master left at)) [] ≡ true
unfolding record_writes same_writes
none_end all master left at e = rw (e, kept_none all)

-- FRAMES

pub frames_step : (master other : List ℕ) (directory count at from : ℕ) → 0 < count
    → same_frames_at master other directory count at from
    ≡ (same_part true master other directory (be 2 master at) (at + count_size) (be 2 other from) (from + count_size)
    && same_frames_at master other directory (count - 1) (at + count_size + be 2 master at * record_size) (operations_stop other directory (be 2 other from) (from + count_size)))
unfolding same_frames_at
frames_step master other directory zero at from h = absurd (not-suc-le-zero h)
frames_step master other directory (suc count) at from h = rw (less count)

pub frames_end_lem : (master other : List ℕ) (directory count at from : ℕ) → count ≡ 0 → same_frames_at master other directory count at from ≡ true
unfolding same_frames_at
frames_end_lem master other directory count at from e = rw e
