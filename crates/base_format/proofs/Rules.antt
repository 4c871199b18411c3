-- The limits of an operation and the checker's tests say the same.
use Prim.Native.Nat.{ℕ, ◌+◌, ◌/◌, ◌%◌, ◌≤◌, ◌<◌}
use mathlib.Core.Path.{◌≡◌, refl, sym, ◌∙◌}
use mathlib.Core.Bool.{Bool, true, false, not, ◌&&◌, ◌||◌}
use native.Mathlib.Omega.{arith}
use borrow.Author.Tests.{le-ltb, eq-eqb, ne_eqb, eqb-true, ltb-false, leb-false, not-false}
use lib.Dec.{eqb, leb, ltb}
use mathlib.Core.List.{List}
use lib.ListN.{length}
use Rattle.base_format.specs.declared.card.CardRequirement.{CardRequirement}
use Rattle.base_format.specs.declared.operation.Operation.{Operation}
use Rattle.base_format.specs.declared.pool.Pool.{Pool}
use Rattle.base_targets.specs.declared.Target.{Target}
use Rattle.base_format.specs.Checked.{ok}
use Rattle.base_format.specs.Limits.{Inside, Takes, FrameFits}
use Rattle.base_format.specs.Operation.{copy_wrong, copy_rules}
use Rattle.base_format.specs.Pool.{Payload}
use Rattle.base_format.specs.Target.{missing, bulk_start, bulk_length, kind_for, outside}
use Rattle.base_format.proofs.Checks.{passed_test, passed_last, or_false, and_true, positive}

pub inside_passes : (what : Target) (address size : ℕ) → Inside what address size → outside what address size ≡ false
unfolding outside
inside_passes what address size h =
    rw (ne_eqb size 0 (λ e. omega (arith, h.some)), le-ltb address (bulk_start what) h.from, le-ltb (bulk_start what + bulk_length what) (address + size) h.up_to)

pub passes_inside : (what : Target) (address size : ℕ) → outside what address size ≡ false → Inside what address size
unfolding outside
passes_inside what address size e =
    let a₁ = or_false (eqb size 0 || ltb address (bulk_start what)) (ltb (bulk_start what + bulk_length what) (address + size)) e in
    let a₂ = or_false (eqb size 0) (ltb address (bulk_start what)) a₁.0 in
    record {
      some = positive size a₂.0;
      from = ltb-false address (bulk_start what) a₂.1;
      up_to = ltb-false (bulk_start what + bulk_length what) (address + size) a₁.1;
    }

-- an entry of the directory for a pool
abbrev pub EntryFor : Payload → Pool → Type 0
EntryFor pool entry = (entry.kind ≡ pool.kind) × (entry.size ≡ length pool.bytes)

pub takes_passes : (what : Target) (pool : Payload) (entry : Pool) (address source size : ℕ) → EntryFor pool entry
    → Takes what pool address source size → copy_wrong what entry address source size ≡ false
unfolding copy_wrong
takes_passes what pool entry address source size for h =
    rw (for.0, for.1, le-ltb (length pool.bytes) (source + size) h.in_pool, eq-eqb pool.kind (kind_for what) h.right_kind) (go (eqb pool.kind 1) refl)
  where
    go : (b : Bool) → eqb pool.kind 1 ≡ b → (b && not (eqb (address % 256) 0 && eqb (source % 256) 0 && eqb (size % 256) 0)) ≡ false
    go true e = let w = h.whole_waves (eqb-true pool.kind 1 e) in rw (w.0, w.1, w.2)
    go false e = refl

-- what a COPY that is allowed keeps to
pub record CopyAllowed (pools : ℕ) (what : Target) (address id : ℕ) (pool : Pool) (source size : ℕ) : Type 0 where
  pub exists : missing what ≡ false
  pub inside : outside what address size ≡ false
  pub known : id < pools
  pub in_pool : source + size ≤ pool.size
  pub right_kind : pool.kind ≡ kind_for what
  pub right : copy_wrong what pool address source size ≡ false

pub copy_allowed : (at version pools : ℕ) (what : Target) (address id : ℕ) (pool : Pool) (source size : ℕ)
    → copy_rules at version pools what address id pool source size ≡ ok tt → CopyAllowed pools what address id pool source size
unfolding copy_rules copy_wrong
copy_allowed at version pools what address id pool source size e =
    let a = passed_test 15 at (missing what) e in
    let b = passed_test 17 at (eqb version 4 && outside what address size) a.1 in
    let c = passed_test 18 at (leb pools id) b.1 in
    let d = or_false (outside what address size) (copy_wrong what pool address source size) (passed_last 19 at _ c.1) in
    let f = or_false (ltb pool.size (source + size) || not (eqb pool.kind (kind_for what))) _ d.1 in
    let g = or_false (ltb pool.size (source + size)) (not (eqb pool.kind (kind_for what))) f.0 in
    record {
      exists = a.0;
      inside = d.0;
      known = leb-false _ _ c.0;
      in_pool = ltb-false _ _ g.0;
      right_kind = eqb-true _ _ (not-false _ g.1);
      right = d.1;
    }

-- what a COPY that is allowed keeps to
pub copy_fine : (at version pools : ℕ) (target : Target) (address id : ℕ) (pool : Pool) (source size : ℕ)
    → copy_rules at version pools target address id pool source size ≡ ok tt → (id < pools) × (0 < size) × (source + size ≤ pool.size)
copy_fine at version pools target address id pool source size e =
    let rules = copy_allowed at version pools target address id pool source size e in
    (rules.known, (passes_inside target address size rules.inside).some, rules.in_pool)

pub passes_takes : (what : Target) (pool : Payload) (entry : Pool) (address source size : ℕ) → EntryFor pool entry
    → copy_wrong what entry address source size ≡ false → Takes what pool address source size
unfolding copy_wrong
passes_takes what pool entry address source size for e =
    let waves = eqb entry.kind 1 && not (eqb (address % 256) 0 && eqb (source % 256) 0 && eqb (size % 256) 0) in
    let a₁ = or_false (ltb entry.size (source + size) || not (eqb entry.kind (kind_for what))) waves e in
    let a₂ = or_false (ltb entry.size (source + size)) (not (eqb entry.kind (kind_for what))) a₁.0 in
    record {
      in_pool = rw for.1 at (ltb-false entry.size (source + size) a₂.0);
      right_kind = sym for.0 ∙ eqb-true entry.kind (kind_for what) (not-false (eqb entry.kind (kind_for what)) a₂.1);
      whole_waves = λ one. whole (eq-eqb entry.kind 1 (for.0 ∙ one)) a₁.1;
    }
  where
    whole : eqb entry.kind 1 ≡ true → (eqb entry.kind 1 && not (eqb (address % 256) 0 && eqb (source % 256) 0 && eqb (size % 256) 0)) ≡ false
        → (address % 256 ≡ 0) × (source % 256 ≡ 0) × (size % 256 ≡ 0)
    whole one e' =
        let all = not-false (eqb (address % 256) 0 && eqb (source % 256) 0 && eqb (size % 256) 0) (rw one at e') in
        let a₁ = and_true (eqb (address % 256) 0 && eqb (source % 256) 0) (eqb (size % 256) 0) all in
        let a₂ = and_true (eqb (address % 256) 0) (eqb (source % 256) 0) a₁.0 in
        (eqb-true (address % 256) 0 a₂.0, eqb-true (source % 256) 0 a₂.1, eqb-true (size % 256) 0 a₁.1)

-- a frame's count fits its two bytes
pub frame_counted : (version : ℕ) (cards : List CardRequirement) (pools : List Payload) (frame : List Operation) → FrameFits version cards pools frame → length frame / 256 < 256
frame_counted version cards pools frame fits = omega (arith, fits.frame_count)
