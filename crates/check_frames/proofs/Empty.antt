-- Passing over empty frames: the frames that are left decide.
use Prim.Native.Nat.{ℕ, zero, suc, ◌+◌, ◌-◌, ◌≤◌, ◌<◌}
use mathlib.Core.Path.{◌≡◌, refl, ◌∙◌}
use mathlib.Core.Bool.{Bool, true, false, not, ◌||◌, or-false}
use mathlib.Core.List.{List}
use native.Mathlib.Nat.{not-suc-le-zero}
use native.Mathlib.Omega.{arith}
use borrow.Author.Tests.{eqb-true, not-false}
use lib.Dec.{eqb, ltb}
use lib.ListN.{length}
use Rattle.base_format.specs.Bytes.{be}
use Rattle.base_format.specs.Operation.{Setting}
use Rattle.base_format.specs.Stream.{operations_from}
use Rattle.base_format.specs.Writes.{any_si22}
use Rattle.base_format.proofs.Checks as checks
use Rattle.check_frames.specs.Skipped.{skipped}
use Rattle.check_frames.specs.Frames.{frames_said}
use Rattle.check_frames.proofs.FrameWalk.{frames_step}

-- an empty frame, then the others
empty_step : (setting : Setting) (file : List ℕ) (n at : ℕ) (seen : Bool) → ltb (length file) (at + 2) ≡ false → be 2 file at ≡ 0 → frames_said setting file (suc n) at seen ≡ frames_said setting file n (at + 2) seen
unfolding operations_from any_si22
empty_step setting file n at seen cut none =
    let less : suc n - 1 ≡ n = omega arith in
    rw (frames_step setting file (suc n) at seen (omega arith), cut, none, less, or-false)

-- some frame is left where there was one, and the frames that are left decide
pub record Skipped (setting : Setting) (file : List ℕ) (left at : ℕ) (seen : Bool) : Type 0 where
  pub some : 0 < (skipped file left at).left
  pub fewer : (skipped file left at).left ≤ left
  pub decides : frames_said setting file left at seen ≡ frames_said setting file (skipped file left at).left (skipped file left at).at seen

pub skip : (setting : Setting) (file : List ℕ) (left at : ℕ) (seen : Bool) → 0 < left → Skipped setting file left at seen
unfolding skipped
skip setting file zero at seen h = absurd (not-suc-le-zero h)
skip setting file (suc n) at seen h = go (eqb n 0 || ltb (length file) (at + 2) || not (eqb (be 2 file at) 0)) refl (skip setting file n (at + 2) seen)
  where
    go : (b : Bool) → (eqb n 0 || ltb (length file) (at + 2) || not (eqb (be 2 file at) 0)) ≡ b → (0 < n → Skipped setting file n (at + 2) seen) → Skipped setting file (suc n) at seen
    go true e rest = record { some = rw e (omega arith); fewer = rw e (omega arith); decides = rw e }
    go false e rest =
        let there = checks.or_false (eqb n 0 || ltb (length file) (at + 2)) _ e in
        let both = checks.or_false (eqb n 0) (ltb (length file) (at + 2)) there.0 in
        let none : be 2 file at ≡ 0 = eqb-true _ _ (not-false _ there.1) in
        let next = rest (checks.positive n both.0) in
        record { some = rw e next.some; fewer = rw e (omega (arith, next.fewer)); decides = rw e (empty_step setting file n at seen both.1 none ∙ next.decides) }
