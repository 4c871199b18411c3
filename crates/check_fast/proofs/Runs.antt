-- What remains behind a run of items that were passed decides.
use Prim.Native.Nat.{ℕ, zero, suc, ◌+◌, ◌-◌, ◌<◌}
use mathlib.Core.Path.{◌≡◌, refl, ◌∙◌}
use mathlib.Core.Bool.{Bool, true, false, ◌||◌}
use mathlib.Core.List.{List}
use native.Mathlib.Nat.{not-suc-le-zero}
use native.Mathlib.Omega.{arith}
use Rattle.base_format.specs.Checked.{Checked, ok}
use Rattle.base_format.specs.Operation.{Setting}
use Rattle.check_items.specs.Walk.{walk_step, walked_with}
use Rattle.check_items.proofs.Steps.{walk_step_lem}
use Rattle.check_fast.specs.declared.item.Quick.{Quick}
use Rattle.check_fast.specs.Run.{run_from}

-- one item, then the others; where none is passed; and behind the last
module _ (test : ℕ → Quick) (marks : ℕ → Bool) where
  pub run_step : (count at : ℕ) (si22 : Bool) → 0 < count → (test at).passed ≡ true → run_from test marks count at si22 ≡ run_from test marks (count - 1) (at + (test at).size) (si22 || marks at)
  unfolding run_from
  run_step zero at si22 h some = absurd (not-suc-le-zero h)
  run_step (suc count) at si22 h some =
      let less : suc count - 1 ≡ count = omega arith in
      rw (less, some)

  pub run_stops : (count at : ℕ) (si22 : Bool) → 0 < count → (test at).passed ≡ false → run_from test marks count at si22 ≡ record { at = at; left = count; si22 = si22 }
  unfolding run_from
  run_stops zero at si22 h none = absurd (not-suc-le-zero h)
  run_stops (suc count) at si22 h none = rw none

  pub run_ends : (at : ℕ) (si22 : Bool) → run_from test marks 0 at si22 ≡ record { at = at; left = 0; si22 = si22 }
  unfolding run_from
  run_ends at si22 = refl

  -- each item that is passed is one step
  abbrev pub Steps : Setting → List ℕ → (limit : ℕ) → Type 0
  Steps setting file limit =
      (seen : Bool) (at : ℕ) → (test at).passed ≡ true → walk_step seen setting file limit at ≡ ok (at + (test at).size, seen || marks at)

  module _ (setting : Setting) (file : List ℕ) (limit : ℕ) where
    -- what is left behind a run
    abbrev pub left : (count at : ℕ) (seen : Bool) → Checked (ℕ × Bool)
    left count at seen =
        let run = run_from test marks count at seen in
        walked_with run.si22 setting file limit run.left run.at

    pub ran : Steps setting file limit → (count at : ℕ) (seen : Bool) → walked_with seen setting file limit count at ≡ left count at seen
    unfolding run_from
    ran steps zero at seen = refl
    ran steps (suc count) at seen = go (test at).passed refl (ran steps count (at + (test at).size) (seen || marks at))
      where
        go : (b : Bool) → (test at).passed ≡ b → walked_with (seen || marks at) setting file limit count (at + (test at).size) ≡ left count (at + (test at).size) (seen || marks at)
            → walked_with seen setting file limit (suc count) at ≡ left (suc count) at seen
        go false e rest = rw e
        go true e rest =
            let less : suc count - 1 ≡ count = omega arith in
            let step : walked_with seen setting file limit (suc count) at ≡ walked_with (seen || marks at) setting file limit count (at + (test at).size) =
            rw (walk_step_lem seen setting file limit (suc count) at (omega arith), steps seen at e, less) in
            step ∙ rw e rest
