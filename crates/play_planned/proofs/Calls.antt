-- A plan's answer, state and records are the call's.
use Prim.Native.Nat.{ℕ}
use mathlib.Core.Bool.{Bool, true, false, cond}
use mathlib.Core.List.{List, []}
use mathlib.Core.Path.{◌≡◌, refl, sym, ap, ◌∙◌}
use lib.ListN.{length}
use Rattle.base_format.specs.State.{part_of}
use Rattle.base_format.specs.declared.operation.WriteRecord.{WriteRecord}
use Rattle.base_format.specs.declared.player.StreamPlayer.{StreamPlayer}
use Rattle.base_format.specs.Checked.{Checked, ok, refused, mapped, ◌>>◌}
use Rattle.base_format.specs.declared.rule.Refusal.{Refusal}
use Rattle.base_format.specs.Rule.{number_of, refusal}
use Rattle.base_format.specs.Listener.{after}
use Rattle.play_laws.specs.Plan.{plan_of, planned}
use Rattle.base_format.specs.Player.{Played, play, belongs, as25, call, run_after}
use Rattle.base_format.proofs.Checks.{refused_not_ok}
use Rattle.play_laws.proofs.Planned.{planned_is}
use Rattle.play_plan.specs.declared.call.CallPlan.{CallPlan}
use Rattle.play_plan.specs.Told.{plan_told}
use Rattle.play_store.specs.Stored.{stored_call}
use Rattle.play_store.proofs.Call.{call_stored}
use Rattle.play_planned.specs.declared.Vsync.{Vsync}
use Rattle.play_planned.specs.Vsync.{vsync_of, Advanced}

-- whatever a call refuses is 25, at place 0
pub refused_25 : (state : StreamPlayer) (file : List ℕ) (room number place : ℕ) → call state file room ≡ refused number place → (number ≡ 25) × (place ≡ 0)
unfolding call
refused_25 state file room number place e = either state.progress.finished (belongs state file >> play state file room state.progress (part_of state.progress.part)) e
  where
    as_25 : (x : Checked Played) → as25 x ≡ refused number place → (number ≡ 25) × (place ≡ 0)
    as_25 (ok a) e = absurd (refused_not_ok (sym e))
    as_25 (refused n p) e = (cc, cc)

    either : (b : Bool) (x : Checked Played) → cond b (ok (record { records = []; complete = true; next = state })) (as25 x) ≡ refused number place → (number ≡ 25) × (place ≡ 0)
    either true x e = absurd (refused_not_ok (sym e))
    either false x e = as_25 x e

module _ (state : StreamPlayer) (file : List ℕ) (run : List WriteRecord) where
  -- a call that is planned is played so
  pub accepted_call : (plan : CallPlan) → ok plan ≡ mapped plan_told (planned state file (length run))
      → Advanced state file run (record { number = 0; place = 0; count = plan.count; complete = plan.complete }) plan.next (stored_call file state plan.count run)
  accepted_call plan given = go (call state file (length run)) refl (given ∙ ap (mapped plan_told) (planned_is state file (length run)))
    where
      go : (answer : Checked Played) → call state file (length run) ≡ answer → ok plan ≡ mapped plan_told (mapped plan_of answer)
          → Advanced state file run (record { number = 0; place = 0; count = plan.count; complete = plan.complete }) plan.next (stored_call file state plan.count run)
      go (ok a) e given =
          let same : plan ≡ plan_told (plan_of a) = cc in (
            ap (λ (p : CallPlan). record { number = 0; place = 0; count = p.count; complete = p.complete }) same ∙ ap vsync_of (sym e),
            ap (λ (p : CallPlan). p.next) same ∙ ap (after state) (sym e),
            ap (λ (p : CallPlan). stored_call file state p.count run) same ∙ call_stored file state run a e,
          )
      go (refused number place) e given = cc

  -- and one that is refused leaves the state and the run
  pub refused_call : (r : Refusal) → refusal r ≡ mapped plan_told (planned state file (length run))
      → Advanced state file run (record { number = number_of r.rule; place = r.place; count = 0; complete = false }) state run
  refused_call r given = go (call state file (length run)) refl (given ∙ ap (mapped plan_told) (planned_is state file (length run)))
    where
      go : (answer : Checked Played) → call state file (length run) ≡ answer → refusal r ≡ mapped plan_told (mapped plan_of answer)
          → Advanced state file run (record { number = number_of r.rule; place = r.place; count = 0; complete = false }) state run
      go (ok a) e given = cc
      go (refused number place) e given =
          let same : number_of r.rule ≡ number = cc in
          let at : r.place ≡ place = cc in (
            rw (e, same, at),
            ap (after state) (sym e),
            ap (run_after run) (sym e),
          )
