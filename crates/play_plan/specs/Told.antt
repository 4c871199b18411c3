-- What the answers of this crate say.
use Rattle.std.specs.Prelude.{ℕ, List, Option, Some, None}
use Rattle.base_format.specs.declared.player.Part.TheVariants.{Between}
use Rattle.base_format.specs.declared.player.Progress.{Progress}
use Rattle.base_format.specs.declared.player.StreamPlayer.{StreamPlayer}
use Rattle.base_format.specs.Checked.{Checked, ok, refused, ◌>>=◌}
use Rattle.play_laws.specs.Plan.{Plan, plan_frame, plan}
use Rattle.base_format.specs.Player.{frame_begun}
use Rattle.base_format.specs.State.{moved}
use Rattle.play_plan_taken.specs.declared.taken.Taken.{Taken}
use Rattle.play_plan.specs.declared.call.CallPlan.{CallPlan}

-- THE ANSWER OF A CALL

-- a plan as the code's
abbrev pub plan_told : Plan → CallPlan
plan_told plan = record { count = plan.count; complete = plan.complete; next = plan.next }

-- the plan of a state's call that takes so much; none is refusal 25 at place 0
abbrev pub taken_told : StreamPlayer → Option Taken → Checked Plan
taken_told state (Some t) = ok (record { count = t.count; complete = t.complete; next = moved state t.progress })
taken_told state None = refused 25 0

-- PLANS

-- the plan of a call that begins a vsync
abbrev pub plan_between : StreamPlayer → List ℕ → (room : ℕ) → Progress → Checked Plan
plan_between state file room p = plan state file room p Between

-- the plan of a call that begins a frame
abbrev pub plan_begun : StreamPlayer → List ℕ → (room cursor frame : ℕ) → Progress → Checked Plan
plan_begun state file room cursor frame p = frame_begun file cursor frame p >>= plan_frame state file room
