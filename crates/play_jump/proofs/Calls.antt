-- What a jump tells, and the state that it leaves, by its plan.
use Prim.Native.Nat.{ℕ}
use mathlib.Core.List.{List}
use mathlib.Core.Path.{◌≡◌, refl}
use Rattle.base_format.specs.declared.player.StreamPlayer.{StreamPlayer}
use Rattle.base_format.specs.declared.rule.Refusal.{Refusal}
use Rattle.base_format.specs.Checked.{ok}
use Rattle.base_format.specs.Jump.{jumped}
use Rattle.base_format.specs.Rule.{number_of, refusal}
use Rattle.play_jump.specs.Jumped.{JumpMade}

module _ (state : StreamPlayer) (file index : List ℕ) (frame : ℕ) where
  pub jump_accepted : (next : StreamPlayer) → ok next ≡ jumped state file index frame → JumpMade state file index frame (record { number = 0; place = 0 }) next
  jump_accepted next given = rw (← given) (refl, refl)

  pub jump_refused : (r : Refusal) → refusal r ≡ jumped state file index frame → JumpMade state file index frame (record { number = number_of r.rule; place = r.place }) state
  jump_refused r given = rw (← given) (refl, refl)
