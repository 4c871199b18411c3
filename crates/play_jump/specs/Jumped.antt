-- What a jump tells and leaves.
use Rattle.std.specs.Prelude.{ℕ, List, ◌≡◌}
use Rattle.base_format.specs.declared.player.StreamPlayer.{StreamPlayer}
use Rattle.base_format.specs.Checked.{Checked, ok, refused}
use Rattle.base_format.specs.Jump.{jumped, jump_said, state_after}
use Rattle.play_jump.specs.declared.Jumped.{Jumped}

abbrev pub jumped_of : Checked (Unit {0}) → Jumped
jumped_of (ok done) = record { number = 0; place = 0 }
jumped_of (refused number place) = record { number = number; place = place }

-- what a jump over a lent state promises: what it tells, and the state that it leaves, are the jump's
abbrev pub JumpMade : StreamPlayer → (file index : List ℕ) → (frame : ℕ) → Jumped → StreamPlayer → Type 0
JumpMade state file index frame told state' =
    (told ≡ jumped_of (jump_said state file index frame))
    × (state' ≡ state_after state (jumped state file index frame))
