-- The tests of a jump are the definition's: what the state records differs from the lent file's exactly where it differs from what a start of
-- that file records.
use Prim.Native.Nat.{ℕ}
use mathlib.Core.Bool.{Bool, true, false, ◌||◌}
use mathlib.Core.List.{List}
use mathlib.Core.Path.{◌≡◌, refl, ◌∙◌}
use lib.ListN.{length}
use Rattle.base_format.specs.declared.player.StreamPlayer.{StreamPlayer}
use Rattle.base_format.specs.Checked.{ok, refuse, ◌>>◌}
use Rattle.base_format.specs.Jump.{records_other, closing_past, jump_belongs}
use Rattle.base_format.specs.State.{part_of, player_of, started_as, started}
use Rattle.base_format.specs.Stream.{Stream, read}
use Rattle.base_format.proofs.Cards.{table_cards}
use Rattle.play_belongs.specs.Foreign.{foreign_to}
use Rattle.play_belongs.proofs.Belongs.{foreign_is}
use Rattle.play_jump_belongs.specs.Foreign.{records_differ, foreign_jump}

recorded_as_start : (state : StreamPlayer) (file : List ℕ) (s : Stream) → read file ≡ ok s → records_other state file s ≡ records_differ state (started file)
unfolding records_other records_differ started_as player_of
recorded_as_start state file s e = rw (e, table_cards s.cards)

-- three tests with one refusal are one test
any : (number place : ℕ) (a b c : Bool) → refuse number place (a || b || c) ≡ (refuse number place a >> (refuse number place b >> refuse number place c))
any number place true b c = refl
any number place false true c = refl
any number place false false c = refl

-- 25 exactly where the state belongs to another file
pub jump_foreign_is : (state : StreamPlayer) (file : List ℕ) (s : Stream) → read file ≡ ok s → refuse 25 0 (foreign_jump (length file) state (started file)) ≡ jump_belongs state file s
unfolding jump_belongs foreign_jump
jump_foreign_is state file s e =
    any 25 0 (foreign_to (length file) state.header state.cards.count state.progress) (closing_past state (part_of state.progress.part)) (records_differ state (started file))
    ∙ rw (foreign_is state file, recorded_as_start state file s e)
