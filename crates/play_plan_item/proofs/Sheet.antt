-- The code's definition of a used operation is the sheet's, with every refusal 25.
use Prim.Native.Nat.{ℕ}
use mathlib.Core.List.{List}
use mathlib.Core.Path.{◌≡◌, refl}
use Rattle.base_format.specs.declared.operation.Item.{Item}
use Rattle.base_format.specs.declared.player.StreamPlayer.{StreamPlayer}
use Rattle.base_format.specs.Checked.{Checked, ok, refused, ◌>>=◌, ◌>>◌}
use Rattle.base_format.specs.Operation.{item_at}
use Rattle.base_format.specs.Player.{setting_in, card_used, pools_used, item_used, as25}
use Rattle.base_format.specs.Writes.{target_number}
use Rattle.play_plan_item.specs.Used.{item_used_by}

in_turn : (item : Checked Item) (a b : Item → Checked (Unit {0})) → (item >>= λ (i : Item). (a i >> (b i >> ok i))) ≡ (item >>= λ (i : Item). ((a i >> b i) >> ok i))
in_turn (refused number place) a b = refl
in_turn (ok i) a b = go (a i)
  where
    go : (first : Checked (Unit {0})) → (first >> (b i >> ok i)) ≡ ((first >> b i) >> ok i)
    go (ok tt) = refl
    go (refused number place) = refl

pub used_as25 : (state : StreamPlayer) (file : List ℕ) (limit at : ℕ) → as25 (item_used state file limit at) ≡ item_used_by state.header state.cards file limit at
unfolding item_used
used_as25 state file limit at =
    rw (in_turn (item_at (setting_in state file) file limit at) (λ i. card_used (setting_in state file) (target_number i.operation)) (λ i. pools_used file state.header.directory_offset state.header.pool_count i.operation))
