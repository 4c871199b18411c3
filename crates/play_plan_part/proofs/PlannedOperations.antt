-- The loop over a part's operations with every refusal 25: one operation, then the others.
use Prim.Native.Nat.{ℕ, ◌+◌, ◌-◌, ◌<◌}
use mathlib.Core.Bool.{Bool, true, false, cond}
use mathlib.Core.List.{List}
use mathlib.Core.Path.{◌≡◌, refl}
use lib.Dec.{ltb}
use Rattle.base_format.specs.declared.operation.Item.{Item}
use Rattle.base_format.specs.declared.player.Progress.{Progress}
use Rattle.base_format.specs.declared.player.StreamPlayer.{StreamPlayer}
use Rattle.base_format.specs.Checked.{Checked, ok, refused, refuse, ◌>>=◌, ◌>>◌}
use Rattle.play_laws.specs.Plan.{count_of, planned_operations}
use Rattle.base_format.specs.Player.{item_used, placed, as25}
use Rattle.play_laws.proofs.PlannedOperations.{planned_operations_step}
use Rattle.play_plan_part.specs.Told.{waves_now, item_start}
use Rattle.play_plan_part.specs.declared.item.ItemStart.{ItemStart}
use Rattle.play_plan_item.specs.Used.{item_used_by}
use Rattle.play_plan_item.proofs.Sheet.{used_as25}

-- what is left to do once an operation is begun
abbrev pub behind_start : StreamPlayer → List ℕ → (limit left room : ℕ) → Progress → ItemStart → Checked (ℕ × Progress)
behind_start state file limit left room p s =
    cond (ltb room s.rest) (ok (0, placed p p.cursor p.operation_index (p.write_index + room) s.waves))
    (as25 (planned_operations state file limit (left - 1) (room - s.rest) (placed p s.next (p.operation_index + 1) 0 s.waves)))

-- the start of an item that is used
abbrev start_of : StreamPlayer → List ℕ → Progress → Item → ItemStart
start_of state file p item =
    record { rest = count_of item.operation - p.write_index; next = item.next; waves = waves_now file state.header.directory_offset item.operation p.write_index p.wave_sources }

abbrev too_few : Progress → Item → Bool
too_few p item = ltb (count_of item.operation) p.write_index

bind_25 : {A : Type 0} (first : Checked Item) (f g : Item → Checked A) → ((item : Item) → as25 (f item) ≡ g item) → as25 (first >>= f) ≡ (as25 first >>= g)
bind_25 (ok item) f g same = same item
bind_25 (refused number place) f g same = refl

row_25 : {A : Type 0} (test stops : Bool) (a : A) (more : Checked A) → as25 (refuse 25 0 test >> cond stops (ok a) more) ≡ (refuse 25 0 test >> cond stops (ok a) (as25 more))
row_25 true stops a more = refl
row_25 false true a more = refl
row_25 false false a more = refl

in_two : {A B : Type 0} (first : Checked Item) (test : Item → Bool) (start : Item → A) (behind : A → Checked B)
    → (first >>= λ (item : Item). refuse 25 0 (test item) >> behind (start item)) ≡ ((first >>= λ (item : Item). refuse 25 0 (test item) >> ok (start item)) >>= behind)
in_two (refused number place) test start behind = refl
in_two (ok item) test start behind = go (test item)
  where
    go : (t : Bool) → (refuse 25 0 t >> behind (start item)) ≡ ((refuse 25 0 t >> ok (start item)) >>= behind)
    go true = refl
    go false = refl

-- one operation, then the others
pub planned_operations_25 : (state : StreamPlayer) (file : List ℕ) (limit left room : ℕ) (p : Progress) → 0 < left → 0 < room
    → as25 (planned_operations state file limit left room p) ≡ (item_start state file limit p.cursor p.write_index p.wave_sources >>= behind_start state file limit left room p)
planned_operations_25 state file limit left room p some h =
    rw (
      planned_operations_step state file limit left room p some h,
      ← (in_two (item_used_by state.header state.cards file limit p.cursor) (too_few p) (start_of state file p) (behind_start state file limit left room p)),
      ← (used_as25 state file limit p.cursor),
    )
    (bind_25 (item_used state file limit p.cursor) _ (λ (item : Item). refuse 25 0 (too_few p item) >> behind_start state file limit left room p (start_of state file p item)) λ item.
    row_25 (too_few p item) (ltb room (start_of state file p item).rest) _ _)

-- an operation that is refused refuses all
pub operations_refused : (state : StreamPlayer) (file : List ℕ) (limit left room : ℕ) (p : Progress) → 0 < left → 0 < room
    → refused 25 0 ≡ item_start state file limit p.cursor p.write_index p.wave_sources → as25 (planned_operations state file limit left room p) ≡ refused 25 0
operations_refused state file limit left room p some h e = rw (planned_operations_25 state file limit left room p some h, ← e)
