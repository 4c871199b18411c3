-- Laws for the code of a call, for every state and every file.
use Prim.Native.Nat.{ℕ, zero, suc, ◌+◌, ◌*◌, ◌-◌, ◌/◌, ◌≤◌, ◌<◌}
use mathlib.Core.Bool.{Bool, true, false, cond}
use mathlib.Core.List.{List, [], ◌∷◌, ◌++◌}
use mathlib.Core.Path.{◌≡◌, refl, sym, ap, subst, ◌∙◌}
use native.Mathlib.Omega.{arith}
use borrow.Author.Tests.{ltb-false, ltb-true, lt-ltb, eqb-true}
use lib.Dec.{eqb, leb, ltb}
use lib.ListN.{length, get_or, take, drop, replicate, length-take, length-drop, length-append, length-replicate, get_or-replicate}
use lib.Seq.{get_or-take, get_or-drop}
use Rattle.base_format.specs.declared.card.CardRequirement.{CardRequirement}
use Rattle.base_format.specs.declared.operation.Item.{Item}
use Rattle.base_format.specs.declared.operation.Operation.{Operation}
use Rattle.base_format.specs.declared.operation.Operation.TheVariants.{Write, Fill, Copy}
use Rattle.base_format.specs.declared.pool.Pool.{Pool}
use Rattle.base_format.specs.declared.player.Progress.{Progress}
use Rattle.base_format.specs.declared.player.StreamPlayer.{StreamPlayer}
use Rattle.base_format.specs.declared.player.WaveSource.{WaveSource}
use Rattle.base_format.specs.declared.operation.WriteRecord.{WriteRecord}
use Rattle.base_format.specs.Bytes.{byte, part}
use Rattle.base_format.specs.Checked.{Checked, ok, refused, refuse, mapped, ◌>>=◌, ◌>>◌}
use Rattle.base_format.specs.Operation.{Setting, copy_rules, allowed, item_at}
use Rattle.play_laws.specs.Plan.{count_of, write_at, planned_operations}
use Rattle.base_format.specs.Player.{setting_in, card_used, pool_used, pools_used, item_used, bytes_at, waves_by, placed, Gathered, gathered}
use Rattle.base_format.specs.Pool.{pool_at}
use Rattle.base_format.specs.Target.{slot_target, slot_of, target_of, outside, kind_for}
use Rattle.base_targets.specs.declared.Target.{Target}
use Rattle.base_targets.specs.declared.Target.TheVariants.{Core, Pcm, Bank, Slot, Si22, Missing}
use Rattle.base_format.specs.Writes.{write, writes_with, target_number}
use Rattle.base_format.proofs.Checks.{through, passed_test, passed_last, passed_check, ok_is}
use Rattle.base_format.proofs.Rules.{passes_inside, copy_allowed, copy_fine}
use Rattle.base_format.proofs.Writes.{length_upward, upward_at}
use Rattle.play_laws.proofs.Used.{item_is}

-- ONE OPERATION

-- the operation's writes in the file: how many, and each by its index
pub record Writes (file : List ℕ) (directory : ℕ) (operation : Operation) : Type 0 where
  pub count : length (writes_with (bytes_at file directory) operation) ≡ count_of operation
  pub each : (i : ℕ) (d : WriteRecord) → i < count_of operation → get_or (writes_with (bytes_at file directory) operation) i d ≡ write_at file directory operation i

one_value_lem : (value i : ℕ) → i < 1 → get_or (value ∷ []) i 0 ≡ value
one_value_lem value zero h = refl
one_value_lem value (suc i) h = absurd (omega arith)

write_writes : (file : List ℕ) (directory target address value : ℕ) → Writes file directory (Write target address value)
unfolding writes_with
write_writes file directory target address value =
    record { count = length_upward target address (value ∷ []); each = λ i d h. upward_at target address (value ∷ []) i d h ∙ ap (write target (address + i)) (one_value_lem value i h) }

fill_writes : (file : List ℕ) (directory target address size value : ℕ) → Writes file directory (Fill target address size value)
unfolding writes_with
fill_writes file directory target address size value =
    record {
      count = length_upward target address (replicate size value) ∙ length-replicate size value;
      each = λ i d h. upward_at target address (replicate size value) i d (rw length-replicate h) ∙ ap (write target (address + i)) (get_or-replicate size i value 0 h);
    }

-- a part of a pool lies in the file
part_length : (file : List ℕ) (offset total source size : ℕ) → offset + total ≤ length file → source + size ≤ total → length (part (part file offset total) source size) ≡ size
part_length file offset total source size within inside = simp (length-take, length-drop) (omega arith)

part_at : (file : List ℕ) (offset total source size i : ℕ) → source + size ≤ total → i < size → byte (part (part file offset total) source size) i ≡ byte file (offset + (source + i))
part_at file offset total source size i inside h =
    get_or-take size (drop source (part file offset total)) i 0 h
    ∙ get_or-drop source (part file offset total) i 0
    ∙ get_or-take total (drop offset file) (source + i) 0 (omega arith)
    ∙ get_or-drop offset file (source + i) 0

copy_writes : (file : List ℕ) (directory target address id source size : ℕ) → (pool_at file directory id).offset + (pool_at file directory id).size ≤ length file
    → source + size ≤ (pool_at file directory id).size → Writes file directory (Copy target address id source size)
unfolding writes_with
copy_writes file directory target address id source size within inside =
    record {
      count = length_upward target address _ ∙ part_length file _ _ source size within inside;
      each =
          λ i d h. upward_at target address (part (bytes_at file directory id) source size) i d (rw (part_length file _ _ source size within inside) h)
          ∙ ap (write target (address + i)) (part_at file _ _ source size i inside h);
    }

-- what a call may rely on for an operation that it takes
pub record Usable (state : StreamPlayer) (file : List ℕ) (limit at : ℕ) (item : Item) : Type 0 where
  pub onward : at ≤ item.next
  pub within : item.next ≤ limit
  pub writes : Writes file state.header.directory_offset item.operation

operation_writes_lem : (setting : Setting) (file : List ℕ) (directory place : ℕ) (operation : Operation) → setting.pool_of ≡ pool_at file directory
    → allowed setting place operation ≡ ok tt → pools_used file directory setting.pools operation ≡ ok tt → Writes file directory operation
unfolding allowed pools_used pool_used
operation_writes_lem setting file directory place (Write target address value) at fine used = write_writes file directory target address value
operation_writes_lem setting file directory place (Fill target address size value) at fine used = fill_writes file directory target address size value
operation_writes_lem setting file directory place (Copy target address id source size) at fine used =
    let rules = copy_fine place setting.version setting.pools _ address id (setting.pool_of id) source size fine in
    let directory-within = passed_test 9 0 (ltb (length file) (directory + setting.pools * 16)) used in
    let within = ltb-false _ _ (passed_last 11 0 _ directory-within.1) in
    copy_writes file directory target address id source size within (subst (λ (f : ℕ → Pool). source + size ≤ (f id).size) at rules.2)

pub usable : (state : StreamPlayer) (file : List ℕ) (limit at : ℕ) (item : Item) → item_used state file limit at ≡ ok item → Usable state file limit at item
unfolding item_used
usable state file limit at item e =
    let a = through (item_at (setting_in state file) file limit at) _ e in
    let b = passed_check (card_used (setting_in state file) (target_number a.value.operation)) a.then in
    let c = passed_check (pools_used file state.header.directory_offset state.header.pool_count a.value.operation) b.1 in
    let is = item_is (setting_in state file) file limit at a.value a.is in
    subst (Usable state file limit at) (ok_is c.1) (record {
      onward = is.onward;
      within = is.within;
      writes = operation_writes_lem (setting_in state file) file state.header.directory_offset is.place a.value.operation refl is.fine c.0;
    })

-- a kind 1 COPY that is allowed goes to one of 2 × 8 channels
slot_kind : (cards : List CardRequirement) (slot : ℕ) → kind_for (slot_target cards slot) ≡ 1 → ⊥
unfolding slot_target
slot_kind [] slot e = omega arith
slot_kind (card ∷ cards) slot e = go (eqb card.slot slot) (slot_kind cards slot) e
  where
    go : (b : Bool) → (kind_for (slot_target cards slot) ≡ 1 → ⊥) → kind_for (cond b (Slot card.bulk_start card.bulk_length) (slot_target cards slot)) ≡ 1 → ⊥
    go true others e = omega arith
    go false others e = others e

core_only : (version : ℕ) (cards : List CardRequirement) (target : ℕ) → kind_for (target_of version cards target) ≡ 1 → target < 2
unfolding target_of
core_only version cards target e =
    ltb-true target 2 (go (ltb target 2) (eqb target 2) (eqb version 3) (eqb target 3) (eqb version 4) (leb target 10) (eqb target 11) e)
  where
    go : (a b c d f g h : Bool) → kind_for (cond a Core (cond b Pcm (cond c (cond d Bank Missing) (cond f (cond g (slot_target cards (slot_of target)) (cond h Si22 Missing)) Missing)))) ≡ 1 → a ≡ true
    go true b c d f g h e = refl
    go false true c d f g h e = absurd (omega arith)
    go false false true true f g h e = absurd (omega arith)
    go false false true false f g h e = absurd (omega arith)
    go false false false d true true h e = absurd (slot_kind cards (slot_of target) e)
    go false false false d true false true e = absurd (omega arith)
    go false false false d true false false e = absurd (omega arith)
    go false false false d false g h e = absurd (omega arith)

core_within : (address size : ℕ) → outside Core address size ≡ false → address / 256 < 8
core_within address size e = let inside = passes_inside Core address size e in omega (arith, inside.some, inside.up_to)

is_core : (version : ℕ) (cards : List CardRequirement) (target : ℕ) → target < 2 → target_of version cards target ≡ Core
unfolding target_of
is_core version cards target h = rw (lt-ltb target 2 h)

pub wave_channel : (at version pools : ℕ) (cards : List CardRequirement) (target address id : ℕ) (pool : Pool) (source size : ℕ)
    → copy_rules at version pools (target_of version cards target) address id pool source size ≡ ok tt → pool.kind ≡ 1 → (target < 2) × (address / 256 < 8)
wave_channel at version pools cards target address id pool source size e wave =
    let whose : Target = target_of version cards target in
    let rules = copy_allowed at version pools whose address id pool source size e in
    let low : target < 2 = core_only version cards target (sym rules.right_kind ∙ wave) in
    (low, core_within address size (subst (λ (t : Target). outside t address size ≡ false) (is_core version cards target low) rules.inside))

pub wave_place : (at version pools : ℕ) (cards : List CardRequirement) (target address id : ℕ) (pool : Pool) (source size : ℕ)
    → copy_rules at version pools (target_of version cards target) address id pool source size ≡ ok tt → eqb pool.kind 1 ≡ true → target * 8 + address / 256 < 16
wave_place at version pools cards target address id pool source size e wave =
    let channel = wave_channel at version pools cards target address id pool source size e (eqb-true _ _ wave) in
    omega (arith, channel.0, channel.1)

-- ONE OPERATION OF A CALL

-- the wave sources once the operation at the cursor is begun
abbrev waves_now : StreamPlayer → List ℕ → Progress → Item → List WaveSource
waves_now state file p item = cond (eqb p.write_index 0) (waves_by file state.header.directory_offset item.operation p.wave_sources) p.wave_sources

-- the place after so many of its writes, and behind it
abbrev stop_in : StreamPlayer → List ℕ → (room : ℕ) → Progress → Item → Progress
stop_in state file room p item = placed p p.cursor p.operation_index (p.write_index + room) (waves_now state file p item)

abbrev behind_item : StreamPlayer → List ℕ → Progress → Item → Progress
behind_item state file p item = placed p item.next (p.operation_index + 1) 0 (waves_now state file p item)

-- its writes
abbrev item_writes : StreamPlayer → List ℕ → Item → List WriteRecord
item_writes state file item = writes_with (bytes_at file state.header.directory_offset) item.operation

-- what a call gathers that stops within its writes, and one that goes on behind them
abbrev stopped : (rest : List WriteRecord) → (room : ℕ) → Progress → Gathered
stopped rest room stop = record { records = take room rest; room = 0; progress = stop }

abbrev and_then : (rest : List WriteRecord) → Gathered → Gathered
and_then rest more = record { records = rest ++ more.records; room = more.room; progress = more.progress }

-- WITHOUT THE RECORDS

abbrev without_records : Gathered → ℕ × Progress
without_records g = (g.room, g.progress)

with_records : (records : List WriteRecord) (more : Checked Gathered) → mapped without_records (more >>= λ (g : Gathered). ok (and_then records g)) ≡ mapped without_records more
with_records records (ok g) = refl
with_records records (refused number place) = refl

-- one operation
same_plan : (writes : List WriteRecord) (count done room : ℕ) (stop : Progress) (later : ℕ → Checked (ℕ × Progress)) (more : ℕ → Checked Gathered)
    → length writes ≡ count → ((left : ℕ) → later left ≡ mapped without_records (more left))
    → (refuse 25 0 (ltb count done) >> cond (ltb room (count - done)) (ok (0, stop)) (later (room - (count - done))))
    ≡ mapped without_records (refuse 25 0 (ltb (length writes) done) >> cond (ltb room (length (drop done writes))) (ok (stopped (drop done writes) room stop))
    (more (room - length (drop done writes)) >>= λ (g : Gathered). ok (and_then (drop done writes) g)))
same_plan writes count done room stop later more long same =
    rw (length-drop done writes, long, same) (go (ltb count done) (ltb room (count - done)))
  where
    go : (wrong stops : Bool)
        → (refuse 25 0 wrong >> cond stops (ok (0, stop)) (mapped without_records (more (room - (count - done)))))
        ≡ mapped without_records (refuse 25 0 wrong >> cond stops (ok (stopped (drop done writes) room stop)) (more (room - (count - done)) >>= λ (g : Gathered). ok (and_then (drop done writes) g)))
    go true stops = refl
    go false true = refl
    go false false = sym (with_records (drop done writes) (more (room - (count - done))))

item_plan : (first : Checked Item) (f : Item → Checked (ℕ × Progress)) (g : Item → Checked Gathered)
    → ((item : Item) → first ≡ ok item → f item ≡ mapped without_records (g item)) → (first >>= f) ≡ mapped without_records (first >>= g)
item_plan (ok item) f g same = same item refl
item_plan (refused number place) f g same = refl

-- `planned_operations` is `gathered` without its records
pub planned_operations_is : (state : StreamPlayer) (file : List ℕ) (limit left room : ℕ) (p : Progress) → planned_operations state file limit left room p ≡ mapped without_records (gathered state file limit left room p)
unfolding planned_operations gathered
planned_operations_is state file limit zero room p = refl
planned_operations_is state file limit (suc left) zero p = refl
planned_operations_is state file limit (suc left) (suc others) p =
    item_plan (item_used state file limit p.cursor) _ _ λ item e.
    let writes = item_writes state file item in
    let count = (usable state file limit p.cursor item e).writes.count in
    let onward : Progress = behind_item state file p item in
    let later : ℕ → Checked (ℕ × Progress) = λ room. planned_operations state file limit left room onward in
    let more : ℕ → Checked Gathered = λ room. gathered state file limit left room onward in
    same_plan writes (count_of item.operation) p.write_index (suc others) (stop_in state file (suc others) p item) later more count
    (λ room. planned_operations_is state file limit left room onward)

abbrev total : Gathered → ℕ
total g = length g.records + g.room

total_step : (rest : List WriteRecord) (room : ℕ) (stop : Progress) (more : Checked Gathered) (g : Gathered) (stops : Bool) → ltb room (length rest) ≡ stops
    → cond stops (ok (stopped rest room stop)) (more >>= λ (m : Gathered). ok (and_then rest m)) ≡ ok g
    → ((m : Gathered) → more ≡ ok m → total m ≡ room - length rest) → total g ≡ room
total_step rest room stop more g true e is later =
    let less : room < length rest = ltb-true _ _ e in
    ap total (sym (ok_is is)) ∙ omega (arith, length-take room rest)
total_step rest room stop more g false e is later =
    let enough : length rest ≤ room = ltb-false _ _ e in
    let a = through more _ is in
    let others : total a.value ≡ room - length rest = later a.value a.is in
    ap total (sym (ok_is a.then)) ∙ omega (arith, length-append rest a.value.records)

-- what was taken and what is left make the room
pub room_taken : (state : StreamPlayer) (file : List ℕ) (limit left room : ℕ) (p : Progress) (g : Gathered) → gathered state file limit left room p ≡ ok g → length g.records + g.room ≡ room
unfolding gathered
room_taken state file limit zero room p g e = ap total (sym (ok_is e)) ∙ omega arith
room_taken state file limit (suc left) zero p g e = ap total (sym (ok_is e))
room_taken state file limit (suc left) (suc others) p g e =
    let a = through (item_used state file limit p.cursor) _ e in
    let writes = item_writes state file a.value in
    let rest = drop p.write_index writes in
    let b = passed_test 25 0 (ltb (length writes) p.write_index) a.then in
    let later = room_taken state file limit left (suc others - length rest) (behind_item state file p a.value) in
    total_step rest (suc others) _ _ g (ltb (suc others) (length rest)) refl b.1 later

-- STEPS OF A LOOP

-- one operation, then the others
pub planned_operations_step : (state : StreamPlayer) (file : List ℕ) (limit left room : ℕ) (p : Progress) → 0 < left → 0 < room
    → planned_operations state file limit left room p
    ≡ (item_used state file limit p.cursor >>= λ (item : Item). refuse 25 0 (ltb (count_of item.operation) p.write_index)
    >> cond (ltb room (count_of item.operation - p.write_index)) (ok (0, stop_in state file room p item))
    (planned_operations state file limit (left - 1) (room - (count_of item.operation - p.write_index)) (behind_item state file p item)))
unfolding planned_operations
planned_operations_step state file limit zero room p some h = absurd (omega arith)
planned_operations_step state file limit (suc left) zero p some h = absurd (omega arith)
planned_operations_step state file limit (suc left) (suc others) p some h =
    let less : suc left - 1 ≡ left = omega arith in
    rw less

-- no operation, or no room
pub planned_operations_end : (state : StreamPlayer) (file : List ℕ) (limit room : ℕ) (p : Progress) → planned_operations state file limit 0 room p ≡ ok (room, p)
unfolding planned_operations
planned_operations_end state file limit room p = refl

pub planned_operations_full : (state : StreamPlayer) (file : List ℕ) (limit left : ℕ) (p : Progress) → planned_operations state file limit left 0 p ≡ ok (0, p)
unfolding planned_operations
planned_operations_full state file limit zero p = refl
planned_operations_full state file limit (suc left) p = refl

-- the records of one operation, then those of the others
pub gathered_step : (state : StreamPlayer) (file : List ℕ) (limit left room : ℕ) (p : Progress) → 0 < left → 0 < room
    → gathered state file limit left room p
    ≡ (item_used state file limit p.cursor >>= λ (item : Item). refuse 25 0 (ltb (length (item_writes state file item)) p.write_index)
    >> cond (ltb room (length (drop p.write_index (item_writes state file item)))) (ok (stopped (drop p.write_index (item_writes state file item)) room (stop_in state file room p item)))
    (gathered state file limit (left - 1) (room - length (drop p.write_index (item_writes state file item))) (behind_item state file p item)
    >>= λ (more : Gathered). ok (and_then (drop p.write_index (item_writes state file item)) more)))
unfolding gathered
gathered_step state file limit zero room p some h = absurd (omega arith)
gathered_step state file limit (suc left) zero p some h = absurd (omega arith)
gathered_step state file limit (suc left) (suc others) p some h =
    let less : suc left - 1 ≡ left = omega arith in
    rw less
