-- The addresses of an operation that a call takes writes from are small: no sum of them wraps.
use Prim.Native.Nat.{ℕ, ◌+◌, ◌≤◌}
use mathlib.Core.Bool.{Bool, true, false, cond, ◌&&◌}
use mathlib.Core.List.{List, [], ◌∷◌}
use mathlib.Core.Path.{◌≡◌, refl, subst}
use native.Mathlib.Omega.{arith}
use borrow.Author.Tests.{ltb-false, le-leb, eqb-false}
use lib.Dec.{eqb, leb, ltb}
use Rattle.base_format.specs.declared.card.CardRequirement.{CardRequirement}
use Rattle.base_format.specs.declared.operation.Item.{Item}
use Rattle.base_format.specs.declared.operation.Operation.{Operation}
use Rattle.base_format.specs.declared.operation.Operation.TheVariants.{Write, Fill, Copy}
use Rattle.base_format.specs.declared.player.StreamPlayer.{StreamPlayer}
use Rattle.base_targets.specs.declared.Target.{Target}
use Rattle.base_targets.specs.declared.Target.TheVariants.{Core, Pcm, Bank, Slot, Si22, Missing}
use Rattle.base_format.specs.Card.{one_card_wrong}
use Rattle.base_format.specs.Checked.{ok}
use Rattle.base_format.specs.Operation.{Setting, write_rules, fill_rules, allowed, item_at}
use Rattle.play_laws.specs.Plan.{count_of, address_of}
use Rattle.base_format.specs.Player.{setting_in, slot_wrong, card_used, pools_used, item_used}
use Rattle.base_format.specs.Target.{slot_of, slot_target, target_of, missing, write_limit, bulk_start, bulk_length}
use Rattle.base_format.specs.Writes.{target_number}
use Rattle.base_format.proofs.Checks.{through, passed_test, passed_last, passed_check, ok_is}
use Rattle.base_format.proofs.Rules.{passes_inside, copy_allowed}
use Rattle.base_format.proofs.Steps.{one_card_fine}
use Rattle.play_laws.proofs.Used.{item_is}

-- where the range of a target ends
abbrev range_end : Target → ℕ
range_end what = bulk_start what + bulk_length what

slot_small : (cards : List CardRequirement) (slot : ℕ) → slot_wrong cards slot ≡ false → range_end (slot_target cards slot) ≤ 0x2000000
unfolding slot_target slot_wrong
slot_small [] slot e = omega arith
slot_small (card ∷ cards) slot e = go (eqb card.slot slot) (slot_small cards slot) e
  where
    go : (b : Bool) → (slot_wrong cards slot ≡ false → range_end (slot_target cards slot) ≤ 0x2000000) → cond b (one_card_wrong card) (slot_wrong cards slot) ≡ false
        → range_end (cond b (Slot card.bulk_start card.bulk_length) (slot_target cards slot)) ≤ 0x2000000
    go true others e = (one_card_fine card e).bulk_range
    go false others e = others e

-- the range of a target whose card, if it has one, keeps rule 7
range_small : (setting : Setting) (target : ℕ) → card_used setting target ≡ ok tt → range_end (target_of setting.version setting.cards target) ≤ 0x2000000
unfolding target_of card_used
range_small setting target e =
    go (ltb target 2) refl (eqb target 2) refl (eqb setting.version 3) (eqb target 3) (eqb setting.version 4) (leb target 10) (eqb target 11) (passed_last 7 0 _ e)
  where
    go : (a : Bool) → ltb target 2 ≡ a → (b : Bool) → eqb target 2 ≡ b → (c d f g h : Bool)
        → (f && leb 3 target && g && slot_wrong setting.cards (slot_of target)) ≡ false
        → range_end (cond a Core (cond b Pcm (cond c (cond d Bank Missing) (cond f (cond g (slot_target setting.cards (slot_of target)) (cond h Si22 Missing)) Missing)))) ≤ 0x2000000
    go true p b q c d f g h e = omega arith
    go false p true q c d f g h e = omega arith
    go false p false q true true f g h e = omega arith
    go false p false q true false f g h e = omega arith
    go false p false q false d true true h e =
        let not-two : target ≡ 2 → ⊥ = eqb-false target 2 q in
        let above : 3 ≤ target = omega (arith, ltb-false target 2 p, not-two) in
        slot_small setting.cards (slot_of target) (rw (le-leb 3 target above) at e)
    go false p false q false d true false true e = omega arith
    go false p false q false d true false false e = omega arith
    go false p false q false d false g h e = omega arith

limit_small : (what : Target) → write_limit what ≤ 0x1FFFFFF
limit_small Core = omega arith
limit_small Pcm = omega arith
limit_small Bank = omega arith
limit_small (Slot start size) = omega arith
limit_small Si22 = omega arith
limit_small Missing = omega arith

operation_small : (setting : Setting) (place : ℕ) (operation : Operation) → allowed setting place operation ≡ ok tt → card_used setting (target_number operation) ≡ ok tt
    → address_of operation + count_of operation ≤ 0x2000000
unfolding allowed write_rules fill_rules
operation_small setting place (Write target address value) fine card =
    let a = passed_test 15 place (missing (target_of setting.version setting.cards target)) fine in
    let within = ltb-false (write_limit (target_of setting.version setting.cards target)) address (passed_last 16 place _ a.1) in
    omega (arith, within, limit_small (target_of setting.version setting.cards target))
operation_small setting place (Fill target address size value) fine card =
    let a = passed_test 15 place (missing (target_of setting.version setting.cards target)) fine in
    let inside = passes_inside (target_of setting.version setting.cards target) address size (passed_last 17 place _ a.1) in
    omega (arith, inside.up_to, range_small setting target card)
operation_small setting place (Copy target address id source size) fine card =
    let rules = copy_allowed place setting.version setting.pools _ address id (setting.pool_of id) source size fine in
    let inside = passes_inside (target_of setting.version setting.cards target) address size rules.inside in
    omega (arith, inside.up_to, range_small setting target card)

pub address_small : (state : StreamPlayer) (file : List ℕ) (limit at : ℕ) (item : Item) → item_used state file limit at ≡ ok item → address_of item.operation + count_of item.operation ≤ 0x2000000
unfolding item_used
address_small state file limit at item e =
    let a = through (item_at (setting_in state file) file limit at) _ e in
    let b = passed_check (card_used (setting_in state file) (target_number a.value.operation)) a.then in
    let c = passed_check (pools_used file state.header.directory_offset state.header.pool_count a.value.operation) b.1 in
    let is = item_is (setting_in state file) file limit at a.value a.is in
    subst (λ (i : Item). address_of i.operation + count_of i.operation ≤ 0x2000000) (ok_is c.1) (operation_small (setting_in state file) is.place a.value.operation is.fine b.0)

-- what is used is what stands there
pub item_there : (state : StreamPlayer) (file : List ℕ) (limit at : ℕ) (item : Item) → item_used state file limit at ≡ ok item → item_at (setting_in state file) file limit at ≡ ok item
unfolding item_used
item_there state file limit at item e =
    let a = through (item_at (setting_in state file) file limit at) _ e in
    let b = passed_check (card_used (setting_in state file) (target_number a.value.operation)) a.then in
    let c = passed_check (pools_used file state.header.directory_offset state.header.pool_count a.value.operation) b.1 in
    rw (← (ok_is c.1)) a.is
