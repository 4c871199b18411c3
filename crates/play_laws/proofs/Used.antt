-- What a call reads from its own file passes: an operation of an accepted file, its card and its pool.
use Prim.Native.Nat.{ℕ, zero, suc, ◌+◌, ◌*◌, ◌≤◌, ◌<◌}
use mathlib.Core.Bool.{Bool, true, false, cond, and-false}
use mathlib.Core.List.{List}
use mathlib.Core.Path.{◌≡◌, refl, sym, ap, subst, ◌∙◌}
use native.Mathlib.Nat.{zero-add}
use native.Mathlib.Omega.{arith}
use borrow.Author.Tests.{le-ltb}
use lib.Dec.{eqb}
use lib.ListN.{length, get_or, length-take, length-drop, length-replicate}
use Rattle.base_format.specs.declared.card.CardRequirement.{CardRequirement}
use Rattle.base_format.specs.declared.header.Header.{Header}
use Rattle.base_format.specs.declared.operation.Item.{Item}
use Rattle.base_format.specs.declared.operation.Operation.{Operation}
use Rattle.base_format.specs.declared.operation.Operation.TheVariants.{Write, Fill, Copy}
use Rattle.base_format.specs.declared.player.Progress.{Progress}
use Rattle.base_targets.specs.declared.Target.{Target}
use Rattle.base_format.specs.Bytes.{byte, part}
use Rattle.base_format.specs.Card.{cards_from}
use Rattle.base_format.specs.Checked.{ok}
use Rattle.base_format.specs.Header.{header_size, header_of}
use Rattle.base_format.specs.Operation.{Setting, fill_rules, allowed, operation_at, record_at, item_at}
use Rattle.base_format.specs.State.{player_of}
use Rattle.base_format.specs.Player.{slot_wrong, card_used, pool_used, pools_used, item_used, bytes_at}
use Rattle.base_format.specs.Pool.{no_pool, pool_at}
use Rattle.base_format.specs.Stream.{Stream}
use Rattle.base_format.specs.Target.{missing, slot_of}
use Rattle.base_format.specs.Writes.{upward, writes_with, writes_of, target_number}
use Rattle.base_format.proofs.Accepted.{Accepted, setting_for}
use Rattle.base_format.proofs.Checks.{passed_test, passed_last, ok_is}
use Rattle.base_format.proofs.Cards.{table_cards}
use Rattle.base_format.proofs.Pools.{PoolIs, pools_are}
use Rattle.base_format.proofs.Rules.{passes_inside, copy_fine}
use Rattle.base_format.proofs.Steps.{card_step, record_is, operation_is}
use Rattle.base_format.proofs.Writes.{length_upward}

-- CARDS

-- every card of an accepted file keeps the rules that speak of one card
pub slots_fine : (file : List ℕ) (count at least : ℕ) (cards : List CardRequirement) → cards_from file count at least ≡ ok cards → (slot : ℕ) → slot_wrong cards slot ≡ false
unfolding cards_from slot_wrong
slots_fine file zero at least cards e slot = ap (λ (l : List CardRequirement). slot_wrong l slot) (sym (ok_is e))
slots_fine file (suc count) at least cards e slot =
    let step = card_step file count at least cards e in
    ap (λ (l : List CardRequirement). slot_wrong l slot) (sym step.is)
    ∙ go (eqb (byte file at) slot) step.fine.rules (slots_fine file count (at + 32) (byte file at + 1) step.others step.from slot)
  where
    go : (b : Bool) → {c t : Bool} → c ≡ false → t ≡ false → cond b c t ≡ false
    go true e h = e
    go false e h = h

-- OPERATIONS

-- what the rules leave of an item: it is allowed, and what follows it lies behind it and within the limit
pub record ItemIs (setting : Setting) (limit at : ℕ) (item : Item) : Type 0 where
  pub place : ℕ
  pub fine : allowed setting place item.operation ≡ ok tt
  pub onward : at ≤ item.next
  pub within : item.next ≤ limit

pub item_is : (setting : Setting) (file : List ℕ) (limit at : ℕ) (item : Item) → item_at setting file limit at ≡ ok item → ItemIs setting limit at item
unfolding item_at
item_is setting file limit at item = go (eqb setting.version 1)
  where
    go : (b : Bool) → cond b (record_at setting file limit at) (operation_at setting file limit at) ≡ ok item → ItemIs setting limit at item
    go true e =
        let found = record_is setting file limit at item e in
        subst (ItemIs setting limit at) found.is (record { place = at; fine = found.fine; onward = omega arith; within = found.room })
    go false e =
        let found = operation_is setting file limit at item e in
        subst (ItemIs setting limit at) found.is (record { place = at; fine = found.fine; onward = omega arith; within = found.room })

fill_fine : (at : ℕ) (target : Target) (address size : ℕ) → fill_rules at target address size ≡ ok tt → 0 < size
unfolding fill_rules
fill_fine at target address size e =
    let a = passed_test 15 at (missing target) e in
    (passes_inside target address size (passed_last 17 at _ a.1)).some

pool_passes : (file : List ℕ) (directory pools id : ℕ) → directory + pools * 16 ≤ length file
    → (pool_at file directory id).offset + (pool_at file directory id).size ≤ length file → pool_used file directory pools id ≡ ok tt
unfolding pool_used
pool_passes file directory pools id h h' = rw (le-ltb _ _ h, le-ltb _ _ h')

part_some : (file : List ℕ) (offset total source size : ℕ) → offset + total ≤ length file → source + size ≤ total → 0 < size → 0 < length (part (part file offset total) source size)
part_some file offset total source size h h' some = simp (length-take, length-drop) (omega arith)

-- the writes of an operation of an accepted file: its pool passes, the bytes are the stream's, and there is a write
pub record OperationIs (file : List ℕ) (header : Header) (s : Stream) (operation : Operation) : Type 0 where
  pub fine : pools_used file header.directory_offset header.pool_count operation ≡ ok tt
  pub same : writes_with (bytes_at file header.directory_offset) operation ≡ writes_of s.pools operation
  pub some : 0 < length (writes_of s.pools operation)

module _ (file : List ℕ) (header : Header) (s : Stream) (acc : Accepted file header s) where
  pub pool_is : (id : ℕ) → id < header.pool_count → PoolIs file header.directory_offset id (get_or s.pools id no_pool)
  pool_is id h =
      let payloads = header.directory_offset + header.pool_count * 16 in
      rw zero-add at (pools_are header.version file header.directory_offset header.pool_count 0 payloads (s.pools, header.initial_start) acc.pools id h)

  pub operation_fine : (place : ℕ) (operation : Operation) → allowed (setting_for file header s.cards) place operation ≡ ok tt → OperationIs file header s operation
  unfolding allowed pools_used pool_used writes_with writes_of upward
  operation_fine place (Write target address value) e = record { fine = refl; same = refl; some = omega arith }
  operation_fine place (Fill target address size value) e =
      let some : 0 < size = fill_fine place _ address size e in
      record { fine = refl; same = refl; some = rw (length_upward, length-replicate) some }
  operation_fine place (Copy target address id source size) e =
      let rules = copy_fine place header.version header.pool_count _ address id _ source size e in
      let pool = pool_is id rules.0 in
      record {
        fine = pool_passes file header.directory_offset header.pool_count id acc.directory pool.within;
        same = ap (λ (bytes : List ℕ). upward target address (part bytes source size)) (sym pool.same);
        some = rw (length_upward, pool.same) (part_some file _ _ source size pool.within rules.2 rules.1);
      }

  card_fine : (target : ℕ) → card_used (setting_for file header s.cards) target ≡ ok tt
  unfolding card_used
  card_fine target = rw (slots_fine file header.card_count (header_size header.version) 0 s.cards acc.cards (slot_of target), and-false)

-- a call on its own file takes the operation that the check took
pub item_used_lem : (file : List ℕ) (s : Stream) → Accepted file (header_of file) s → (q : Progress) (limit at : ℕ) (item : Item)
    → item_at (setting_for file (header_of file) s.cards) file limit at ≡ ok item → item_used (player_of file s q) file limit at ≡ ok item
unfolding item_used player_of
item_used_lem file s acc q limit at item e =
    let is = item_is _ file limit at item e in
    let operation = operation_fine file (header_of file) s acc is.place item.operation is.fine in
    rw (table_cards s.cards, e, card_fine file (header_of file) s acc (target_number item.operation), operation.fine)
