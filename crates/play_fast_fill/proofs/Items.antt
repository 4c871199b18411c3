-- What the ranges allow is an operation that writes are taken from.
use Prim.Native.Nat.{ℕ, ◌+◌, ◌*◌, ◌≤◌, ◌<◌}
use mathlib.Core.Path.{◌≡◌, refl, ◌∙◌}
use mathlib.Core.Bool.{Bool, true, false}
use mathlib.Core.List.{List}
use native.Mathlib.Omega.{arith}
use borrow.Author.Tests.{eqb-true}
use lib.Dec.{eqb}
use lib.ListN.{get_or, replicate}
use Rattle.base_format.specs.declared.operation.Item.{Item}
use Rattle.base_format.specs.declared.operation.Operation.{Operation}
use Rattle.base_format.specs.declared.operation.Operation.TheVariants.{Write, Fill}
use Rattle.base_format.specs.declared.player.StreamPlayer.{StreamPlayer}
use Rattle.base_format.specs.declared.player.WaveSource.{WaveSource}
use Rattle.base_targets.specs.declared.Target.{Target}
use Rattle.base_format.specs.Bytes.{byte, part}
use Rattle.base_format.specs.Card.{cards_of}
use Rattle.base_format.specs.Checked.{ok}
use Rattle.base_format.specs.Operation.{address_width, fill_rules, allowed, item_at}
use Rattle.base_format.specs.Player.{setting_in, card_used, pools_used, bytes_at, item_used, waves_by}
use Rattle.base_format.specs.Target.{missing}
use Rattle.base_format.specs.Writes.{upward, writes_with, target_number}
use Rattle.base_format.proofs.Checks.{passed_test, positive}
use Rattle.base_format.proofs.Sizes.{width_range}
use Rattle.play_laws.proofs.Address.{address_small}
use Rattle.bytes_operation.specs.declared.decode.Decoded.{Decoded}
use Rattle.bytes_operation.specs.Decoded.{decoded_at, operation_of}
use Rattle.bytes_operation.proofs.Laws.{opcode_at, size_at, size_small, write_is, write_length, fill_is, operation_decoded_lem}
use Rattle.check_fast.proofs.Passed.{fill_passes_lem}
use Rattle.check_fast_rules.specs.Quick.{out_of_bulk}
use Rattle.play_fast_ranges.specs.Ranges.{usable, starts_of, ends_of}
use Rattle.play_fast_ranges.proofs.Allowed.{write_start, write_end_lem, fill_start, fill_end, usable_there, write_allows}
use Rattle.play_fast_fill.specs.Fills.{count_at}
use Rattle.play_fast_fill.proofs.Counts.{counted, count_within, count_whole}

-- what a state's operations go by
abbrev pub version_of : StreamPlayer → ℕ
version_of state = state.header.version

abbrev pub width_of : StreamPlayer → ℕ
width_of state = address_width (version_of state)

abbrev pub starts_in : StreamPlayer → List ℕ
starts_in state = starts_of (version_of state) (cards_of state.cards)

abbrev pub ends_in : StreamPlayer → List ℕ
ends_in state = ends_of (version_of state) (cards_of state.cards)

-- the operation at a place of its file
abbrev pub item_on : StreamPlayer → List ℕ → (at : ℕ) → Decoded
item_on state file at = decoded_at (width_of state) file at

-- an operation that writes are taken from, with its writes; it leaves the wave sources as they are
pub record Used (state : StreamPlayer) (file : List ℕ) (limit at : ℕ) : Type 0 where
  pub item : Item
  pub is : item_used state file limit at ≡ ok item
  pub low : (item_on state file at).opcode ≤ 1
  pub next : item.next ≡ at + (item_on state file at).size
  pub writes :
      writes_with (bytes_at file state.header.directory_offset) item.operation
      ≡ upward (item_on state file at).target (item_on state file at).address (replicate (item_on state file at).length (item_on state file at).value)
  pub small : (item_on state file at).address + (item_on state file at).length ≤ 0x2000000
  pub waves : (waves : List WaveSource) → waves_by file state.header.directory_offset item.operation waves ≡ waves

-- the target that a number stands for, where it may be used
abbrev owners : StreamPlayer → ℕ → Target
owners state = usable (version_of state) (cards_of state.cards)

module _ (state : StreamPlayer) (file : List ℕ) (limit at : ℕ) (pooled : eqb (version_of state) 1 ≡ false) (room : at + 16 ≤ limit) where
  abbrev item : Decoded
  item = item_on state file at

  -- a whole operation that every rule allows
  whole : (operation : Operation) → operation_of item ≡ operation → item.opcode ≤ 1 → target_number operation ≡ item.target → missing (owners state item.target) ≡ false
      → allowed (setting_in state file) at operation ≡ ok tt → pools_used file state.header.directory_offset state.header.pool_count operation ≡ ok tt
      → item_used state file limit at ≡ ok (record { operation = operation; next = at + item.size })
  unfolding item_used card_used item_at
  whole operation is low number there fine pools =
      let range = width_range (version_of state) in
      let opcode : byte file at ≤ 2 = omega (arith, opcode_at (width_of state) file at) in
      let size = size_at (width_of state) file at opcode in
      let most = size_small (width_of state) file at range.0 range.1 opcode in
      rw (
        pooled,
        operation_decoded_lem (setting_in state file) file limit at (width_of state) refl opcode (omega (arith, size, most)),
        is,
        fine,
        number,
        (usable_there (version_of state) (cards_of state.cards) item.target there).0,
        pools,
      )

  write_used : item.opcode ≡ 0 → out_of_bulk item.address item.length (get_or (starts_in state) item.target 0) (get_or (ends_in state) item.target 0) ≡ false → item.target < 16 → Used state file limit at
  unfolding allowed pools_used waves_by writes_with
  write_used is inside below =
      let one = write_length (width_of state) (part file at 16) is in
      let fine = write_allows at (owners state item.target) item.address (rw (one, write_start (owners state) item.target below, write_end_lem (owners state) item.target below) at inside) in
      let operation = Write item.target item.address item.value in
      let allows = rw (usable_there (version_of state) (cards_of state.cards) item.target fine.0).1 at fine.1 in
      let used = whole operation (write_is (width_of state) (part file at 16) is) (omega arith) refl fine.0 allows refl in
      record {
        item = record { operation = operation; next = at + item.size };
        is = used;
        low = omega arith;
        next = refl;
        writes = rw one;
        small = omega (arith, one, address_small state file limit at _ used);
        waves = λ waves. refl;
      }

  -- a FILL that is allowed has a target
  filled : (t : Target) (address size : ℕ) → fill_rules at t address size ≡ ok tt → missing t ≡ false
  unfolding fill_rules
  filled t address size e = (passed_test 15 at (missing t) e).0

  fill_used : item.opcode ≡ 1 → out_of_bulk item.address item.length (get_or (starts_in state) (16 + item.target) 0) (get_or (ends_in state) (16 + item.target) 0) ≡ false → item.target < 16 → Used state file limit at
  unfolding allowed pools_used waves_by writes_with
  fill_used is inside below =
      let fine = fill_passes_lem at (owners state item.target) item.address item.length (rw (fill_start (owners state) item.target below, fill_end (owners state) item.target below) at inside) in
      let there = filled (owners state item.target) item.address item.length fine in
      let operation = Fill item.target item.address item.length item.value in
      let allows = rw (usable_there (version_of state) (cards_of state.cards) item.target there).1 at fine in
      let used = whole operation (fill_is (width_of state) (part file at 16) is) (omega arith) refl there allows refl in
      record {
        item = record { operation = operation; next = at + item.size };
        is = used;
        low = omega arith;
        next = refl;
        writes = refl;
        small = omega (arith, address_small state file limit at _ used);
        waves = λ waves. refl;
      }

  -- by the opcode
  either_used : (b : Bool) → eqb item.opcode 0 ≡ b → item.opcode ≤ 1 → item.target ≤ 15
      → out_of_bulk item.address item.length (get_or (starts_in state) (16 * item.opcode + item.target) 0) (get_or (ends_in state) (16 * item.opcode + item.target) 0) ≡ false
      → Used state file limit at
  either_used true e low small inside =
      let is : item.opcode ≡ 0 = eqb-true item.opcode 0 e in
      let k : 16 * item.opcode + item.target ≡ item.target = omega arith in
      write_used is (rw k at inside) (omega arith)
  either_used false e low small inside =
      let is : item.opcode ≡ 1 = omega (arith, positive item.opcode e) in
      let k : 16 * item.opcode + item.target ≡ 16 + item.target = omega arith in
      fill_used is (rw k at inside) (omega arith)

-- an operation that has a count: it is used, makes so many writes, and has 16 bytes before the end
pub used : (state : StreamPlayer) (file : List ℕ) (limit end at : ℕ) → eqb (version_of state) 1 ≡ false → end ≤ limit
    → eqb (count_at file (width_of state) (starts_in state) (ends_in state) end at) 0 ≡ false
    → Used state file limit at × (count_at file (width_of state) (starts_in state) (ends_in state) end at ≡ (item_on state file at).length) × (at + 16 ≤ end)
used state file limit end at pooled most some =
    let whole : at + 16 ≤ end = count_whole file (width_of state) (starts_in state) (ends_in state) end at some in
    let same = count_within file (width_of state) (starts_in state) (ends_in state) end at whole in
    let c = counted (item_on state file at) (starts_in state) (ends_in state) (rw same at some) in
    (either_used state file limit at pooled (omega arith) (eqb (item_on state file at).opcode 0) refl c.opcode c.target c.inside, same ∙ c.count, whole)
