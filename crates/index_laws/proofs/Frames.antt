-- Passing over the frames of an accepted file leads from place to place.
use Prim.Native.Nat.{ℕ, zero, suc, ◌+◌, ◌*◌, ◌-◌, ◌^◌, ◌≤◌, ◌<◌, min}
use mathlib.Core.Bool.{Bool, true, false, cond}
use mathlib.Core.List.{List}
use mathlib.Core.Path.{◌≡◌, refl, sym, ap, ◌∙◌}
use native.Mathlib.Nat.{add-zero, le_refl}
use native.Mathlib.Omega.{arith}
use borrow.Author.Tests.{le-ltb, lt-ltb, ltb-true}
use lib.Dec.{eqb, ltb}
use lib.ListN.{length}
use Rattle.base_format.specs.declared.operation.Item.{Item}
use Rattle.base_format.specs.declared.operation.Operation.{Operation}
use Rattle.base_format.specs.Bytes.{AllBytes, byte, be}
use Rattle.base_format.specs.Checked.{ok}
use Rattle.base_format.specs.Header.{header_of}
use Rattle.base_format.specs.Index.{frame_place}
use Rattle.base_format.specs.Operation.{Setting, address_width, size_of, item_at}
use Rattle.base_format.specs.Stream.{Stream, operations_from}
use Rattle.base_format.proofs.Accepted.{Accepted}
use Rattle.base_format.proofs.Bytes.{be_below}
use Rattle.base_format.proofs.Checks.{ok_is}
use Rattle.base_format.proofs.Sizes.{size_is, size_most, width_range}
use Rattle.base_format.proofs.Steps.{record_is, operation_is, operation_step}
use Rattle.index_laws.specs.Frames.{walk_limit, item_size, items_walked, frame_walked, frames_walked}
use Rattle.index_laws.proofs.Places.{own_setting, frame_operations}

-- where the walk goes on
pub goes_on_lem : (file : List ℕ) (at : ℕ) → at < length file → length file ≤ 0xE00000 → ltb at (walk_limit file) ≡ true
goes_on_lem file at less small = lt-ltb at (walk_limit file) (omega arith)

-- records
record_next : (setting : Setting) (file : List ℕ) (limit at : ℕ) (item : Item) → eqb setting.version 1 ≡ true → item_at setting file limit at ≡ ok item → item.next ≡ at + 5
unfolding item_at
record_next setting file limit at item one e = ap (λ (i : Item). i.next) (sym (record_is setting file limit at item (rw one at e)).is)

records_next : (setting : Setting) (file : List ℕ) (limit count at : ℕ) (found : List Operation × ℕ) → eqb setting.version 1 ≡ true
    → operations_from setting file limit count at ≡ ok found
    → found.1 ≡ at + count * 5
unfolding operations_from
records_next setting file limit zero at found one e = ap (λ (f : List Operation × ℕ). f.1) (sym (ok_is e)) ∙ omega arith
records_next setting file limit (suc count) at found one e =
    let step = operation_step setting file limit count at found e in
    let more = records_next setting file limit count step.item.next step.others one step.from in
    let mine = record_next setting file limit at step.item one step.here in
    ap (λ (f : List Operation × ℕ). f.1) (sym step.is) ∙ omega (arith, more, mine)

-- operations, of a file that the walk goes through, before a limit
pub operation_next : (setting : Setting) (file : List ℕ) (limit at : ℕ) (item : Item) → limit ≤ length file → eqb setting.version 1 ≡ false
    → item_at setting file limit at ≡ ok item
    → (at < length file) × (item.next ≡ at + item_size (address_width setting.version) file at)
unfolding item_at
operation_next setting file limit at item within other e =
    let found = operation_is setting file limit at item (rw other at e) in
    let range = width_range setting.version in
    let size = size_is (address_width setting.version) (byte file at) range.0 range.1 found.known in
    let opcode : byte file at ≡ min (byte file at) 2 = omega (arith, found.known) in
    (omega (arith, found.room, size, range.0), ap (λ (i : Item). i.next) (sym found.is) ∙ ap (λ (n : ℕ). at + size_of (address_width setting.version) n) opcode)

pub operations_next : (setting : Setting) (file : List ℕ) (limit count at : ℕ) (found : List Operation × ℕ) → length file ≤ 0xE00000 → limit ≤ length file
    → eqb setting.version 1 ≡ false → operations_from setting file limit count at ≡ ok found
    → found.1 ≡ items_walked (address_width setting.version) file count at
unfolding operations_from items_walked
operations_next setting file limit zero at found small within other e = ap (λ (f : List Operation × ℕ). f.1) (sym (ok_is e))
operations_next setting file limit (suc count) at found small within other e =
    let step = operation_step setting file limit count at found e in
    let more = operations_next setting file limit count step.item.next step.others small within other step.from in
    let mine = operation_next setting file limit at step.item within other step.here in
    ap (λ (f : List Operation × ℕ). f.1) (sym step.is)
    ∙ more
    ∙ rw (goes_on_lem file at mine.0 small) (ap (items_walked (address_width setting.version) file count) mine.1)

module _ (file : List ℕ) (s : Stream) (acc : Accepted file (header_of file) s) where
  -- from the place of a frame's count to that of the next
  pub frame_next_lem : (frame : ℕ) → frame < length s.frames → frame_walked (header_of file).version file (frame_place s frame) ≡ frame_place s (frame + 1)
  unfolding frame_walked
  frame_next_lem frame less =
      let found = frame_operations file s acc frame less in
      let small : length file ≤ 0xE00000 = omega (arith, acc.small, acc.size) in
      let setting = own_setting file s in
      let at = frame_place s frame in
      let all : List Operation × ℕ = (found.0, frame_place s (frame + 1)) in
      rw (goes_on_lem file at (omega (arith, found.1)) small) (go (eqb (header_of file).version 1)
      (λ one. sym (records_next setting file (length file) (be 2 file at) (at + 2) all one found.2))
      (λ other. sym (operations_next setting file (length file) (be 2 file at) (at + 2) all small (le_refl (length file)) other found.2)))
    where
      go : (b : Bool) {x y z : ℕ} → (b ≡ true → x ≡ z) → (b ≡ false → y ≡ z) → cond b x y ≡ z
      go true one other = one refl
      go false one other = other refl

  -- and over so many frames
  pub frames_next : (count frame : ℕ) → frame + count ≤ length s.frames → frames_walked (header_of file).version file count (frame_place s frame) ≡ frame_place s (frame + count)
  unfolding frames_walked
  frames_next zero frame most = ap (frame_place s) (sym (add-zero frame))
  frames_next (suc count) frame most =
      let number : frame + 1 + count ≡ frame + suc count = omega arith in
      ap (frames_walked (header_of file).version file count) (frame_next_lem frame (omega arith)) ∙ frames_next count (frame + 1) (omega arith) ∙ ap (frame_place s) number

-- HOW FAR IT GOES: a place in 4 bytes stays one

-- the walk stands still, or the next place is near
still_or_near : (file : List ℕ) (at next : ℕ) → at < 2 ^ 32 → (at < 0xE00000 → next < 2 ^ 32) → cond (ltb at (walk_limit file)) next at < 2 ^ 32
still_or_near file at next small near = go (ltb at (walk_limit file)) refl
  where
    go : (b : Bool) → ltb at (walk_limit file) ≡ b → cond b next at < 2 ^ 32
    go true e = near (omega (arith, ltb-true at (walk_limit file) e))
    go false e = small

items_small : (width : ℕ) (file : List ℕ) (count at : ℕ) → 3 ≤ width → width ≤ 4 → at < 2 ^ 32 → items_walked width file count at < 2 ^ 32
unfolding items_walked
items_small width file zero at low high small = small
items_small width file (suc count) at low high small =
    let next = at + item_size width file at in
    let most = size_most width (min (byte file at) 2) low high (omega arith) in
    still_or_near file at (items_walked width file count next) small (λ near. items_small width file count next low high (omega arith))

frame_small : (version : ℕ) (file : List ℕ) (at : ℕ) → AllBytes file → at < 2 ^ 32 → frame_walked version file at < 2 ^ 32
unfolding frame_walked
frame_small version file at bytes small = still_or_near file at _ small (go (eqb version 1))
  where
    go : (b : Bool) → at < 0xE00000 → cond b (at + 2 + be 2 file at * 5) (items_walked (address_width version) file (be 2 file at) (at + 2)) < 2 ^ 32
    go true near = let few : be 2 file at < 65536 = be_below 2 file at bytes in omega arith
    go false near = items_small (address_width version) file (be 2 file at) (at + 2) (width_range version).0 (width_range version).1 (omega arith)

pub frames_small : (version : ℕ) (file : List ℕ) (count at : ℕ) → AllBytes file → at < 2 ^ 32 → frames_walked version file count at < 2 ^ 32
unfolding frames_walked
frames_small version file zero at bytes small = small
frames_small version file (suc count) at bytes small = frames_small version file count (frame_walked version file at) bytes (frame_small version file at bytes small)

-- ITS STEPS

pub items_step : (width : ℕ) (file : List ℕ) (count at : ℕ) → 0 < count → at < walk_limit file → items_walked width file count at ≡ items_walked width file (count - 1) (at + item_size width file at)
unfolding items_walked
items_step width file zero at some less = absurd (omega arith)
items_step width file (suc count) at some less = let left : suc count - 1 ≡ count = omega arith in rw (left, lt-ltb at (walk_limit file) less)

pub items_still : (width : ℕ) (file : List ℕ) (count at : ℕ) → walk_limit file ≤ at → items_walked width file count at ≡ at
unfolding items_walked
items_still width file zero at past = refl
items_still width file (suc count) at past = rw (le-ltb at (walk_limit file) past)

pub items_none : (width : ℕ) (file : List ℕ) (at : ℕ) → items_walked width file 0 at ≡ at
unfolding items_walked
items_none width file at = refl

pub frames_step : (version : ℕ) (file : List ℕ) (count at : ℕ) → 0 < count → frames_walked version file count at ≡ frames_walked version file (count - 1) (frame_walked version file at)
unfolding frames_walked
frames_step version file zero at some = absurd (omega arith)
frames_step version file (suc count) at some = let left : suc count - 1 ≡ count = omega arith in rw left

pub frames_none : (version : ℕ) (file : List ℕ) (at : ℕ) → frames_walked version file 0 at ≡ at
unfolding frames_walked
frames_none version file at = refl
