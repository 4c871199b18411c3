-- Where the frames of an accepted file stand: at the places that its stream alone says.
use Prim.Native.Nat.{ℕ, zero, suc, ◌+◌, ◌-◌, ◌≤◌, ◌<◌}
use mathlib.Core.Bool.{Bool, true, false, cond}
use mathlib.Core.List.{List, [], ◌∷◌, ◌++◌}
use mathlib.Core.Path.{◌≡◌, refl, sym, ap, ap₂, subst, ◌∙◌}
use native.Mathlib.Nat.{add-zero, zero-add}
use native.Mathlib.Omega.{arith}
use lib.Dec.{eqb}
use lib.ListN.{length, take, drop, length-append, length-take, length-drop}
use lib.Seq.{take_all, take-length, take-add}
use Rattle.base_format.specs.declared.operation.Item.{Item}
use Rattle.base_format.specs.declared.operation.Operation.{Operation}
use Rattle.base_format.specs.Bytes.{be, bytes_of_all, u16, part}
use Rattle.base_format.specs.Checked.{ok}
use Rattle.base_format.specs.Header.{header_of}
use Rattle.base_format.specs.Index.{frame_place}
use Rattle.base_format.specs.Operation.{Setting, address_width, operation_at, record_at, item_at}
use Rattle.base_format.specs.Pool.{Payload, pool_at, pools_from}
use Rattle.base_format.specs.Stream.{Stream, operations_from, frames_from}
use Rattle.base_format.specs.Written.{operation_fields, without_first, item_bytes, operations_bytes, frames_bytes, payloads_bytes, frames_place, end_place}
use Rattle.base_field_laws.proofs.Operations.{fields_long}
use Rattle.base_format.proofs.Accepted.{Accepted, setting_for}
use Rattle.base_format.proofs.Cards.{cards_count}
use Rattle.base_format.proofs.Checks.{ok_is}
use Rattle.base_format.proofs.Fields.{fields_size_lem}
use Rattle.base_format.proofs.Sizes.{size_is, width_range}
use Rattle.base_format.proofs.Steps.{pool_step, record_is, operation_is, operation_step, frame_step}

-- HOW LONG WHAT IS READ IS

pub item_long : (setting : Setting) (file : List ℕ) (limit at : ℕ) (item : Item) → item_at setting file limit at ≡ ok item
    → item.next ≡ at + length (item_bytes setting.version item.operation)
unfolding item_at item_bytes
item_long setting file limit at item = go (eqb setting.version 1)
  where
    go : (b : Bool) → cond b (record_at setting file limit at) (operation_at setting file limit at) ≡ ok item
        → item.next ≡ at + length (bytes_of_all (cond b (without_first (operation_fields 3 item.operation)) (operation_fields (address_width setting.version) item.operation)))
    go true e =
        let found = record_is setting file limit at item e in
        subst (λ (i : Item). i.next ≡ at + length (bytes_of_all (without_first (operation_fields 3 i.operation)))) found.is (rw (fields_size_lem _))
    go false e =
        let found = operation_is setting file limit at item e in
        let w = address_width setting.version in
        let range = width_range setting.version in
        subst (λ (i : Item). i.next ≡ at + length (bytes_of_all (operation_fields w i.operation))) found.is
        (rw (fields_size_lem _, size_is w _ range.0 range.1 found.known, fields_long file w at _ found.known))

pub operations_long : (setting : Setting) (file : List ℕ) (limit count at : ℕ) (found : List Operation × ℕ)
    → operations_from setting file limit count at ≡ ok found
    → found.1 ≡ at + length (operations_bytes setting.version found.0)
unfolding operations_from operations_bytes
operations_long setting file limit zero at found e = subst (λ (f : List Operation × ℕ). f.1 ≡ at + length (operations_bytes setting.version f.0)) (ok_is e) (omega arith)
operations_long setting file limit (suc count) at found e =
    let step = operation_step setting file limit count at found e in
    let mine = item_long setting file limit at step.item step.here in
    let more = operations_long setting file limit count step.item.next step.others step.from in
    subst (λ (f : List Operation × ℕ). f.1 ≡ at + length (operations_bytes setting.version f.0)) step.is
    (simp length-append (omega (arith, mine, more)))

pools_long : (version : ℕ) (file : List ℕ) (directory count id start : ℕ) (found : List Payload × ℕ)
    → pools_from version file directory count id start ≡ ok found
    → (length found.0 ≡ count) × (found.1 ≡ start + length (payloads_bytes found.0))
unfolding pools_from payloads_bytes
pools_long version file directory zero id start found e =
    subst (λ (f : List Payload × ℕ). (length f.0 ≡ 0) × (f.1 ≡ start + length (payloads_bytes f.0))) (ok_is e) (refl, omega arith)
pools_long version file directory (suc count) id start found e =
    let step = pool_step version file directory count id start found e in
    let size = (pool_at file directory id).size in
    let more = pools_long version file directory count (suc id) (start + size) step.others step.from in
    let here : length (part file start size) ≡ size = omega (arith, length-take size (drop start file), length-drop start file, step.within) in
    subst (λ (f : List Payload × ℕ). (length f.0 ≡ suc count) × (f.1 ≡ start + length (payloads_bytes f.0))) step.is
    (ap suc more.0, omega (arith, more.1, here, length-append (part file start size) (payloads_bytes step.others.0)))

-- FRAMES

-- as many frames are read as are asked for
pub frames_read_count : (setting : Setting) (file : List ℕ) (count at : ℕ) (frames : List (List Operation)) (end : ℕ)
    → frames_from setting file count at ≡ ok (frames, end)
    → length frames ≡ count
unfolding frames_from
frames_read_count setting file zero at frames end e = ap (λ (x : List (List Operation) × ℕ). length x.0) (sym (ok_is e))
frames_read_count setting file (suc count) at frames end e =
    let step = frame_step setting file count at (frames, end) e in
    ap (λ (x : List (List Operation) × ℕ). length x.0) (sym step.is) ∙ ap suc (frames_read_count setting file count step.frame.1 step.others.0 step.others.1 step.from)

-- where some frames are read, the later ones are read from where the written earlier ones end
frames_later : (setting : Setting) (file : List ℕ) (count more at : ℕ) (frames : List (List Operation)) (end : ℕ)
    → frames_from setting file (count + more) at ≡ ok (frames, end)
    → frames_from setting file more (at + length (frames_bytes setting.version (take count frames))) ≡ ok (drop count frames, end)
unfolding frames_bytes
frames_later setting file zero more at frames end e = rw add-zero (rw zero-add at e)
frames_later setting file (suc count) more at frames end e =
    let number : suc count + more ≡ suc (count + more) = omega arith in
    let step = frame_step setting file (count + more) at (frames, end) (rw number at e) in
    let v = setting.version in
    let mine = operations_long setting file (length file) (be 2 file at) (at + 2) step.frame step.here in
    let behind = frames_later setting file count more step.frame.1 step.others.0 step.others.1 step.from in
    let two : length (bytes_of_all (u16 (length step.frame.0) ∷ [])) ≡ 2 = fields_size_lem _ in
    let rest = frames_bytes v (take count step.others.0) in
    let place : step.frame.1 + length rest ≡ at + length (bytes_of_all (u16 (length step.frame.0) ∷ []) ++ (operations_bytes v step.frame.0 ++ rest)) =
    simp length-append (omega (arith, mine, two)) in
    subst (λ (f : List (List Operation) × ℕ). frames_from setting file more (at + length (frames_bytes v (take (suc count) f.0))) ≡ ok (drop (suc count) f.0, f.1)) step.is
    (ap (frames_from setting file more) (sym place) ∙ behind)

-- some frames are written no longer than all of them
some_long : (version count : ℕ) (frames : List (List Operation)) → length (frames_bytes version (take count frames)) ≤ length (frames_bytes version frames)
unfolding frames_bytes
some_long version zero frames = omega arith
some_long version (suc count) [] = omega arith
some_long version (suc count) (frame ∷ frames) =
    simp length-append (omega (arith, some_long version count frames))

-- and with one more by its count and its operations
one_long : (version : ℕ) (frames : List (List Operation)) (frame : List Operation)
    → length (frames_bytes version (frames ++ (frame ∷ []))) ≡ length (frames_bytes version frames) + (2 + length (operations_bytes version frame))
unfolding frames_bytes
one_long version [] frame =
    let head = bytes_of_all (u16 (length frame) ∷ []) in
    let two : length head ≡ 2 = fields_size_lem _ in
    omega (arith, two, length-append head (operations_bytes version frame ++ []), length-append (operations_bytes version frame) [])
one_long version (first ∷ frames) frame =
    simp length-append (omega (arith, one_long version frames frame))

-- what the rules for an operation of an accepted file go by
abbrev pub own_setting : List ℕ → Stream → Setting
own_setting file s = setting_for file (header_of file) s.cards

module _ (file : List ℕ) (s : Stream) (acc : Accepted file (header_of file) s) where
  pub frame_count : length s.frames ≡ (header_of file).frame_count
  frame_count = frames_read_count (own_setting file s) file (header_of file).frame_count (header_of file).frame_start s.frames (length file) acc.frames

  -- the frames start where the stream says
  pub first_place_lem : (header_of file).frame_start ≡ frames_place s
  first_place_lem =
      let cards = cards_count file _ _ 0 s.cards acc.cards in
      let pools = pools_long _ file _ _ 0 _ (s.pools, (header_of file).initial_start) acc.pools in
      let opening = operations_long (own_setting file s) file _ _ (header_of file).initial_start (s.opening, (header_of file).frame_start) acc.opening in
      rw acc.version (omega (arith, cards, pools.0, pools.1, opening, acc.directory_here))

  pub place_first : frame_place s 0 ≡ (header_of file).frame_start
  unfolding frames_bytes
  place_first = omega (arith, first_place_lem)

  -- from the place of a frame's count on the file has that frame and the later ones
  pub frames_at_lem : (frame more : ℕ) → frame + more ≡ (header_of file).frame_count → frames_from (own_setting file s) file more (frame_place s frame) ≡ ok (drop frame s.frames, length file)
  frames_at_lem frame more count =
      let read_all : frames_from (own_setting file s) file (frame + more) (header_of file).frame_start ≡ ok (s.frames, length file) = rw count acc.frames in
      let behind = frames_later (own_setting file s) file frame more (header_of file).frame_start s.frames (length file) read_all in
      let place = ap₂ (λ (start version : ℕ). start + length (frames_bytes version (take frame s.frames))) first_place_lem (sym acc.version) in
      ap (frames_from (own_setting file s) file more) (sym place) ∙ behind

  -- and the stream's total size is the file's
  pub last_place : end_place s ≡ length file
  unfolding frames_from
  last_place =
      let all = frames_at_lem (header_of file).frame_count 0 (omega arith) in
      let whole : take (header_of file).frame_count s.frames ≡ s.frames = take_all (header_of file).frame_count s.frames (omega (arith, frame_count)) in
      ap (λ (l : List (List Operation)). frames_place s + length (frames_bytes s.version l)) (sym whole) ∙ ap (λ (f : List (List Operation) × ℕ). f.1) (ok_is all)

  pub place_last : frame_place s (length s.frames) ≡ length file
  place_last = ap (λ (l : List (List Operation)). frames_place s + length (frames_bytes s.version l)) (take-length s.frames) ∙ last_place

  -- no place of a frame passes the file's end
  pub place_within : (frame : ℕ) → frame_place s frame ≤ length file
  place_within frame = omega (arith, last_place, some_long s.version frame s.frames)

  -- a frame's count lies within the file, and the operations behind it end at the next frame's
  pub frame_operations : (frame : ℕ) → frame < length s.frames
      → (operations : List Operation)
      × (frame_place s frame + 2 ≤ length file)
      × (operations_from (own_setting file s) file (length file) (be 2 file (frame_place s frame)) (frame_place s frame + 2) ≡ ok (operations, frame_place s (frame + 1)))
  frame_operations frame less =
      let more = length s.frames - suc frame in
      let step = frame_step (own_setting file s) file more (frame_place s frame) (drop frame s.frames, length file) (frames_at_lem frame (suc more) (omega (arith, frame_count))) in
      let operations = step.frame.0 in
      let long = operations_long (own_setting file s) file (length file) (be 2 file (frame_place s frame)) (frame_place s frame + 2) step.frame step.here in
      let first : take 1 (drop frame s.frames) ≡ operations ∷ [] = ap (λ (f : List (List Operation) × ℕ). take 1 f.0) (sym step.is) in
      let parts = take-add frame 1 s.frames ∙ ap (λ (l : List (List Operation)). take frame s.frames ++ l) first in
      let total = ap (λ (l : List (List Operation)). length (frames_bytes s.version l)) parts ∙ one_long s.version (take frame s.frames) operations in
      let end = long ∙ ap (λ (v : ℕ). frame_place s frame + 2 + length (operations_bytes v operations)) (sym acc.version) in
      let next : step.frame.1 ≡ frame_place s (frame + 1) = omega arith in
      (operations, step.room, step.here ∙ ap (λ (n : ℕ). ok (operations, n)) next)
