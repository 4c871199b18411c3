-- The places of a frame and of the opening as parts, and the run after each.
use Prim.Native.Nat.{ℕ, zero, suc, ◌+◌, ◌-◌, ◌≤◌, ◌<◌}
use mathlib.Core.Bool.{Bool, true, false, cond, not}
use mathlib.Core.List.{List, [], ◌++◌, append-nil}
use mathlib.Core.Path.{◌≡◌, refl, sym, ap, subst, ◌∙◌}
use native.Mathlib.Nat.{le_refl}
use native.Mathlib.Omega.{arith}
use borrow.Author.Tests.{ne_eqb, eqb-false}
use lib.Dec.{eqb, ltb}
use lib.ListN.{length, take}
use Rattle.base_format.specs.declared.operation.Item.{Item}
use Rattle.base_format.specs.declared.operation.WriteRecord.{WriteRecord}
use Rattle.base_format.specs.declared.player.Progress.{Progress}
use Rattle.base_format.specs.declared.player.StreamPlayer.{StreamPlayer}
use Rattle.base_format.specs.Bytes.{be}
use Rattle.base_format.specs.Checked.{ok, ◌>>=◌}
use Rattle.base_format.specs.Operation.{item_at}
use Rattle.base_format.specs.Player.{setting_in, Gathered, gathered, Played, frame_start, frame_begun, operations_left, play_frame, play_opening}
use Rattle.base_format.specs.State.{moved}
use Rattle.base_format.specs.Stream.{opening_limit}
use Rattle.base_format.proofs.Checks.{through, passed_test, ok_is}
use Rattle.play_segments.specs.declared.place.Place.{Place}
use Rattle.play_segments_first.specs.First.{nowhere, frame_place, frame_at, opening_place}
use Rattle.play_segments.specs.Place.{onward}
use Rattle.play_segments.specs.Turn.{turn, operation_turn}
use Rattle.play_segments.proofs.Decoded.{turns}
use Rattle.play_store_segment.specs.Segment.{inserted}
use Rattle.play_store_segment.proofs.Lists.{inserted_none}
use Rattle.play_store.specs.Stored.{stored_from}
use Rattle.play_store.proofs.Storing.{stored_none}
use Rattle.play_store.proofs.Parts.{Part, rest_of, Step, step_of, gathered_full}
use Rattle.play_store.proofs.PartStored.{part_stored}

module _ (file : List ℕ) (state : StreamPlayer) (total : ℕ) where
  -- A FRAME

  -- so many operations of a frame; `after` is what an opening left behind
  abbrev frame_rest : (after left cursor done room : ℕ) → Place
  frame_rest after left cursor done room =
      record { closing = false; left = left; opening = 0; after = after; cursor = cursor; done = done; total = total; room = room }

  frame_turns : (after left cursor done room : ℕ) (item : Item) → item_at (setting_in state file) file (length file) cursor ≡ ok item
      → turn file state (frame_rest after (suc left) cursor done room) ≡ operation_turn file state.header.directory_offset (frame_rest after (suc left) cursor done room) item.operation item.next
  frame_turns after left cursor done room item e =
      turns file state (length file) (frame_rest after (suc left) cursor done room) item (le_refl (length file)) refl e

  frame_goes : (after left cursor done room next taken : ℕ) → onward (frame_rest after (suc left) cursor done room) next taken ≡ frame_rest after left next 0 (room - taken)
  frame_goes after left cursor done room next taken =
      let fewer : suc left - 1 ≡ left = omega arith in
      ap (λ (k : ℕ). frame_rest after k next 0 (room - taken)) fewer

  abbrev frame_part : (after : ℕ) → Part file state (length file) total
  frame_part after =
      record { place = frame_rest after; some = λ _ _ _ _. omega arith; done_is = λ _ _ _ _. refl; room_is = λ _ _ _ _. refl; total_is = λ _ _ _ _. refl; turns = frame_turns after; goes = frame_goes after }

  frame_stored : (after room : ℕ) (p : Progress) (a : Played) (run : List WriteRecord) → play_frame state file room p ≡ ok a → 0 < room → room ≤ total → length run ≡ total
      → stored_from file state (frame_rest after (operations_left p) p.cursor p.write_index room) run ≡ inserted (total - room) a.records run
  unfolding play_frame
  frame_stored after room p a run e some within long =
      let taken = through (gathered state file (length file) (operations_left p) room p) _ e in
      let records : taken.value.records ≡ a.records = ap (λ (x : Played). x.records) (ok_is taken.then) in
      part_stored file state (length file) total (frame_part after) (operations_left p) room p taken.value [] run taken.is some within long
      (λ cursor done run' some' within' long'. stored_none file state (frame_rest after 0 cursor done taken.value.room) run' refl ∙ sym (inserted_none run' (total - taken.value.room)))
      (λ z. refl)
      ∙ ap (λ (l : List WriteRecord). inserted (total - room) l run) (append-nil taken.value.records ∙ records)

  -- without room there are no records
  frame_none : (room : ℕ) (p : Progress) (a : Played) → room ≡ 0 → play_frame state file room p ≡ ok a → a.records ≡ []
  unfolding play_frame
  frame_none room p a full e =
      let taken = through (gathered state file (length file) (operations_left p) room p) _ e in
      ap (λ (x : Played). x.records) (sym (ok_is taken.then))
      ∙ (gathered_full state file (length file) (operations_left p) p taken.value (subst (λ (r : ℕ). gathered state file (length file) (operations_left p) r p ≡ ok taken.value) full taken.is)).0

  -- THE OPENING

  -- so many operations of the opening, and then the frame
  abbrev opening_rest : (frame : Place) → (left cursor done room : ℕ) → Place
  opening_rest frame zero cursor done room = frame_rest frame.cursor frame.left frame.cursor 0 room
  opening_rest frame (suc left) cursor done room =
      record { closing = false; left = suc left + frame.left; opening = suc left; after = frame.cursor; cursor = cursor; done = done; total = total; room = room }

  opening_turns : opening_limit state.header file ≤ length file → (frame : Place) (left cursor done room : ℕ) (item : Item)
      → item_at (setting_in state file) file (opening_limit state.header file) cursor ≡ ok item
      → turn file state (opening_rest frame (suc left) cursor done room) ≡ operation_turn file state.header.directory_offset (opening_rest frame (suc left) cursor done room) item.operation item.next
  opening_turns short frame left cursor done room item e =
      turns file state (opening_limit state.header file) (opening_rest frame (suc left) cursor done room) item short refl e

  opening_goes : (frame : Place) (left cursor done room next taken : ℕ) → onward (opening_rest frame (suc left) cursor done room) next taken ≡ opening_rest frame left next 0 (room - taken)
  opening_goes frame zero cursor done room next taken =
      let left : 1 + frame.left - 1 ≡ frame.left = omega arith in
      ap (λ (k : ℕ). frame_rest frame.cursor k frame.cursor 0 (room - taken)) left
  opening_goes frame (suc left) cursor done room next taken =
      let fewer : suc (suc left) + frame.left - 1 ≡ suc left + frame.left = omega arith in
      let less : suc (suc left) - 1 ≡ suc left = omega arith in
      rw (ne_eqb (suc (suc left)) 1 (λ (z : suc (suc left) ≡ 1). omega arith), fewer, less)

  abbrev opening_part_lem : opening_limit state.header file ≤ length file → Place → Part file state (opening_limit state.header file) total
  opening_part_lem short frame =
      record { place = opening_rest frame; some = λ _ _ _ _. omega arith; done_is = λ _ _ _ _. refl; room_is = λ _ _ _ _. refl; total_is = λ _ _ _ _. refl; turns = opening_turns short frame; goes = opening_goes frame }

  step_all : (limit left room : ℕ) (p : Progress) (g : Gathered) (step : Step state file limit left room p g) → 0 < g.room
      → ((m : Gathered) (room' : ℕ) → gathered state file limit left room' step.next ≡ ok m → 0 < m.room
      → (m.progress.operation_index ≡ step.next.operation_index + left) × (m.progress.operation_count ≡ step.next.operation_count))
      → (g.progress.operation_index ≡ p.operation_index + suc left) × (g.progress.operation_count ≡ p.operation_count)
  step_all limit left room p g step some later =
      let rest = rest_of state file step.item p.write_index in
      go (ltb room (length rest)) rest (take room rest) (room - length rest) step.is
    where
      go : (b : Bool) (rest taken : List WriteRecord) (less : ℕ)
          → cond b (ok (record { records = taken; room = 0; progress = step.stop })) (gathered state file limit left less step.next >>= λ (m : Gathered).
          ok (record { records = rest ++ m.records; room = m.room; progress = m.progress }))
          ≡ ok g
          → (g.progress.operation_index ≡ p.operation_index + suc left) × (g.progress.operation_count ≡ p.operation_count)
      go true rest taken less is =
          let none : 0 ≡ g.room = ap (λ (x : Gathered). x.room) (ok_is is) in
          absurd (omega arith)
      go false rest taken less is =
          let m = through (gathered state file limit left less step.next) _ is in
          let room : m.value.room ≡ g.room = ap (λ (x : Gathered). x.room) (ok_is m.then) in
          let all = later m.value less m.is (omega (arith, room)) in
          let index : m.value.progress.operation_index ≡ g.progress.operation_index = ap (λ (x : Gathered). x.progress.operation_index) (ok_is m.then) in
          (omega (arith, index, all.0, step.next_index), ap (λ (x : Gathered). x.progress.operation_count) (sym (ok_is m.then)) ∙ all.1 ∙ step.next_count)

  -- every operation is taken where room is left
  taken_all : (limit left room : ℕ) (p : Progress) (g : Gathered) → gathered state file limit left room p ≡ ok g → 0 < g.room
      → (g.progress.operation_index ≡ p.operation_index + left) × (g.progress.operation_count ≡ p.operation_count)
  unfolding gathered
  taken_all limit zero room p g e some =
      let index : p.operation_index ≡ p.operation_index + 0 = omega arith in
      (ap (λ (x : Gathered). x.progress.operation_index) (sym (ok_is e)) ∙ index, ap (λ (x : Gathered). x.progress.operation_count) (sym (ok_is e)))
  taken_all limit (suc left) zero p g e some =
      let none : g.room ≡ 0 = ap (λ (x : Gathered). x.room) (sym (ok_is e)) in
      absurd (omega arith)
  taken_all limit (suc left) (suc others) p g e some =
      let step = step_of state file limit left others p g e in
      step_all limit left (suc others) p g step some (λ m room' is some'. taken_all limit left room' step.next m is some')

  -- what is stored for the opening, where `more` is what the frame gives
  opening_then : opening_limit state.header file ≤ length file → (room : ℕ) (p : Progress) (g : Gathered) (frame : Place) (more run : List WriteRecord)
      → gathered state file (opening_limit state.header file) (operations_left p) room p ≡ ok g → 0 < room → room ≤ total → length run ≡ total
      → ((run' : List WriteRecord) → 0 < g.room → g.room ≤ total → length run' ≡ total → stored_from file state (opening_rest frame 0 0 0 g.room) run' ≡ inserted (total - g.room) more run')
      → (g.room ≡ 0 → more ≡ [])
      → stored_from file state (opening_rest frame (operations_left p) p.cursor p.write_index room) run ≡ inserted (total - room) (g.records ++ more) run
  opening_then short room p g frame more run e some within long follows none =
      part_stored file state (opening_limit state.header file) total (opening_part_lem short frame) (operations_left p) room p g more run e some within long (λ cursor done run'. follows run') none

  -- a frame that begins, behind an opening or not
  frame_begun_lem : (cursor index after room : ℕ) (p q : Progress) (a : Played) → frame_begun file cursor index p ≡ ok q → play_frame state file room q ≡ ok a
      → (run : List WriteRecord) → 0 < room → room ≤ total → length run ≡ total
      → stored_from file state (frame_rest after (frame_at file cursor total).left (frame_at file cursor total).cursor 0 room) run ≡ inserted (total - room) a.records run
  unfolding frame_begun frame_at
  frame_begun_lem cursor index after room p q a begun e run some within long =
      let there = passed_test 14 cursor (ltb (length file) (cursor + 2)) begun in
      let count : be 2 file cursor - 0 ≡ be 2 file cursor = omega arith in
      let e' : play_frame state file room (frame_start file cursor index p) ≡ ok a = rw (ok_is there.1) e in
      rw there.0 (ap (λ (n : ℕ). stored_from file state (frame_rest after n (cursor + 2) 0 room) run) (sym count) ∙ frame_stored after room (frame_start file cursor index p) a run e' some within long)

  frame_place_lem : (cursor : ℕ) → frame_at file cursor total ≡ frame_rest (frame_at file cursor total).cursor (frame_at file cursor total).left (frame_at file cursor total).cursor 0 total
  unfolding frame_at
  frame_place_lem cursor = go (ltb (length file) (cursor + 2))
    where
      go : (b : Bool)
          → cond b (nowhere total) (frame_place (be 2 file cursor) (cursor + 2) 0 total)
          ≡ frame_rest (cond b (nowhere total) (frame_place (be 2 file cursor) (cursor + 2) 0 total)).cursor (cond b (nowhere total) (frame_place (be 2 file cursor) (cursor + 2) 0 total)).left
          (cond b (nowhere total) (frame_place (be 2 file cursor) (cursor + 2) 0 total)).cursor 0 total
      go true = refl
      go false = refl

  pub begun_stored : (cursor index : ℕ) (p q : Progress) (a : Played) → frame_begun file cursor index p ≡ ok q → play_frame state file total q ≡ ok a → (run : List WriteRecord)
      → 0 < total → length run ≡ total → stored_from file state (frame_at file cursor total) run ≡ inserted (total - total) a.records run
  begun_stored cursor index p q a begun e run some long =
      ap (λ (x : Place). stored_from file state x run) (frame_place_lem cursor) ∙ frame_begun_lem cursor index (frame_at file cursor total).cursor total p q a begun e run some (omega arith) long

  -- a frame that is under way
  pub under_way_lem : (p : Progress) (a : Played) → play_frame state file total p ≡ ok a → (run : List WriteRecord) → 0 < total → length run ≡ total
      → stored_from file state (frame_place (operations_left p) p.cursor p.write_index total) run ≡ inserted (total - total) a.records run
  under_way_lem p a e run some long = frame_stored p.cursor total p a run e some (omega arith) long

  -- THE OPENING AND ITS FRAME

  abbrev first : Place
  first = frame_at file state.header.frame_start total

  -- operations are left, so the room is used up; or all are done, and the frame follows
  opening_rest_lem : opening_limit state.header file ≤ length file → (p : Progress) (a : Played) (run : List WriteRecord) → play_opening state file total p ≡ ok a → 0 < total
      → length run ≡ total → stored_from file state (opening_rest first (operations_left p) p.cursor p.write_index total) run ≡ inserted (total - total) a.records run
  unfolding play_opening
  opening_rest_lem short p a run e some long =
      let taken = through (gathered state file (opening_limit state.header file) (operations_left p) total p) _ e in
      go taken.value taken.is (eqb (operations_left taken.value.progress) 0) refl taken.then
    where
      go : (g : Gathered) → gathered state file (opening_limit state.header file) (operations_left p) total p ≡ ok g → (done : Bool) → eqb (operations_left g.progress) 0 ≡ done
          → cond (not done) (ok (record { records = g.records; complete = false; next = moved state g.progress })) (frame_begun file state.header.frame_start 0 g.progress >>= λ (frame : Progress).
          play_frame state file g.room frame >>= λ (more : Played). ok (record { records = g.records ++ more.records; complete = more.complete; next = more.next }))
          ≡ ok a
          → stored_from file state (opening_rest first (operations_left p) p.cursor p.write_index total) run ≡ inserted (total - total) a.records run
      go g is false left e =
          let records : g.records ≡ a.records = ap (λ (x : Played). x.records) (ok_is e) in
          opening_then short total p g first [] run is some (omega arith) long (λ run' some' within' long'. absurd (still g is left some')) (λ z. refl)
          ∙ ap (λ (l : List WriteRecord). inserted (total - total) l run) (append-nil g.records ∙ records)
        where
          still : (g : Gathered) → gathered state file (opening_limit state.header file) (operations_left p) total p ≡ ok g → eqb (operations_left g.progress) 0 ≡ false → 0 < g.room → ⊥
          still g is left some' =
              let all = taken_all (opening_limit state.header file) (operations_left p) total p g is some' in
              let none : operations_left g.progress ≡ 0 = omega (arith, all.0, all.1) in
              eqb-false _ _ left none
      go g is true none e =
          let begun = through (frame_begun file state.header.frame_start 0 g.progress) _ e in
          let more = through (play_frame state file g.room begun.value) _ begun.then in
          let records : g.records ++ more.value.records ≡ a.records = ap (λ (x : Played). x.records) (ok_is more.then) in
          opening_then short total p g first more.value.records run is some (omega arith) long
          (λ run' some' within' long'. frame_begun_lem state.header.frame_start 0 first.cursor g.room g.progress begun.value more.value begun.is more.is run' some' within' long')
          (λ full. frame_none g.room begun.value more.value full more.is)
          ∙ ap (λ (l : List WriteRecord). inserted (total - total) l run) records

  pub opening_stored : opening_limit state.header file ≤ length file → (p : Progress) (a : Played) (run : List WriteRecord) → play_opening state file total p ≡ ok a → 0 < total
      → length run ≡ total
      → stored_from file state (opening_place file state.header (operations_left p) p.cursor p.write_index total) run ≡ inserted (total - total) a.records run
  unfolding opening_place
  opening_stored short p a run e some long = go (operations_left p) refl (opening_rest_lem short p a run e some long)
    where
      go : (left : ℕ) → operations_left p ≡ left
          → stored_from file state (opening_rest first (operations_left p) p.cursor p.write_index total) run ≡ inserted (total - total) a.records run
          → stored_from file state (opening_place file state.header (operations_left p) p.cursor p.write_index total) run ≡ inserted (total - total) a.records run
      go zero none rest = rw none (ap (λ (x : Place). stored_from file state x run) (frame_place_lem state.header.frame_start) ∙ rw none at rest)
      go (suc left) is rest = rw (is, ne_eqb (suc left) 0 (λ (z : suc left ≡ 0). omega arith)) (rw is at rest)
