-- What is stored from the place before a part's operations is what `gathered` takes of them, and then what follows the part.
use Prim.Native.Nat.{ℕ, zero, suc, ◌+◌, ◌-◌, ◌≤◌, ◌<◌}
use mathlib.Core.Bool.{Bool, true, false, cond}
use mathlib.Core.List.{List, [], ◌++◌, append-nil, append_assoc}
use mathlib.Core.Path.{◌≡◌, refl, sym, ap, ◌∙◌}
use native.Mathlib.Omega.{arith}
use borrow.Author.Tests.{ltb-true, ltb-false, leb-true, leb-false}
use lib.Dec.{leb, ltb}
use lib.ListN.{length, take, length-drop}
use lib.Seq.{take_all}
use Rattle.base_format.specs.declared.operation.Item.{Item}
use Rattle.base_format.specs.declared.operation.WriteRecord.{WriteRecord}
use Rattle.base_format.specs.declared.player.Progress.{Progress}
use Rattle.base_format.specs.declared.player.StreamPlayer.{StreamPlayer}
use Rattle.base_format.specs.Checked.{ok, ◌>>=◌}
use Rattle.play_laws.specs.Plan.{count_of, address_of}
use Rattle.base_format.specs.Player.{item_used, bytes_at, Gathered, gathered}
use Rattle.base_format.specs.Writes.{writes_with}
use Rattle.base_format.proofs.Checks.{through, ok_is}
use Rattle.play_laws.proofs.Address.{address_small, item_there}
use Rattle.play_laws.proofs.PlannedOperations.{Writes, usable}
use Rattle.play_segments.specs.declared.place.Place.{Place}
use Rattle.play_segments.specs.declared.place.Turn.{Turn}
use Rattle.play_segments.specs.Operation.{unplayable, segment_from}
use Rattle.play_segments.specs.Place.{stopped, onward}
use Rattle.play_segments.specs.Turn.{turn}
use Rattle.play_store_segment.specs.Segment.{inserted, segment_stored}
use Rattle.play_store_segment.proofs.Lists.{length_inserted}
use Rattle.play_store.specs.Stored.{stored_from}
use Rattle.play_store.proofs.Storing.{stored_none, stored_step}
use Rattle.play_store.proofs.Taken.{taken_stored}
use Rattle.play_store.proofs.Parts.{Part, rest_of, Step, step_of, gathered_full, inserted_twice, playable, turn_stops, turn_goes}

module _ (file : List ℕ) (state : StreamPlayer) (limit total : ℕ) (part : Part file state limit total) where
  abbrev directory : ℕ
  directory = state.header.directory_offset

  -- ONE TURN

  module _ (left cursor done room : ℕ) (item : Item) (used : item_used state file limit cursor ≡ ok item) (fits : done ≤ length (writes_with (bytes_at file directory) item.operation))
      (within : room ≤ total) (run : List WriteRecord) (long : length run ≡ total) where
    abbrev here : Place
    here = part.place (suc left) cursor done room

    writes : Writes file directory item.operation
    writes = (usable state file limit cursor item used).writes

    rest_long : length (rest_of state file item done) ≡ count_of item.operation - done
    rest_long = length-drop done (writes_with (bytes_at file directory) item.operation) ∙ ap (λ (k : ℕ). k - done) writes.count

    done_small : done ≤ count_of item.operation
    done_small = omega (arith, fits, writes.count)

    can : unplayable item.operation here.done ≡ false
    can = rw (part.done_is left cursor done room) (playable item.operation done done_small (address_small state file limit cursor item used))

    -- the turn, and the run after it
    abbrev turn_is : (count : ℕ) → Place → Turn
    turn_is count next = record { at = total - room; segment = segment_from file directory item.operation (address_of item.operation + done) done count; place = next }

    after : (count : ℕ) (next : Place) → turn file state here ≡ turn_is count next → count ≤ length (rest_of state file item done) → count ≤ room
        → stored_from file state here run ≡ stored_from file state next (inserted (total - room) (take count (rest_of state file item done)) run)
    after count next is enough fit =
        stored_step file state here run (part.some left cursor done room)
        ∙ ap (λ (t : Turn). stored_from file state t.place (segment_stored file t.segment t.at run)) is
        ∙ ap (λ (l : List WriteRecord). stored_from file state next l)
        (taken_stored file directory done count item.operation writes (omega (arith, rest_long, done_small)) (address_small state file limit cursor item used) (total - room) run (omega (arith, long)))

    -- the room ends within the operation
    stops : room ≤ length (rest_of state file item done) → stored_from file state here run ≡ inserted (total - room) (take room (rest_of state file item done)) run
    stops enough = after room (stopped here) is enough (omega arith) ∙ stored_none file state (stopped here) _ refl
      where
        is : turn file state here ≡ turn_is room (stopped here)
        is =
            part.turns left cursor done room item (item_there state file limit cursor item used)
            ∙ turn_stops file directory here item.operation item.next can (rw (part.done_is left cursor done room, part.room_is left cursor done room) (omega (arith, rest_long)))
            ∙ rw (part.done_is left cursor done room, part.room_is left cursor done room, part.total_is left cursor done room)

    -- the operation is done, and the next one comes
    goes : length (rest_of state file item done) < room
        → stored_from file state here run ≡ stored_from file state (part.place left item.next 0 (room - length (rest_of state file item done))) (inserted (total - room) (rest_of state file item done) run)
    goes less =
        after (length (rest_of state file item done)) (part.place left item.next 0 (room - length (rest_of state file item done))) is (omega arith) (omega arith)
        ∙ ap (λ (l : List WriteRecord). stored_from file state (part.place left item.next 0 (room - length (rest_of state file item done))) (inserted (total - room) l run))
        (take_all (length (rest_of state file item done)) (rest_of state file item done) (omega arith))
      where
        is : turn file state here ≡ turn_is (length (rest_of state file item done)) (part.place left item.next 0 (room - length (rest_of state file item done)))
        is =
            part.turns left cursor done room item (item_there state file limit cursor item used)
            ∙ turn_goes file directory here item.operation item.next can (rw (part.done_is left cursor done room, part.room_is left cursor done room) (omega (arith, rest_long)))
            ∙ ap (λ (t : ℕ). record {
              at = t - here.room;
              segment = segment_from file directory item.operation (address_of item.operation + here.done) here.done (count_of item.operation - here.done);
              place = onward here item.next (count_of item.operation - here.done);
            }) (part.total_is left cursor done room)
            ∙ ap (λ (r : ℕ). record {
              at = total - r;
              segment = segment_from file directory item.operation (address_of item.operation + here.done) here.done (count_of item.operation - here.done);
              place = onward here item.next (count_of item.operation - here.done);
            }) (part.room_is left cursor done room)
            ∙ ap (λ (d : ℕ). record {
              at = total - room;
              segment = segment_from file directory item.operation (address_of item.operation + d) d (count_of item.operation - d);
              place = onward here item.next (count_of item.operation - d);
            }) (part.done_is left cursor done room)
            ∙ ap (λ (p : Place). turn_is (count_of item.operation - done) p) (part.goes left cursor done room item.next (count_of item.operation - done))
            ∙ ap (λ (k : ℕ). turn_is k (part.place left item.next 0 (room - k))) (sym rest_long)

  -- ALL OF THEM

  -- what follows the part, from the place behind it
  abbrev Follows : (room : ℕ) → List WriteRecord → Type 0
  Follows room more = (cursor done : ℕ) (run : List WriteRecord) → 0 < room → room ≤ total → length run ≡ total → stored_from file state (part.place 0 cursor done room) run ≡ inserted (total - room) more run

  -- the run after the operations that are left, and what follows them
  abbrev Stored : (left room : ℕ) → Progress → Gathered → List WriteRecord → List WriteRecord → Type 0
  Stored left room p g more run = stored_from file state (part.place left p.cursor p.write_index room) run ≡ inserted (total - room) (g.records ++ more) run

  none_left : (room : ℕ) (p : Progress) (g : Gathered) (more run : List WriteRecord) → g.records ≡ [] → g.room ≡ room → 0 < room → room ≤ total → length run ≡ total
      → Follows g.room more → Stored 0 room p g more run
  none_left room p g more run no-records same some within long follows =
      ap (λ (r : ℕ). stored_from file state (part.place 0 p.cursor p.write_index r) run) (sym same)
      ∙ follows p.cursor p.write_index run (omega (arith, same)) (omega (arith, same)) long
      ∙ ap (λ (r : ℕ). inserted (total - r) more run) same
      ∙ ap (λ (l : List WriteRecord). inserted (total - room) (l ++ more) run) (sym no-records)

  -- the room ends within the next operation, or with it
  room_ends : (left room : ℕ) (p : Progress) (g : Gathered) (more run : List WriteRecord) (item : Item) → item_used state file limit p.cursor ≡ ok item
      → p.write_index ≤ length (writes_with (bytes_at file directory) item.operation) → room ≤ length (rest_of state file item p.write_index)
      → g.records ≡ take room (rest_of state file item p.write_index) → more ≡ [] → room ≤ total → length run ≡ total → Stored (suc left) room p g more run
  room_ends left room p g more run item used fits enough records none within long =
      stops left p.cursor p.write_index room item used fits within run long enough
      ∙ ap (λ (l : List WriteRecord). inserted (total - room) l run) (sym records)
      ∙ ap (λ (l : List WriteRecord). inserted (total - room) l run) (sym (append-nil g.records))
      ∙ ap (λ (l : List WriteRecord). inserted (total - room) (g.records ++ l) run) (sym none)

  -- the next operation is done, and the others follow
  others_follow : (left room : ℕ) (p next : Progress) (g m : Gathered) (more run : List WriteRecord) (item : Item) → item_used state file limit p.cursor ≡ ok item
      → p.write_index ≤ length (writes_with (bytes_at file directory) item.operation) → next.cursor ≡ item.next → next.write_index ≡ 0
      → length (rest_of state file item p.write_index) < room → g.records ≡ rest_of state file item p.write_index ++ m.records → room ≤ total → length run ≡ total
      → ((run' : List WriteRecord) → length run' ≡ total → Stored left (room - length (rest_of state file item p.write_index)) next m more run')
      → Stored (suc left) room p g more run
  others_follow left room p next g m more run item used fits cursor writes less records within long later =
      goes left p.cursor p.write_index room item used fits within run long less
      ∙ ap (λ (c : ℕ). stored_from file state (part.place left c 0 (room - length here)) run') (sym cursor)
      ∙ ap (λ (d : ℕ). stored_from file state (part.place left next.cursor d (room - length here)) run') (sym writes)
      ∙ later run' long'
      ∙ ap (λ (k : ℕ). inserted k (m.records ++ more) run') place
      ∙ inserted_twice (total - room) here (m.records ++ more) run (omega (arith, long))
      ∙ ap (λ (l : List WriteRecord). inserted (total - room) l run) (sym (append_assoc here m.records more))
      ∙ ap (λ (l : List WriteRecord). inserted (total - room) (l ++ more) run) (sym records)
    where
      here : List WriteRecord
      here = rest_of state file item p.write_index

      run' : List WriteRecord
      run' = inserted (total - room) (rest_of state file item p.write_index) run

      long' : length (inserted (total - room) (rest_of state file item p.write_index) run) ≡ total
      long' = length_inserted run (total - room) (rest_of state file item p.write_index) (omega (arith, long, less)) ∙ long

      place : total - (room - length (rest_of state file item p.write_index)) ≡ total - room + length (rest_of state file item p.write_index)
      place = omega (arith, less)

  step_stored_lem : (left others : ℕ) (p : Progress) (g : Gathered) (more run : List WriteRecord) → Step state file limit left (suc others) p g → suc others ≤ total
      → length run ≡ total → Follows g.room more → (g.room ≡ 0 → more ≡ [])
      → ((room : ℕ) (next : Progress) (m : Gathered) (run' : List WriteRecord) → gathered state file limit left room next ≡ ok m → 0 < room → room ≤ total → length run' ≡ total
      → Follows m.room more → (m.room ≡ 0 → more ≡ []) → Stored left room next m more run')
      → Stored (suc left) (suc others) p g more run
  step_stored_lem left others p g more run step within long follows none later = go (ltb (suc others) (length (rest_of state file step.item p.write_index))) refl step.is
    where
      go : (b : Bool) → ltb (suc others) (length (rest_of state file step.item p.write_index)) ≡ b
          → cond b (ok (record { records = take (suc others) (rest_of state file step.item p.write_index); room = 0; progress = step.stop }))
          (gathered state file limit left (suc others - length (rest_of state file step.item p.write_index)) step.next >>= λ (m : Gathered).
          ok (record { records = rest_of state file step.item p.write_index ++ m.records; room = m.room; progress = m.progress }))
          ≡ ok g
          → Stored (suc left) (suc others) p g more run
      go true e is =
          let less : suc others < length (rest_of state file step.item p.write_index) = ltb-true _ _ e in
          room_ends left (suc others) p g more run step.item step.used step.fits (omega (arith, less)) (ap (λ (x : Gathered). x.records) (sym (ok_is is))) (none (ap (λ (x : Gathered). x.room) (sym (ok_is is)))) within long
      go false e is =
          let m = through (gathered state file limit left (suc others - length (rest_of state file step.item p.write_index)) step.next) _ is in
          let records = ap (λ (x : Gathered). x.records) (sym (ok_is m.then)) in
          let room = ap (λ (x : Gathered). x.room) (ok_is m.then) in
          ends (leb (suc others) (length (rest_of state file step.item p.write_index))) refl (ltb-false _ _ e) m.value m.is records room
        where
          ends : (b : Bool) → leb (suc others) (length (rest_of state file step.item p.write_index)) ≡ b
              → length (rest_of state file step.item p.write_index) ≤ suc others → (m : Gathered)
              → gathered state file limit left (suc others - length (rest_of state file step.item p.write_index)) step.next ≡ ok m
              → g.records ≡ rest_of state file step.item p.write_index ++ m.records → m.room ≡ g.room → Stored (suc left) (suc others) p g more run
          ends true e fits m is records room =
              let enough : suc others ≤ length (rest_of state file step.item p.write_index) = leb-true _ _ e in
              let full : suc others - length (rest_of state file step.item p.write_index) ≡ 0 = omega arith in
              let no = gathered_full state file limit left step.next m (rw full at is) in
              room_ends left (suc others) p g more run step.item step.used step.fits enough
              (records ∙ ap (λ (l : List WriteRecord). rest_of state file step.item p.write_index ++ l) no.0 ∙ append-nil _ ∙ sym (take_all (suc others) (rest_of state file step.item p.write_index) fits))
              (none (sym room ∙ no.1)) within long
          ends false e fits m is records room =
              let less : length (rest_of state file step.item p.write_index) < suc others = leb-false _ _ e in
              others_follow left (suc others) p step.next g m more run step.item step.used step.fits step.next_cursor step.next_writes less records within long (λ run' long'.
              later (suc others - length (rest_of state file step.item p.write_index)) step.next m run' is (omega (arith, less)) (omega (arith, within)) long'
              (λ cursor done run''. rw room (follows cursor done run'')) (λ z. none (sym room ∙ z)))

  pub part_stored : (left room : ℕ) (p : Progress) (g : Gathered) (more run : List WriteRecord) → gathered state file limit left room p ≡ ok g → 0 < room → room ≤ total
      → length run ≡ total → Follows g.room more → (g.room ≡ 0 → more ≡ []) → Stored left room p g more run
  unfolding gathered
  part_stored zero room p g more run e some within long follows none =
      none_left room p g more run (ap (λ (x : Gathered). x.records) (sym (ok_is e))) (ap (λ (x : Gathered). x.room) (sym (ok_is e))) some within long follows
  part_stored (suc left) zero p g more run e some within long follows none = absurd (omega arith)
  part_stored (suc left) (suc others) p g more run e some within long follows none =
      step_stored_lem left others p g more run (step_of state file limit left others p g e) within long follows none
      (λ room next m run' e' some' within' long' follows' none'. part_stored left room next m more run' e' some' within' long' follows' none')
