-- The operations of a part: what is stored from the place before them is what `gathered` takes, and then what follows the part.
use Prim.Native.Nat.{ℕ, zero, suc, ◌+◌, ◌-◌, ◌≤◌, ◌<◌}
use mathlib.Core.Bool.{false, cond}
use mathlib.Core.List.{List, [], ◌++◌, append_assoc}
use mathlib.Core.Path.{◌≡◌, refl, sym, ap, ◌∙◌}
use native.Mathlib.Omega.{arith}
use borrow.Author.Tests.{ltb-false, le-ltb, le-leb, lt-leb}
use lib.Dec.{eqb, ltb}
use lib.ListN.{length, take, drop, length-append, length-take}
use lib.Seq.{take_at, drop-drop, drop-append-add}
use Rattle.base_format.specs.declared.operation.Item.{Item}
use Rattle.base_format.specs.declared.operation.Operation.{Operation}
use Rattle.base_format.specs.declared.operation.WriteRecord.{WriteRecord}
use Rattle.base_format.specs.declared.player.Progress.{Progress}
use Rattle.base_format.specs.declared.player.StreamPlayer.{StreamPlayer}
use Rattle.base_format.specs.declared.player.WaveSource.{WaveSource}
use Rattle.base_format.specs.Checked.{ok, ◌>>=◌}
use Rattle.base_format.specs.Operation.{item_at}
use Rattle.play_laws.specs.Plan.{count_of, address_of}
use Rattle.base_format.specs.Player.{setting_in, item_used, bytes_at, waves_by, placed, Gathered, gathered}
use Rattle.base_format.specs.Writes.{writes_with}
use Rattle.base_format.proofs.Checks.{through, passed_test, ok_is}
use Rattle.play_segments.specs.declared.place.Place.{Place}
use Rattle.play_segments.specs.Operation.{unplayable, segment_from}
use Rattle.play_segments.specs.Place.{stopped, onward}
use Rattle.play_segments.specs.Turn.{turn, operation_turn}
use Rattle.play_store_segment.specs.Segment.{inserted}

-- LISTS

-- one run of elements behind the other
pub inserted_twice : {A : Type 0} (at : ℕ) (a b old : List A) → at ≤ length old → inserted (at + length a) b (inserted at a old) ≡ inserted at (a ++ b) old
inserted_twice at a b old within =
    let front : length (take at old ++ a) ≡ at + length a = omega (arith, length-append (take at old) a, length-take at old) in
    let far : at + length a + length b ≡ at + length (a ++ b) = omega (arith, length-append a b) in
    let ends : drop (at + length a + length b) (inserted at a old) ≡ drop (at + length (a ++ b)) old =
    ap (λ (k : ℕ). drop (k + length b) (inserted at a old)) (sym front) ∙ drop-append-add (take at old ++ a) (drop (at + length a) old) (length b)
    ∙ drop-drop (length b) (at + length a) old ∙ ap (λ (k : ℕ). drop k old) far in
    ap (λ (l : List _). l ++ b ++ drop (at + length a + length b) (inserted at a old)) (take_at (take at old ++ a) (drop (at + length a) old) (at + length a) front)
    ∙ ap (λ (l : List _). take at old ++ a ++ b ++ l) ends ∙ ap (λ (l : List _). l ++ drop (at + length (a ++ b)) old) (append_assoc (take at old) a b)

-- GATHERING WITHOUT ROOM

pub gathered_full : (state : StreamPlayer) (file : List ℕ) (limit left : ℕ) (p : Progress) (g : Gathered) → gathered state file limit left 0 p ≡ ok g → (g.records ≡ []) × (g.room ≡ 0)
unfolding gathered
gathered_full state file limit zero p g e = (ap (λ (x : Gathered). x.records) (sym (ok_is e)), ap (λ (x : Gathered). x.room) (sym (ok_is e)))
gathered_full state file limit (suc left) p g e = (ap (λ (x : Gathered). x.records) (sym (ok_is e)), ap (λ (x : Gathered). x.room) (sym (ok_is e)))

-- ONE OPERATION

-- the writes of an operation that are left
abbrev pub rest_of : StreamPlayer → List ℕ → Item → (done : ℕ) → List WriteRecord
rest_of state file item done = drop done (writes_with (bytes_at file state.header.directory_offset) item.operation)

-- what `gathered` says of the next operation
pub record Step (state : StreamPlayer) (file : List ℕ) (limit left room : ℕ) (p : Progress) (g : Gathered) : Type 0 where
  pub item : Item
  pub used : item_used state file limit p.cursor ≡ ok item
  pub fits : p.write_index ≤ length (writes_with (bytes_at file state.header.directory_offset) item.operation)
  pub next : Progress
  pub next_cursor : next.cursor ≡ item.next
  pub next_writes : next.write_index ≡ 0
  pub next_index : next.operation_index ≡ p.operation_index + 1
  pub next_count : next.operation_count ≡ p.operation_count
  pub stop : Progress
  pub is :
      cond (ltb room (length (rest_of state file item p.write_index))) (ok (record { records = take room (rest_of state file item p.write_index); room = 0; progress = stop }))
      (gathered state file limit left (room - length (rest_of state file item p.write_index)) next >>= λ (more : Gathered).
      ok (record { records = rest_of state file item p.write_index ++ more.records; room = more.room; progress = more.progress }))
      ≡ ok g

pub step_of : (state : StreamPlayer) (file : List ℕ) (limit left others : ℕ) (p : Progress) (g : Gathered) → gathered state file limit (suc left) (suc others) p ≡ ok g → Step state file limit left (suc others) p g
unfolding gathered
step_of state file limit left others p g e =
    let a = through (item_used state file limit p.cursor) _ e in
    let b = passed_test 25 0 _ a.then in
    let waves : List WaveSource = cond (eqb p.write_index 0) (waves_by file state.header.directory_offset a.value.operation p.wave_sources) p.wave_sources in
    record {
      item = a.value;
      used = a.is;
      fits = ltb-false _ _ b.0;
      next = placed p a.value.next (p.operation_index + 1) 0 waves;
      next_cursor = refl;
      next_writes = refl;
      next_index = refl;
      next_count = refl;
      stop = placed p p.cursor p.operation_index (p.write_index + suc others) waves;
      is = b.1;
    }

-- a part: the places before each of its operations, and the place behind it
pub record Part (file : List ℕ) (state : StreamPlayer) (limit total : ℕ) : Type 0 where
  pub place : (left cursor done room : ℕ) → Place
  pub some : (left cursor done room : ℕ) → 0 < (place (suc left) cursor done room).left
  pub done_is : (left cursor done room : ℕ) → (place (suc left) cursor done room).done ≡ done
  pub room_is : (left cursor done room : ℕ) → (place (suc left) cursor done room).room ≡ room
  pub total_is : (left cursor done room : ℕ) → (place (suc left) cursor done room).total ≡ total
  pub turns : (left cursor done room : ℕ) (item : Item) → item_at (setting_in state file) file limit cursor ≡ ok item
      → turn file state (place (suc left) cursor done room) ≡ operation_turn file state.header.directory_offset (place (suc left) cursor done room) item.operation item.next
  pub goes : (left cursor done room next taken : ℕ) → onward (place (suc left) cursor done room) next taken ≡ place left next 0 (room - taken)

-- the turn of an operation that is not refused: its room ends within it, or it goes on
pub playable : (operation : Operation) (done : ℕ) → done ≤ count_of operation → address_of operation + count_of operation ≤ 0x2000000 → unplayable operation done ≡ false
unfolding unplayable
playable operation done h small =
    let address : address_of operation + done ≤ 0xFFFFFFFF = omega arith in
    rw (le-ltb _ _ h, le-ltb _ _ address)

pub turn_stops : (file : List ℕ) (directory : ℕ) (place : Place) (operation : Operation) (next : ℕ) → unplayable operation place.done ≡ false
    → place.room ≤ count_of operation - place.done
    → operation_turn file directory place operation next ≡ record { at = place.total - place.room; segment = segment_from file directory operation (address_of operation + place.done) place.done place.room; place = stopped place }
unfolding operation_turn
turn_stops file directory place operation next e h = rw (e, le-leb _ _ h)

pub turn_goes : (file : List ℕ) (directory : ℕ) (place : Place) (operation : Operation) (next : ℕ) → unplayable operation place.done ≡ false
    → count_of operation - place.done < place.room
    → operation_turn file directory place operation next ≡ record {
      at = place.total - place.room;
      segment = segment_from file directory operation (address_of operation + place.done) place.done (count_of operation - place.done);
      place = onward place next (count_of operation - place.done);
    }
unfolding operation_turn
turn_goes file directory place operation next e h = rw (e, lt-leb _ _ h)
