-- The run after the closing writes.
use Prim.Native.Nat.{ℕ, zero, suc, ◌+◌, ◌-◌, ◌%◌, ◌≤◌, ◌<◌}
use mathlib.Core.Bool.{Bool, true, false, cond, false≢true}
use mathlib.Core.List.{List, [], ◌∷◌}
use mathlib.Core.Path.{◌≡◌, refl, sym, ap, ◌∙◌}
use native.Mathlib.Omega.{arith}
use borrow.Author.Tests.{lt-leb}
use lib.Dec.{eqb, ltb}
use lib.ListN.{length, take, drop}
use lib.Seq.{take-nil}
use Rattle.base_format.specs.declared.operation.WriteRecord.{WriteRecord}
use Rattle.base_format.specs.declared.player.Progress.{Progress}
use Rattle.base_format.specs.declared.player.StreamPlayer.{StreamPlayer}
use Rattle.base_format.specs.Checked.{ok}
use Rattle.base_format.specs.Player.{Played, play_closing}
use Rattle.base_format.specs.Writes.{write, upward, silence, closing_writes, closing_count}
use Rattle.base_format.proofs.Checks.{passed_test, ok_is}
use Rattle.play_segments.specs.declared.place.Place.{Place}
use Rattle.play_segments.specs.declared.place.Turn.{Turn}
use Rattle.play_segments_first.specs.First.{closing_from}
use Rattle.play_segments.specs.Closing.{zero_to, closing_segment}
use Rattle.play_segments.specs.Place.{stopped}
use Rattle.play_segments.specs.Turn.{closing_turn, turn}
use Rattle.play_store_segment.specs.declared.Segment.{Segment}
use Rattle.play_store_segment.specs.Segment.{inserted, segment_stored}
use Rattle.play_store_segment.proofs.Lists.{inserted_none, length_inserted}
use Rattle.play_store_segment.proofs.Segments.{stored_all}
use Rattle.play_store.specs.Stored.{stored_from}
use Rattle.play_store.proofs.Storing.{stored_none, stored_step}
use Rattle.play_store.proofs.Parts.{inserted_twice}

-- THE WRITES

-- the closing write of an index
abbrev record_at : (index : ℕ) → WriteRecord
record_at index = write (closing_segment index).target (closing_segment index).address 0

-- the last so many of the 33
closing_last : (left : ℕ) → List WriteRecord
closing_last zero = []
closing_last (suc left) = record_at (33 - suc left) ∷ closing_last left

closing_last_lem : (synth : Bool) → closing_last (closing_count synth) ≡ closing_writes synth
unfolding closing_last closing_segment closing_writes silence
closing_last_lem true = refl
closing_last_lem false = refl

drop_last : (n left : ℕ) → drop n (closing_last left) ≡ closing_last (left - n)
unfolding closing_last
drop_last zero left =
    let all : left ≡ left - 0 = omega arith in
    ap closing_last all
drop_last (suc n) zero =
    let none : 0 ≡ 0 - suc n = omega arith in
    ap closing_last none
drop_last (suc n) (suc left) =
    let fewer : left - n ≡ suc left - suc n = omega arith in
    drop_last n left ∙ ap closing_last fewer

-- each is a segment of one record, at a small address
abbrev One : Segment → Type 0
One segment = (segment ≡ zero_to segment.target segment.address) × (segment.address < 0x1000)

either_one : (b : Bool) (s t : Segment) → One s → One t → One (cond b s t)
either_one true s t h h' = h
either_one false s t h h' = h'

one_record : (index : ℕ) → One (closing_segment index)
unfolding closing_segment
one_record index = either_one (eqb index 0) _ _ (refl, omega arith) (either_one (eqb ((index - 1) % 2) 0) _ _ (refl, omega arith) (refl, omega arith))

module _ (file : List ℕ) (state : StreamPlayer) (total : ℕ) where
  -- so many closing writes
  abbrev closing_rest : (left room : ℕ) → Place
  closing_rest left room = record { closing = true; left = left; opening = 0; after = 0; cursor = 0; done = 0; total = total; room = room }

  one_stored : (index at : ℕ) (run : List WriteRecord) → at + 1 ≤ length run → segment_stored file (closing_segment index) at run ≡ inserted at (record_at index ∷ []) run
  unfolding upward
  one_stored index at run fits =
      let one = one_record index in
      ap (λ (s : Segment). segment_stored file s at run) one.0
      ∙ stored_all file (zero_to (closing_segment index).target (closing_segment index).address) at run (λ some. record { inside = fits; addresses = omega (arith, one.1); bytes = λ copied. absurd (false≢true copied) })

  -- a turn: the last one that there is room for, or one of several
  turn_last : (left : ℕ) → turn file state (closing_rest (suc left) 1) ≡ record { at = total - 1; segment = closing_segment (33 - suc left); place = stopped (closing_rest (suc left) 1) }
  unfolding turn closing_turn
  turn_last left = refl

  turn_more : (left room : ℕ) → turn file state (closing_rest (suc left) (suc (suc room))) ≡ record { at = total - suc (suc room); segment = closing_segment (33 - suc left); place = closing_rest left (suc room) }
  unfolding turn closing_turn
  turn_more left room =
      let fewer : suc left - 1 ≡ left = omega arith in
      let less : suc (suc room) - 1 ≡ suc room = omega arith in
      rw (lt-leb (suc (suc room)) 1 (omega arith), fewer, less)

  rest_stored : (left room : ℕ) (run : List WriteRecord) → 0 < room → room ≤ total → length run ≡ total → stored_from file state (closing_rest left room) run ≡ inserted (total - room) (take room (closing_last left)) run
  unfolding closing_last
  rest_stored zero room run some within long =
      stored_none file state (closing_rest 0 room) run refl ∙ sym (inserted_none run (total - room)) ∙ ap (λ (l : List WriteRecord). inserted (total - room) l run) (sym (take-nil room))
  rest_stored (suc left) zero run some within long = absurd (omega arith)
  rest_stored (suc left) (suc zero) run some within long =
      stored_step file state (closing_rest (suc left) 1) run (omega arith)
      ∙ ap (λ (t : Turn). stored_from file state t.place (segment_stored file t.segment t.at run)) (turn_last left)
      ∙ stored_none file state (stopped (closing_rest (suc left) 1)) _ refl
      ∙ one_stored (33 - suc left) (total - 1) run (omega arith)
  rest_stored (suc left) (suc (suc room)) run some within long =
      let one : List WriteRecord = record_at (33 - suc left) ∷ [] in
      let run' : List WriteRecord = inserted (total - suc (suc room)) one run in
      let long' : length run' ≡ total = length_inserted run (total - suc (suc room)) one (omega arith) ∙ long in
      let place : total - suc room ≡ total - suc (suc room) + 1 = omega arith in
      stored_step file state (closing_rest (suc left) (suc (suc room))) run (omega arith)
      ∙ ap (λ (t : Turn). stored_from file state t.place (segment_stored file t.segment t.at run)) (turn_more left room)
      ∙ ap (λ (l : List WriteRecord). stored_from file state (closing_rest left (suc room)) l) (one_stored (33 - suc left) (total - suc (suc room)) run (omega arith))
      ∙ rest_stored left (suc room) run' (omega arith) (omega arith) long'
      ∙ ap (λ (k : ℕ). inserted k (take (suc room) (closing_last left)) run') place
      ∙ inserted_twice (total - suc (suc room)) one (take (suc room) (closing_last left)) run (omega arith)

  pub closing_stored : (p : Progress) (a : Played) (run : List WriteRecord) → play_closing state total p ≡ ok a → 0 < total → length run ≡ total
      → stored_from file state (closing_from state p.write_index total) run ≡ inserted (total - total) a.records run
  unfolding play_closing
  closing_stored p a run e some long =
      let b = passed_test 25 0 (ltb (length (closing_writes state.uses_si22)) p.write_index) e in
      let records : take total (drop p.write_index (closing_writes state.uses_si22)) ≡ a.records = ap (λ (x : Played). x.records) (ok_is b.1) in
      rest_stored (closing_count state.uses_si22 - p.write_index) total run some (omega arith) long
      ∙ ap (λ (l : List WriteRecord). inserted (total - total) (take total l) run) (sym (drop_last p.write_index (closing_count state.uses_si22)) ∙ ap (drop p.write_index) (closing_last_lem state.uses_si22))
      ∙ ap (λ (l : List WriteRecord). inserted (total - total) l run) records
