-- The lent run while a call's records are stored.
use Rattle.std.specs.Prelude.{ℕ, zero, suc, cond, List, eqb, length}
use Rattle.base_format.specs.declared.operation.WriteRecord.{WriteRecord}
use Rattle.base_format.specs.declared.player.StreamPlayer.{StreamPlayer}
use Rattle.play_segments.specs.declared.place.Place.{Place}
use Rattle.play_segments_first.specs.First.{first_place}
use Rattle.play_segments.specs.Turn.{turn}
use Rattle.play_store_segment.specs.Segment.{segment_stored}

-- so many turns at most, until nothing is left
unfoldable pub stored_in : (turns : ℕ) → List ℕ → StreamPlayer → Place → List WriteRecord → List WriteRecord
stored_in zero file state place run = run
stored_in (suc turns) file state place run =
    let next = turn file state place in
    cond (eqb place.left 0) run (stored_in turns file state next.place (segment_stored file next.segment next.at run))

-- what is still to be stored from a place on: each turn leaves less than there was
unfoldable pub stored_from : List ℕ → StreamPlayer → Place → List WriteRecord → List WriteRecord
stored_from file state place run = stored_in place.left file state place run

-- the run after a call that takes so many records
unfoldable pub stored_call : List ℕ → StreamPlayer → (count : ℕ) → List WriteRecord → List WriteRecord
stored_call file state count run = stored_from file state (first_place file state count (length run)) run
