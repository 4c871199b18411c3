-- Lists of calls, and a listener that is fed their answers.
use Rattle.std.specs.Prelude.{ℕ, zero, suc, ◌+◌, ◌-◌, ◌/◌, max, Bool, true, false, cond, List, [], ◌∷◌, ◌++◌, ◌≡◌, replicate}
use Rattle.base_format.specs.declared.player.StreamPlayer.{StreamPlayer}
use Rattle.base_format.specs.declared.operation.WriteRecord.{WriteRecord}
use Rattle.base_format.specs.Checked.{Checked, ok, refused}
use Rattle.base_format.specs.Compare.{core_writes, played}
use Rattle.base_format.specs.Player.{Played, call}
use Rattle.base_format.specs.Stream.{Stream}
use Rattle.base_format.specs.Writes.{vsync}
use Rattle.base_format.specs.Size.{pcm_size}

-- CALLS

-- the file that a call is lent, and how many records its run holds
pub record Call : Type 0 where
  pub file : List ℕ
  pub room : ℕ

-- the state that an answer leaves: a refused call changes nothing
abbrev pub after : StreamPlayer → Checked Played → StreamPlayer
after state (ok answer) = answer.next
after state (refused number place) = state

-- each call gets the state "as the call before left it"
unfoldable pub answers : StreamPlayer → List Call → List (Checked Played)
answers state [] = []
answers state (c ∷ calls) = call state c.file c.room ∷ answers (after state (call state c.file c.room)) calls

-- the state after them
unfoldable pub reached : StreamPlayer → List Call → StreamPlayer
reached state [] = state
reached state (c ∷ calls) = reached (after state (call state c.file c.room)) calls

-- so many calls with one file and one room
abbrev pub same_calls : List ℕ → (room count : ℕ) → List Call
same_calls file room count = replicate count (record { file = file; room = room })

-- a call gets the player's own file, or "any bytes if 25 refuses them or the state is finished"
pub data Admissible (own : List ℕ) (state : StreamPlayer) (c : Call) : Type 0 where
  own_file : c.file ≡ own → Admissible own state c
  refused_bytes : call state c.file c.room ≡ refused 25 0 → Admissible own state c
  finished_state : state.progress.finished ≡ true → Admissible own state c

abbrev pub AllAdmissible : (own : List ℕ) → StreamPlayer → List Call → Type 0
AllAdmissible own state [] = Unit {0}
AllAdmissible own state (c ∷ calls) = Admissible own state c × AllAdmissible own (after state (call state c.file c.room)) calls

-- WHAT THE ANSWERS SAY

-- how many vsyncs are completed
unfoldable pub completed : List (Checked Played) → ℕ
completed [] = 0
completed (refused number place ∷ more) = completed more
completed (ok answer ∷ more) = cond answer.complete (suc (completed more)) (completed more)

-- no further vsync is begun: "its last call not refused, if any, said complete"
unfoldable pub resting : (last : Bool) → List (Checked Played) → Bool
resting last [] = last
resting last (refused number place ∷ more) = resting last more
resting last (ok answer ∷ more) = resting answer.complete more

abbrev pub begun_no_further : List (Checked Played) → Bool
begun_no_further = resting true

-- "each vsync's records, over its calls", for each vsync that is completed; some of the first may be there already
unfoldable pub records_from : (current : List WriteRecord) → List (Checked Played) → List (List WriteRecord)
records_from current [] = []
records_from current (refused number place ∷ more) = records_from current more
records_from current (ok answer ∷ more) =
    cond answer.complete ((current ++ answer.records) ∷ records_from [] more) (records_from (current ++ answer.records) more)

abbrev pub vsync_records : List (Checked Played) → List (List WriteRecord)
vsync_records = records_from []

-- and the records of the vsync that is begun and not completed
unfoldable pub under_way_from : (current : List WriteRecord) → List (Checked Played) → List WriteRecord
under_way_from current [] = current
under_way_from current (refused number place ∷ more) = under_way_from current more
under_way_from current (ok answer ∷ more) = cond answer.complete (under_way_from [] more) (under_way_from (current ++ answer.records) more)

abbrev pub under_way : List (Checked Played) → List WriteRecord
under_way = under_way_from []

-- so many writes take "W/n calls rounded up, at least one"
unfoldable pub calls_for : (writes room : ℕ) → ℕ
calls_for writes room = max 1 ((writes + (room - 1)) / room)

-- the writes of so many vsyncs from one on, by the sheet's rules
unfoldable pub vsyncs_from : Stream → (k count : ℕ) → List (List WriteRecord)
vsyncs_from s k zero = []
vsyncs_from s k (suc count) = vsync s k ∷ vsyncs_from s (suc k) count

-- THE LISTENER

-- the register writes of each vsync that has ended, those of the vsync under way, and PCM memory
pub record Listener : Type 0 where
  pub ended : List (List WriteRecord)
  pub current : List WriteRecord
  pub pcm : List ℕ

-- no vsync's writes "at first", and PCM memory of "1,048,576 bytes of 0x80"
unfoldable pub new_listener : Listener
new_listener = record { ended = []; current = []; pcm = replicate pcm_size 0x80 }

-- "complete ends the vsync"
abbrev pub ending : Bool → Listener → Listener
ending true l = record { ended = l.ended ++ (l.current ∷ []); current = []; pcm = l.pcm }
ending false l = l

-- a record to a core "joins the current vsync's" writes; "one to target 2 puts its value at its address"; "a refused call changes nothing"
unfoldable pub heard : Listener → Checked Played → Listener
heard l (refused number place) = l
heard l (ok answer) =
    ending answer.complete (record { ended = l.ended; current = l.current ++ core_writes answer.records; pcm = played l.pcm answer.records })

unfoldable pub heard_all : Listener → List (Checked Played) → Listener
heard_all l [] = l
heard_all l (answer ∷ more) = heard_all (heard l answer) more
