-- What a list of answers comes to, vsync by vsync.
use Prim.Native.Nat.{ℕ}
use mathlib.Core.Bool.{Bool, true, false, cond, false≢true}
use mathlib.Core.List.{List, [], ◌∷◌, ◌++◌}
use mathlib.Core.Path.{◌≡◌, refl}
use lib.Dec.{leb}
use lib.ListN.{length, take, drop}
use Rattle.base_format.specs.declared.player.StreamPlayer.{StreamPlayer}
use Rattle.base_format.specs.declared.operation.WriteRecord.{WriteRecord}
use Rattle.base_format.specs.Checked.{Checked, ok, refused}
use Rattle.base_format.specs.Compare.{core_writes, played}
use Rattle.base_format.specs.Listener.{answers, resting, records_from, Listener, ending, heard, heard_all}
use Rattle.base_format.specs.Player.{Played, call}
use Rattle.base_format.specs.Stream.{Stream}
use Rattle.base_format.specs.Writes.{vsync_behind, writes_in}
use Rattle.base_format.proofs.Equal.{core_append, played_append}
use Rattle.theorem_same_sound.proofs.Course.{Due, next_due}
use Rattle.theorem_same_sound.proofs.Phases.{Holds}

-- ONE CALL

-- what a call with its own file gives where `rest` remains of the vsync that begins with `d`: as much of it as there is room for, complete
-- where that is all, and a state at which the remainder, or the next vsync, remains
pub record Goes (file : List ℕ) (s : Stream) (d : Due) (rest : List WriteRecord) (room : ℕ) (answer : Checked Played) : Type 0 where
  pub next : StreamPlayer
  pub is : answer ≡ ok (record { records = take room rest; complete = leb (length rest) room; next = next })
  pub holds : Holds file s next (cond (leb (length rest) room) (next_due file s d) d) (cond (leb (length rest) room) (writes_in s (vsync_behind d.which)) (drop room rest))

-- a finished state answers whatever file it is lent
pub finished_any : (state : StreamPlayer) (file file' : List ℕ) (room : ℕ) → state.progress.finished ≡ true → call state file room ≡ call state file' room
unfolding call
finished_any state file file' room h = rw h

-- THE LISTENER

-- a listener that heard whole vsyncs
unfoldable pub heard_vsyncs : Listener → List (List WriteRecord) → Listener
heard_vsyncs l [] = l
heard_vsyncs l (v ∷ vs) = heard_vsyncs (record { ended = l.ended ++ (core_writes v ∷ []); current = []; pcm = played l.pcm v }) vs

-- the listener's state inside a vsync of which it heard some records
abbrev inside : List (List WriteRecord) → List ℕ → List WriteRecord → Listener
inside ended pcm current = record { ended = ended; current = core_writes current; pcm = played pcm current }

-- and between vsyncs
abbrev pub between : List (List WriteRecord) → List ℕ → Listener
between ended pcm = record { ended = ended; current = []; pcm = pcm }

abbrev Whole : List (Checked Played) → Type 0
Whole answers =
    (last : Bool) (ended : List (List WriteRecord)) (pcm : List ℕ) (current : List WriteRecord) → (last ≡ true → current ≡ []) → resting last answers ≡ true
    → heard_all (inside ended pcm current) answers ≡ heard_vsyncs (between ended pcm) (records_from current answers)

ended_whole : (answer : Played) (more : List (Checked Played)) → Whole more
    → (done : Bool) (ended : List (List WriteRecord)) (pcm : List ℕ) (current : List WriteRecord) → resting done more ≡ true
    → heard_all (ending done (record {
      ended = ended;
      current = core_writes current ++ core_writes answer.records;
      pcm = played (played pcm current) answer.records;
    })) more
    ≡ heard_vsyncs (between ended pcm) (cond done ((current ++ answer.records) ∷ records_from [] more) (records_from (current ++ answer.records) more))
unfolding heard_vsyncs core_writes played
ended_whole answer more whole true ended pcm current h =
    rw (← core_append, ← played_append) (whole true (ended ++ (core_writes (current ++ answer.records) ∷ [])) (played pcm (current ++ answer.records)) [] (λ e. refl) h)
ended_whole answer more whole false ended pcm current h =
    rw (← core_append, ← played_append) (whole false ended pcm (current ++ answer.records) (λ e. absurd (false≢true e)) h)

-- where no further vsync is begun, the listener heard the vsyncs whole
pub heard_whole : (answers : List (Checked Played)) → Whole answers
unfolding heard_all heard heard_vsyncs resting records_from core_writes played
heard_whole [] last ended pcm current none rest = rw (none rest)
heard_whole (refused number place ∷ more) last ended pcm current none rest = heard_whole more last ended pcm current none rest
heard_whole (ok answer ∷ more) last ended pcm current none rest = ended_whole answer more (heard_whole more) answer.complete ended pcm current rest
