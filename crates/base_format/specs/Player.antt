-- One vsync call of a player, on any state and any bytes.
use Rattle.std.specs.Prelude.{ℕ, zero, suc, ◌+◌, ◌*◌, ◌-◌, ◌/◌, Bool, true, false, cond, not, ◌&&◌, ◌||◌, List, [], ◌∷◌, ◌++◌, length, set, take, drop, eqb, leb, ltb}
use Rattle.base_format.specs.declared.card.CardRequirement.{CardRequirement}
use Rattle.base_format.specs.declared.header.Header.{Header}
use Rattle.base_format.specs.declared.operation.Operation.{Operation}
use Rattle.base_format.specs.declared.operation.Operation.TheVariants.{Write, Fill, Copy}
use Rattle.base_format.specs.declared.player.Part.{Part}
use Rattle.base_format.specs.declared.player.Part.TheVariants.{Between, Opening, Frame, Closing}
use Rattle.base_format.specs.declared.player.Progress.{Progress}
use Rattle.base_format.specs.declared.player.StreamPlayer.{StreamPlayer}
use Rattle.base_format.specs.declared.player.WaveSource.{WaveSource}
use Rattle.base_format.specs.declared.operation.WriteRecord.{WriteRecord}
use Rattle.base_format.specs.Bytes.{be, part}
use Rattle.base_format.specs.Card.{one_card_wrong}
use Rattle.base_format.specs.Checked.{Checked, ok, refused, refuse, ◌>>=◌, ◌>>◌}
use Rattle.base_format.specs.Operation.{Setting, setting_of, Item, item_at}
use Rattle.base_format.specs.Pool.{pool_at}
use Rattle.base_format.specs.Stream.{opening_limit}
use Rattle.base_format.specs.Target.{slot_of}
use Rattle.base_format.specs.Writes.{writes_with, target_number, closing_writes}
use Rattle.base_format.specs.Lent.{lent_after}
use Rattle.base_format.specs.State.{between_at, opening_from, frame_from, closing_behind, onward_to, progress_at, position_of, part_of, moved}
use Rattle.base_format.specs.Next.{next_part, by_next}
use Rattle.base_format.specs.Size.{entry_size}

-- WHAT A CALL READS

-- the rules 13 to 19 go by the state and the lent file
abbrev pub setting_in : StreamPlayer → List ℕ → Setting
setting_in state file = setting_of file state.header state.cards

-- rule 7 for the card that has a slot; where none has it, rule 15 refuses
unfoldable pub slot_wrong : List CardRequirement → (slot : ℕ) → Bool
slot_wrong [] slot = false
slot_wrong (card ∷ cards) slot = cond (eqb card.slot slot) (one_card_wrong card) (slot_wrong cards slot)

-- rule 7 for the target of an operation
unfoldable pub card_used : Setting → (target : ℕ) → Checked (Unit {0})
card_used setting target =
    refuse 7 0 (eqb setting.version 4 && leb 3 target && leb target 10 && slot_wrong setting.cards (slot_of target))

-- rules 9 and 11 for the pool of a COPY
unfoldable pub pool_used : List ℕ → (directory pools id : ℕ) → Checked (Unit {0})
pool_used file directory pools id = do
  refuse 9 0 (ltb (length file) (directory + pools * entry_size))
  refuse 11 0 (ltb (length file) ((pool_at file directory id).offset + (pool_at file directory id).size))

unfoldable pub pools_used : List ℕ → (directory pools : ℕ) → Operation → Checked (Unit {0})
pools_used file directory pools (Write target address value) = ok tt
pools_used file directory pools (Fill target address size value) = ok tt
pools_used file directory pools (Copy target address id source size) = pool_used file directory pools id

-- an operation that writes are taken from, by the rules 13 to 19, 7, 9 and 11
unfoldable pub item_used : StreamPlayer → List ℕ → (limit at : ℕ) → Checked Item
item_used state file limit at = do
  item ← item_at (setting_in state file) file limit at
  card_used (setting_in state file) (target_number item.operation)
  pools_used file state.header.directory_offset state.header.pool_count item.operation
  ok item

-- the bytes of a pool, where its entry says that they lie
abbrev pub bytes_at : List ℕ → (directory id : ℕ) → List ℕ
bytes_at file directory id = part file (pool_at file directory id).offset (pool_at file directory id).size

-- OPERATIONS

-- the wave sources once an operation's first write is made: a kind 1 COPY sets one
unfoldable pub waves_by : List ℕ → (directory : ℕ) → Operation → List WaveSource → List WaveSource
waves_by file directory (Write target address value) waves = waves
waves_by file directory (Fill target address size value) waves = waves
waves_by file directory (Copy target address id source size) waves =
    cond (eqb (pool_at file directory id).kind 1) (set waves (target * 8 + address / 256) (record { copied = true; pool = id })) waves

-- the progress at a cursor, with so many operations done, and so many writes of the operation at the cursor
abbrev pub placed : Progress → (cursor operations writes : ℕ) → List WaveSource → Progress
placed p cursor operations writes waves = progress_at (onward_to (position_of p) cursor operations writes) p.initialized p.finished waves

-- records taken, the room that is left, and the progress
pub record Gathered : Type 0 where
  pub records : List WriteRecord
  pub room : ℕ
  pub progress : Progress

-- the writes of the part's operations that are left, as many as there is room for; without room nothing is read
unfoldable pub gathered : StreamPlayer → List ℕ → (limit left room : ℕ) → Progress → Checked Gathered
gathered state file limit zero room p = ok (record { records = []; room = room; progress = p })
gathered state file limit (suc left) zero p = ok (record { records = []; room = 0; progress = p })
gathered state file limit (suc left) (suc others) p = do
  let room = suc others
  item ← item_used state file limit p.cursor
  let writes = writes_with (bytes_at file state.header.directory_offset) item.operation
  refuse 25 0 (ltb (length writes) p.write_index)
  let rest = drop p.write_index writes
  let waves = cond (eqb p.write_index 0) (waves_by file state.header.directory_offset item.operation p.wave_sources) p.wave_sources
  cond (ltb room (length rest)) (ok (record { records = take room rest; room = 0; progress = placed p p.cursor p.operation_index (p.write_index + room) waves })) do
    more ← gathered state file limit left (room - length rest) (placed p item.next (p.operation_index + 1) 0 waves)
    ok (record { records = rest ++ more.records; room = more.room; progress = more.progress })

-- THE PARTS OF A VSYNC

-- an answer that is not refused
pub record Played : Type 0 where
  pub records : List WriteRecord
  pub complete : Bool
  pub next : StreamPlayer

abbrev pub opening_begun : Header → Progress → Progress
opening_begun header p = progress_at (opening_from header) false false p.wave_sources

abbrev pub frame_start : List ℕ → (cursor frame : ℕ) → Progress → Progress
frame_start file cursor frame p = progress_at (frame_from (cursor + 2) (be 2 file cursor) (frame + 1)) true false p.wave_sources

-- a frame, counted from 0: its count is read at the cursor
unfoldable pub frame_begun : List ℕ → (cursor frame : ℕ) → Progress → Checked Progress
frame_begun file cursor frame p = do
  refuse 14 cursor (ltb (length file) (cursor + 2))
  ok (frame_start file cursor frame p)

abbrev pub frame_ended : Progress → Progress
frame_ended p = progress_at (between_at p.cursor p.frame_index) true false p.wave_sources

abbrev pub closing_at : (writes : ℕ) → (finished : Bool) → Progress → Progress
closing_at writes finished p = progress_at (closing_behind p.cursor writes p.frame_index) true finished p.wave_sources

abbrev pub operations_left : Progress → ℕ
operations_left p = p.operation_count - p.operation_index

unfoldable pub play_frame : StreamPlayer → List ℕ → (room : ℕ) → Progress → Checked Played
play_frame state file room p = do
  taken ← gathered state file (length file) (operations_left p) room p
  let done = eqb (operations_left taken.progress) 0
  ok (record { records = taken.records; complete = done; next = moved state (cond done (frame_ended taken.progress) taken.progress) })

-- frame 1's count is read "by the call that finishes the opening"
unfoldable pub play_opening : StreamPlayer → List ℕ → (room : ℕ) → Progress → Checked Played
play_opening state file room p = do
  taken ← gathered state file (opening_limit state.header file) (operations_left p) room p
  cond (not (eqb (operations_left taken.progress) 0)) (ok (record { records = taken.records; complete = false; next = moved state taken.progress })) do
    frame ← frame_begun file state.header.frame_start 0 taken.progress
    more ← play_frame state file taken.room frame
    ok (record { records = taken.records ++ more.records; complete = more.complete; next = more.next })

unfoldable pub play_closing : StreamPlayer → (room : ℕ) → Progress → Checked Played
play_closing state room p = do
  let writes = closing_writes state.uses_si22
  refuse 25 0 (ltb (length writes) p.write_index)
  let rest = drop p.write_index writes
  let done = leb (length rest) room
  ok (record { records = take room rest; complete = done; next = moved state (closing_at (p.write_index + length (take room rest)) done p) })

-- the part that is under way goes on; between vsyncs the next one begins
unfoldable pub play : StreamPlayer → List ℕ → (room : ℕ) → Progress → Part → Checked Played
play state file room p Opening = play_opening state file room p
play state file room p Frame = play_frame state file room p
play state file room p Closing = play_closing state room p
play state file room p Between =
    by_next (next_part state.header p) (play_opening state file room (opening_begun state.header p))
    (λ (place frame : ℕ). frame_begun file place frame p >>= play_frame state file room)
    (play_closing state room (closing_at 0 false p))

-- ONE CALL

-- what 25 says of state and length alone: "the length is not the recorded total size", "the state's version or card count breaks 3 or 5", "a
-- place in the state exceeds the file's length", "a counter in it exceeds the count it runs up to"
unfoldable pub belongs : StreamPlayer → List ℕ → Checked (Unit {0})
belongs state file = do
  let header = state.header
  let p = state.progress
  refuse 25 0 (not (eqb (length file) header.total_size))
  refuse 25 0 (eqb header.version 0 || ltb 4 header.version || ltb 8 header.card_count || ltb 8 state.cards.count)
  refuse 25 0 (ltb (length file) p.cursor || ltb (length file) header.initial_start || ltb (length file) header.frame_start || ltb (length file) header.directory_offset)
  refuse 25 0 (ltb header.frame_count p.frame_index || ltb p.operation_count p.operation_index)

-- whatever fails while a call reads its file is 25, at place 0
abbrev pub as25 : {A : Type 0} → Checked A → Checked A
as25 (ok a) = ok a
as25 (refused number place) = refused 25 0

-- a call on a finished state "reads no file and never gives 25"
unfoldable pub call : StreamPlayer → (file : List ℕ) → (room : ℕ) → Checked Played
call state file room =
    cond state.progress.finished (ok (record { records = []; complete = true; next = state }))
    (as25 (belongs state file >> play state file room state.progress (part_of state.progress.part)))

-- the lent run after a call: the records are in front, and the call "touches no later record"
abbrev pub run_after : List WriteRecord → Checked Played → List WriteRecord
run_after run answer = lent_after (λ (played : Played). played.records) answer run
