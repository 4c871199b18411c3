-- The jump (document 02, T-01): it sets a player to a frame.
use Rattle.std.specs.Prelude.{ℕ, ◌-◌, Bool, true, false, not, ◌&&◌, ◌||◌, List, [], ◌∷◌, eqb, ltb, length}
use Rattle.std.specs.Bool.{beq}
use Rattle.base_format.specs.declared.card.CardRequirement.{CardRequirement}
use Rattle.base_format.specs.declared.header.Header.{Header}
use Rattle.base_format.specs.declared.player.Part.{Part}
use Rattle.base_format.specs.declared.player.Part.TheVariants.{Between, Opening, Frame, Closing}
use Rattle.base_format.specs.declared.player.Progress.{Progress}
use Rattle.base_format.specs.declared.player.StreamPlayer.{StreamPlayer}
use Rattle.base_format.specs.Bytes.{same_bytes}
use Rattle.base_format.specs.Card.{cards_of}
use Rattle.base_format.specs.Checked.{Checked, ok, refused, refuse, mapped, ◌>>=◌, ◌>>◌}
use Rattle.base_format.specs.Header.{header_of}
use Rattle.base_format.specs.Index.{frame_place, index_of}
use Rattle.base_format.specs.Player.{belongs}
use Rattle.base_format.specs.State.{between_at, progress_at, part_of, moved}
use Rattle.base_format.specs.Stream.{Stream, read}
use Rattle.base_format.specs.Writes.{uses_si22, closing_writes}

-- THE LENT FILE AND THE STATE

unfoldable pub same_header : Header → Header → Bool
same_header a b =
    eqb a.version b.version
    && beq a.repeat b.repeat
    && eqb a.frame_period b.frame_period
    && eqb a.card_count b.card_count
    && eqb a.frame_count b.frame_count
    && eqb a.pool_count b.pool_count
    && eqb a.initial_count b.initial_count
    && eqb a.directory_offset b.directory_offset
    && eqb a.initial_start b.initial_start
    && eqb a.frame_start b.frame_start
    && eqb a.total_size b.total_size

unfoldable pub same_card : CardRequirement → CardRequirement → Bool
same_card a b =
    eqb a.slot b.slot
    && eqb a.id_length b.id_length
    && eqb a.id_offset b.id_offset
    && eqb a.bulk_start b.bulk_start
    && eqb a.bulk_length b.bulk_length
    && same_bytes a.id b.id

unfoldable pub same_cards : List CardRequirement → List CardRequirement → Bool
same_cards [] [] = true
same_cards [] (b ∷ bs) = false
same_cards (a ∷ more) [] = false
same_cards (a ∷ more) (b ∷ bs) = same_card a b && same_cards more bs

-- "the lent file's header, cards or use of target 11 differ" from those "that the state records"
unfoldable pub records_other : StreamPlayer → (file : List ℕ) → Stream → Bool
records_other state file s =
    not (same_header state.header (header_of file))
    || not (same_cards (cards_of state.cards) s.cards)
    || not (beq state.uses_si22 (uses_si22 s))

-- in the closing writes and behind them `write_index` runs up to their number
unfoldable pub closing_past : StreamPlayer → Part → Bool
closing_past state Between = false
closing_past state Opening = false
closing_past state Frame = false
closing_past state Closing = ltb (length (closing_writes state.uses_si22)) state.progress.write_index

-- 25: what a vsync call tests before it reads an operation, and what the state records
unfoldable pub jump_belongs : StreamPlayer → (file : List ℕ) → Stream → Checked (Unit {0})
jump_belongs state file s = do
  belongs state file
  refuse 25 0 (closing_past state (part_of state.progress.part))
  refuse 25 0 (records_other state file s)

-- THE JUMP

-- before a frame, counted from 0: "writes left over from a vsync are dropped", "wave sources stay", and "the opening is not played"
abbrev pub before_frame : Stream → (frame : ℕ) → Progress → Progress
before_frame s frame p = progress_at (between_at (frame_place s frame) frame) true false p.wave_sources

-- "a frame number of 0 or above the count"
abbrev pub no_frame : (frames frame : ℕ) → Bool
no_frame frames frame = eqb frame 0 || ltb frames frame

-- a jump on any state, with any file and index, to any frame number, counted from 1: the refusals 1 to 20, 25, 26, 27
unfoldable pub jumped : StreamPlayer → (file index : List ℕ) → (frame : ℕ) → Checked StreamPlayer
jumped state file index frame = do
  s ← read file
  jump_belongs state file s
  refuse 26 0 (not (same_bytes index (index_of s)))
  refuse 27 0 (no_frame (length s.frames) frame)
  ok (moved state (before_frame s (frame - 1) state.progress))

-- what it says
abbrev pub jump_said : StreamPlayer → (file index : List ℕ) → (frame : ℕ) → Checked (Unit {0})
jump_said state file index frame = mapped (λ (next : StreamPlayer). tt) (jumped state file index frame)

-- the lent state after it: a refused jump changes nothing
abbrev pub state_after : StreamPlayer → Checked StreamPlayer → StreamPlayer
state_after state (ok next) = next
state_after state (refused number place) = state
