-- A player's state, and the state that a start gives.
use Rattle.std.specs.Prelude.{ℕ, ◌+◌, ◌*◌, ◌-◌, Bool, true, false, cond, ◌&&◌, List, [], ◌++◌, length, get_or, replicate, ltb, Option, Some, None}
use Rattle.base_format.specs.declared.card.CardRequirement.{CardRequirement}
use Rattle.base_format.specs.declared.card.CardTable.{CardTable}
use Rattle.base_format.specs.declared.player.Part.TheVariants.{Between, Opening, Frame, Closing}
pub use Rattle.base_format.specs.Part.{part_number, part_of}
use Rattle.base_format.specs.declared.header.Header.{Header}
use Rattle.base_format.specs.declared.player.Position.{Position}
use Rattle.base_format.specs.declared.player.Progress.{Progress}
use Rattle.base_format.specs.declared.player.StreamPlayer.{StreamPlayer}
use Rattle.base_format.specs.declared.player.WaveSource.{WaveSource}
use Rattle.base_format.specs.Checked.{Checked, ok, refused}
use Rattle.base_format.specs.Header.{header_of}
use Rattle.base_format.specs.Stream.{Stream, read}
use Rattle.base_format.specs.Writes.{uses_si22}

-- a card that is all 0
abbrev pub no_card : CardRequirement
no_card = record { slot = 0; id_length = 0; id_offset = 0; bulk_start = 0; bulk_length = 0; id = replicate 16 0 }

-- "eight cards by value with a count", and those beyond it are all 0
unfoldable pub table_of : List CardRequirement → CardTable
table_of cards = record { cards = cards ++ replicate (8 - length cards) no_card; count = length cards }

-- POSITIONS

-- between vsyncs, with so many frames of the pass begun
abbrev pub between_at : (cursor frame : ℕ) → Position
between_at cursor frame =
    record {
      part = part_number Between;
      cursor = cursor;
      operation_index = 0;
      operation_count = 0;
      write_index = 0;
      frame_index = frame;
    }

-- at the opening's first operation
abbrev pub opening_from : Header → Position
opening_from header =
    record {
      part = part_number Opening;
      cursor = header.initial_start;
      operation_index = 0;
      operation_count = header.initial_count;
      write_index = 0;
      frame_index = 0;
    }

-- at the first of a frame's operations, with so many frames of the pass begun
abbrev pub frame_from : (cursor operations frame : ℕ) → Position
frame_from cursor operations frame =
    record {
      part = part_number Frame;
      cursor = cursor;
      operation_index = 0;
      operation_count = operations;
      write_index = 0;
      frame_index = frame;
    }

-- in the closing writes, with so many made
abbrev pub closing_behind : (cursor writes frame : ℕ) → Position
closing_behind cursor writes frame =
    record {
      part = part_number Closing;
      cursor = cursor;
      operation_index = 0;
      operation_count = 0;
      write_index = writes;
      frame_index = frame;
    }

-- in the same part, with so many operations done, and so many writes of the operation at the cursor
abbrev pub onward_to : Position → (cursor operations writes : ℕ) → Position
onward_to at cursor operations writes =
    record {
      part = at.part;
      cursor = cursor;
      operation_index = operations;
      operation_count = at.operation_count;
      write_index = writes;
      frame_index = at.frame_index;
    }

-- PROGRESS

-- the one place where a progress is made
abbrev pub progress_at : Position → (initialized finished : Bool) → List WaveSource → Progress
progress_at at initialized finished waves =
    record {
      part = at.part;
      cursor = at.cursor;
      operation_index = at.operation_index;
      operation_count = at.operation_count;
      write_index = at.write_index;
      frame_index = at.frame_index;
      initialized = initialized;
      finished = finished;
      wave_sources = waves;
    }

abbrev pub position_of : Progress → Position
position_of p =
    record {
      part = p.part;
      cursor = p.cursor;
      operation_index = p.operation_index;
      operation_count = p.operation_count;
      write_index = p.write_index;
      frame_index = p.frame_index;
    }

-- a progress with another position
abbrev pub moved_to : Progress → Position → Progress
moved_to p at = progress_at at p.initialized p.finished p.wave_sources

-- no pool was copied yet
abbrev pub no_wave : WaveSource
no_wave = record { copied = false; pool = 0 }

-- before the first vsync
unfoldable pub unplayed : (finished : Bool) → (cursor : ℕ) → Progress
unplayed finished cursor = progress_at (between_at cursor 0) false finished (replicate 16 no_wave)

-- STATES

-- the state of a player of an accepted file
unfoldable pub player_of : List ℕ → Stream → Progress → StreamPlayer
player_of file s progress = record { header = header_of file; cards = table_of s.cards; uses_si22 = uses_si22 s; progress = progress }

-- a refused start gives back "a finished state with recorded size 0"
unfoldable pub refused_player : StreamPlayer
refused_player =
    record {
      header = record {
        version = 0;
        repeat = false;
        frame_period = 0;
        card_count = 0;
        frame_count = 0;
        pool_count = 0;
        initial_count = 0;
        directory_offset = 0;
        initial_start = 0;
        frame_start = 0;
        total_size = 0;
      };
      cards = table_of [];
      uses_si22 = false;
      progress = unplayed true 0;
    }

-- the state that a start gives; what it refuses, `read` says
unfoldable pub started_as : List ℕ → Checked Stream → StreamPlayer
started_as file (ok s) = player_of file s (unplayed false (header_of file).frame_start)
started_as file (refused number place) = refused_player

abbrev pub started : List ℕ → StreamPlayer
started file = started_as file (read file)

-- the same state with other progress: all else is "as its start recorded it"
abbrev pub moved : StreamPlayer → Progress → StreamPlayer
moved state progress = record { header = state.header; cards = state.cards; uses_si22 = state.uses_si22; progress = progress }

-- what stands for a channel in a state: the pool that was last copied to it, or none
abbrev pub pool_in : WaveSource → Option ℕ
pool_in source = cond source.copied (Some source.pool) None

-- `wave_source`, by the state alone. "Outside 2 × 8, none"; which pool it is, WaveSources says
unfoldable pub wave_source : StreamPlayer → (core channel : ℕ) → Option ℕ
wave_source state core channel =
    cond (ltb core 2 && ltb channel 8) (pool_in (get_or state.progress.wave_sources (core * 8 + channel) no_wave)) None
