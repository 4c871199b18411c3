-- What the library's structs hold of a start, and of a wave source.
use Rattle.std.specs.Prelude.{ℕ, true, Option, Some, None}
use Rattle.base_format.specs.Checked.{Checked, ok, refused}
use Rattle.base_format.specs.declared.player.StreamPlayer.{StreamPlayer}
use Rattle.base_format.specs.declared.player.WaveSource.{WaveSource}
use Rattle.base_format.specs.State.{no_wave}
use Rattle.sgub_player.specs.declared.SgubStarted.{SgubStarted}

-- the verdict as number and place, 0 and 0 for an accepted file, and the state
abbrev pub start_fields : Checked (Unit {0}) → StreamPlayer → SgubStarted
start_fields (ok x) player = record { number = 0; place = 0; player = player }
start_fields (refused number place) player = record { number = number; place = place; player = player }

-- a pool, or none
abbrev pub source_fields : Option ℕ → WaveSource
source_fields None = no_wave
source_fields (Some id) = record { copied = true; pool = id }
