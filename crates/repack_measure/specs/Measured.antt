-- What is known of a master that was measured: its waves, where they are used, and the size of its frames.
use Rattle.std.specs.Prelude.{ℕ, ◌+◌, ◌*◌, ◌≤◌, ◌<◌, true, List, [], ◌∷◌, ◌++◌, ◌≡◌, length, get_or, take, set}
use Rattle.base_format.specs.Repack.{is_known, place_of}
use Rattle.base_format.specs.Size.{record_size, wave_records_size}
use Rattle.base_master.specs.Places.{wave_at}
use Rattle.base_master.specs.Result.{piece_bytes, frame_waves, frame_bytes, all_waves}
use Rattle.base_master.specs.Uses.{uses_at, all_uses}
use Rattle.repack_wave_table.specs.Table.{waves_in, Table, Lists, lists, lists_with}

-- ---- all that is lent

-- the table of the waves, and the lists of their uses, all of each
pub record Notes : Type 0 where
  pub table : Lists
  pub spots : List ℕ
  pub numbers : List ℕ
  pub uses : ℕ

abbrev pub notes : (heads next places : List ℕ) → (waves : ℕ) → (spots numbers : List ℕ) → (uses : ℕ) → Notes
notes heads next places waves spots numbers uses = record { table = lists heads next places waves; spots = spots; numbers = numbers; uses = uses }

-- with the use at a place: its wave in the table, and behind the uses that are noted its place and its wave's number
unfoldable pub notes_with : (file : List ℕ) → Notes → (at : ℕ) → Notes
notes_with file n at =
    record {
      table = lists_with file n.table at;
      spots = set n.spots n.uses at;
      numbers = set n.numbers n.uses (place_of (waves_in file n.table.places n.table.count) (wave_at file at));
      uses = n.uses + 1;
    }

-- with uses one after the other
unfoldable pub notes_over : (file : List ℕ) → Notes → List ℕ → Notes
notes_over file n [] = n
notes_over file n (at ∷ rest) = notes_over file (notes_with file n at) rest

-- ---- what follows for the waves and their uses

-- the first so many uses are noted, each with the number of its wave; behind them no place is noted
pub record Noted (file places spots numbers : List ℕ) (waves uses : ℕ) : Type 0 where
  pub spots_size : length spots ≡ 11469
  pub numbers_size : length numbers ≡ 11468
  pub few : uses ≤ 11468
  pub rest : (k : ℕ) → uses ≤ k → get_or spots k 0 ≡ 0
  pub small : (k : ℕ) → get_or numbers k 0 ≤ 11468
  pub known : (k : ℕ) → k < uses → is_known (waves_in file places waves) (wave_at file (get_or spots k 0)) ≡ true
  pub numbers_are : (k : ℕ) → k < uses → get_or numbers k 0 ≡ place_of (waves_in file places waves) (wave_at file (get_or spots k 0))

-- a frame was measured: the table then, with its waves, its uses, and the size of its operations
pub record MeasuredFrame (file : List ℕ) (start count known noted : ℕ) (places spots heads' next' places' spots' numbers' : List ℕ) (waves uses size : ℕ) : Type 0 where
  pub table : Table file heads' next' places' waves
  pub noting : Noted file places' spots' numbers' waves uses
  pub waves_are : frame_waves (waves_in file places known) file count start ≡ waves_in file places' waves
  pub uses_are : take noted spots ++ uses_at file count start ≡ take uses spots'
  pub size_is : length (piece_bytes 0 [] file count start) ≡ size
  pub few : waves * wave_records_size ≤ start + count * record_size
  pub few_uses : uses * wave_records_size ≤ start + count * record_size
  pub small : size ≤ count * 6

-- all frames were measured
pub record Measured (file : List ℕ) (start count : ℕ) (places' spots' numbers' : List ℕ) (waves uses size : ℕ) : Type 0 where
  pub noting : Noted file places' spots' numbers' waves uses
  pub waves_are : all_waves [] file count start ≡ waves_in file places' waves
  pub uses_are : all_uses file count start ≡ take uses spots'
  pub size_is : length (frame_bytes 0 [] file count start) ≡ size
  pub small : size ≤ 0x2000000
  pub few : waves ≤ 11468
  pub places_size : length places' ≡ 11468
  pub inside : (k : ℕ) → k < waves → get_or places' k 0 + wave_records_size ≤ length file
