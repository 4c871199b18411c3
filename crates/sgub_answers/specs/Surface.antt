-- What the library's structs hold: the definitions' answers as plain numbers, for C and Rust.
use Rattle.std.specs.Prelude.{ℕ, Bool, false, get_or}
use Rattle.base_format.specs.declared.header.Header.{Header}
use Rattle.base_format.specs.declared.pool.Pool.{Pool}
use Rattle.base_format.specs.Checked.{Checked, ok, refused}
use Rattle.base_format.specs.State.{no_card}
use Rattle.check_file.specs.declared.check.Recorded.{Recorded}
use Rattle.sgub_answers.specs.declared.verdict.SgubVerdict.{SgubVerdict}
use Rattle.sgub_answers.specs.declared.card.SgubCard.{SgubCard}
use Rattle.sgub_answers.specs.declared.pool.SgubPool.{SgubPool}

-- an accepted file: number 0
abbrev pub accepted_as : Header → (uses : Bool) → SgubVerdict
accepted_as header uses =
    record {
      number = 0;
      place = 0;
      version = header.version;
      repeats = header.repeat;
      uses_si22 = uses;
      card_count = header.card_count;
      frame_period = header.frame_period;
      frame_count = header.frame_count;
      pool_count = header.pool_count;
      initial_count = header.initial_count;
      directory_offset = header.directory_offset;
      initial_start = header.initial_start;
      frame_start = header.frame_start;
      total_size = header.total_size;
    }

-- "a refusal returns number and place"
abbrev pub refused_as : (number place : ℕ) → SgubVerdict
refused_as number place =
    record {
      number = number;
      place = place;
      version = 0;
      repeats = false;
      uses_si22 = false;
      card_count = 0;
      frame_period = 0;
      frame_count = 0;
      pool_count = 0;
      initial_count = 0;
      directory_offset = 0;
      initial_start = 0;
      frame_start = 0;
      total_size = 0;
    }

abbrev pub verdict_on : Checked Recorded → SgubVerdict
verdict_on (ok found) = accepted_as found.header found.uses_si22
verdict_on (refused number place) = refused_as number place

-- a card by its index, all 0 from the count on; or the refusal, with a card that is all 0
abbrev pub card_on : Checked Recorded → (index : ℕ) → SgubCard
card_on (ok found) index = record { number = 0; place = 0; card = get_or found.cards.cards index no_card }
card_on (refused number place) index = record { number = number; place = place; card = no_card }

abbrev pub pool_on : Checked Pool → SgubPool
pool_on (ok pool) = record { number = 0; place = 0; kind = pool.kind; offset = pool.offset; size = pool.size }
pool_on (refused number place) = record { number = number; place = place; kind = 0; offset = 0; size = 0 }

-- the kind that a lookup gives, 0 for a refused file
abbrev pub kind_in : Checked ℕ → ℕ
kind_in (ok kind) = kind
kind_in (refused number place) = 0
