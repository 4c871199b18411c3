-- What the library's struct holds: the definition's answer as plain numbers, for C and Rust.
use Rattle.std.specs.Prelude.{ℕ}
use Rattle.base_format.specs.Checked.{Checked, ok, refused}
use Rattle.sgub_pitch.specs.declared.SgubFrequency.{SgubFrequency}

abbrev pub frequency_on : Checked ℕ → SgubFrequency
frequency_on (ok pitch) = record { number = 0; place = 0; pitch = pitch }
frequency_on (refused number place) = record { number = number; place = place; pitch = 0 }
