-- What the library's struct holds of a joining: the definitions' answer as plain numbers, for C and Rust.
use Rattle.std.specs.Prelude.{ℕ}
use Rattle.base_format.specs.declared.rule.Refusal.{Refusal}
use Rattle.base_format.specs.Rule.{number_of}
use Rattle.join_stream.specs.Join.{NamedFile, in_first, in_second, in_neither, Joining, join_made, join_refused}
use Rattle.sgub_join.specs.declared.SgubJoined.{SgubJoined}

-- the file that is named: 1 for the first and 2 for the second, and 0 for none
abbrev pub file_number : NamedFile → ℕ
file_number in_first = 1
file_number in_second = 2
file_number in_neither = 0

abbrev pub joined_on : Joining ℕ → SgubJoined
joined_on (join_made size) = record { file = 0; number = 0; place = 0; size = size }
joined_on (join_refused named number place) = record { file = file_number named; number = number; place = place; size = 0 }

-- a refusal with the number of a file
abbrev pub refused_on : (file : ℕ) → Refusal → SgubJoined
refused_on file r = record { file = file; number = number_of r.rule; place = r.place; size = 0 }
