-- What the library's structs hold of a result: the definitions' answers as plain numbers, for C and Rust.
use Rattle.std.specs.Prelude.{ℕ, false}
use Rattle.base_format.specs.Checked.{Checked, ok, refused}
use Rattle.base_format.specs.Compare.{Compared, agreed, refused_file}
use Rattle.sgub_results.specs.declared.indexed.SgubIndexed.{SgubIndexed}
use Rattle.sgub_results.specs.declared.repacked.SgubRepacked.{SgubRepacked}
use Rattle.sgub_results.specs.declared.comparison.SgubCompared.{SgubCompared}

abbrev pub repacked_on : Checked ℕ → SgubRepacked
repacked_on (ok size) = record { number = 0; place = 0; size = size }
repacked_on (refused number place) = record { number = number; place = place; size = 0 }

abbrev pub indexed_on : Checked ℕ → SgubIndexed
indexed_on (ok size) = record { number = 0; place = 0; size = size }
indexed_on (refused number place) = record { number = number; place = place; size = 0 }

-- a refusal with the file that it names, 1 for the master and 2 for the other, and 0 where none is refused
abbrev pub compared_on : Compared → SgubCompared
compared_on (agreed passed) = record { file = 0; number = 0; place = 0; passed = passed }
compared_on (refused_file file number place) = record { file = file; number = number; place = place; passed = false }
