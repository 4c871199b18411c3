-- What the entry point answers, in the definitions' words, and what it leaves.
use Rattle.std.specs.Prelude.{ℕ, ◌≡◌, List, length, Result, Ok, Err}
use Rattle.base_format.specs.declared.rule.Refusal.{Refusal}
use Rattle.base_format.specs.Rule.{number_of}
use Rattle.join_stream.specs.Join.{NamedFile, in_first, in_second, in_neither, Joining, join_made, join_refused, join_said, join_after}
use Rattle.join.specs.declared.JoinError.{JoinError}
use Rattle.join.specs.declared.JoinError.TheVariants.{First, Second, Neither}

-- a refusal that names a file, or none
abbrev pub refused_in : NamedFile → Refusal → Joining ℕ
refused_in named r = join_refused named (number_of r.rule) r.place

-- the length of the result, or the refusal and the file that it names
abbrev pub joined_of : Result ℕ JoinError → Joining ℕ
joined_of (Ok size) = join_made size
joined_of (Err (First r)) = refused_in in_first r
joined_of (Err (Second r)) = refused_in in_second r
joined_of (Err (Neither r)) = refused_in in_neither r

-- the answer on two files, and the lent buffer after it
abbrev pub JoinedWith : Joining ℕ → (file file' buffer after : List ℕ) → Type 0
JoinedWith answer file file' buffer after = (answer ≡ join_said file file' (length buffer)) × (after ≡ join_after file file' buffer)
