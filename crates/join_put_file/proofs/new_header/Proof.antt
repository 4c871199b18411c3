-- `join_put_file::new_header` meets its contract: each number is what the definition says, and none is too great.
use borrow.Author.Rules.{rules}
use mathlib.Core.Path.{refl}
use Rattle.join_put_file.specs.File.{joined_header}
use Rattle.join_put_file.proofs.new_header.Statement.{statement}
use Rattle.join_put_file.proofs.new_header.Tie as tie

returns : tie.Need-returns
unfolding joined_header
returns c = refl

pub new_header_spec : {M : Type 1} → statement M
new_header_spec =
    tie.close
    (tie.spec (search rules) (search rules) (search rules) (search rules) (search rules) (search rules) (search rules) (search rules) (search rules) returns)
