-- What the answers of this crate say, and what a comparison leaves.
use Rattle.std.specs.Prelude.{ℕ, ◌≡◌, Bool, List, length, Result, Ok, Err}
use Rattle.base_format.specs.Compare.{Compared, agreed, refused_file, compared, master_image_of, other_image_of}
use Rattle.base_format.specs.Rule.{number_of}
use Rattle.compare.specs.declared.whole.CompareError.{CompareError}
use Rattle.compare.specs.declared.whole.CompareError.TheVariants.{Master, Other}

-- whether the files agree, or which is refused: 1 for the master, 2 for the other
abbrev pub compared_of : Result Bool CompareError → Compared
compared_of (Ok agree) = agreed agree
compared_of (Err (Master r)) = refused_file 1 (number_of r.rule) r.place
compared_of (Err (Other r)) = refused_file 2 (number_of r.rule) r.place

-- the answer on two files, and what both lent images hold after it
abbrev pub ComparedWith : Compared → (master other image image' after after' : List ℕ) → Type 0
ComparedWith answer master other image image' after after' =
    (answer ≡ compared master other (length image) (length image'))
    × (after ≡ master_image_of master other image image')
    × (after' ≡ other_image_of master other image image')
