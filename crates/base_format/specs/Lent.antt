-- Lent memory after a call: what the call writes stands in front. "Lent bytes beyond an image or result stay."
use Rattle.std.specs.Prelude.{List, ◌++◌, length, drop}
use Rattle.base_format.specs.Checked.{Checked, ok, refused}

-- the memory with some elements written from its start on
abbrev pub stored : {A : Type 0} → List A → (lent : List A) → List A
stored front lent = front ++ drop (length front) lent

-- an answer's elements are stored; a refusal "writes nothing"
abbrev pub lent_after : {A B : Type 0} → (B → List A) → Checked B → (lent : List A) → List A
lent_after elements (ok answer) lent = stored (elements answer) lent
lent_after elements (refused number place) lent = lent
