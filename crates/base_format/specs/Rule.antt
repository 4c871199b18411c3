-- What a refusal says, and an answer of the code.
use Rattle.std.specs.Prelude.{Result, Ok, Err}
use Rattle.base_format.specs.Checked.{Checked, ok, refused}
use Rattle.base_format.specs.declared.rule.Refusal.{Refusal}
pub use Rattle.base_format.specs.Number.{number_of}

-- "a refusal returns number and place"
abbrev pub refusal : {A : Type 0} → Refusal → Checked A
refusal r = refused (number_of r.rule) r.place

-- what an answer of the code says
abbrev pub answer_of : {A : Type 0} → Result A Refusal → Checked A
answer_of (Ok value) = ok value
answer_of (Err r) = refusal r
