-- What `?` passes on: the refusal that it met is the answer, whatever stands behind it.
use Rattle.std.specs.Prelude.{◌≡◌, Result, Ok, Err}
use Rattle.std.specs.Result.{IsErrAnd}
use Rattle.base_format.specs.declared.rule.Refusal.{Refusal}
use Rattle.base_format.specs.Checked.{Checked, ◌>>=◌, ◌>>◌, mapped}
use Rattle.base_format.specs.Rule.{refusal, answer_of}

-- the exit of a `?` gives the refusal
pub passed_on : {A : Type 0} (r : Result A Refusal) (y : Refusal) → IsErrAnd r (λ e. e ≡ y) → answer_of r ≡ refusal y
passed_on (Ok x) y h = absurd h
passed_on (Err e) y h = rw h

-- a check that is refused is the answer of all that follow it
pub refused_first : {A B : Type 0} {x : Checked A} (y : Refusal) (next : Checked B) → refusal y ≡ x → refusal y ≡ (x >> next)
refused_first y next e = rw (← e)

pub refused_bind : {A B : Type 0} {x : Checked A} (y : Refusal) (next : A → Checked B) → refusal y ≡ x → refusal y ≡ (x >>= next)
refused_bind y next e = rw (← e)

pub refused_mapped : {A B : Type 0} {x : Checked A} (y : Refusal) (f : A → B) → refusal y ≡ x → refusal y ≡ mapped f x
refused_mapped y f e = rw (← e)
