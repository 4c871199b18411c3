-- An answer as a list stores it.
use Rattle.std.specs.Prelude.{ℕ, cond, eqb, Result, Ok, Err}
use Rattle.base_format.specs.declared.rule.Refusal.{Refusal}
use Rattle.base_format.specs.Number.{number_of}
use Rattle.test_vectors.specs.declared.answer.StoredAnswer.{StoredAnswer}

-- the refusal's number and place, or 0 and 0 and the value
abbrev pub stored_answer : Result ℕ Refusal → StoredAnswer
stored_answer (Ok value) = record { number = 0; place = 0; value = value }
stored_answer (Err refusal) = record { number = number_of refusal.rule; place = refusal.place; value = 0 }

-- what of stored numbers such an answer can be: of a value no place, of a refusal no value
unfoldable pub meant : StoredAnswer → StoredAnswer
meant stored =
    cond (eqb stored.number 0)
    (record { number = stored.number; place = 0; value = stored.value })
    (record { number = stored.number; place = stored.place; value = 0 })
