-- A check by a rule.
use Rattle.base_format.specs.declared.rule.Rule.{Rule}
use Rattle.base_format.specs.Checked.{Checked, refuse}
use Rattle.base_format.specs.Rule.{number_of}
use Rattle.std.specs.Prelude.{ℕ, Bool}

-- refused by a rule at a place if the test says so
abbrev pub refused_if : Rule → (place : ℕ) → Bool → Checked (Unit {0})
refused_if rule place test = refuse (number_of rule) place test
