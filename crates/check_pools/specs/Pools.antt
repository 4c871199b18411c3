-- What the walk over the pools says.
use Rattle.std.specs.Prelude.{ℕ, List}
use Rattle.base_format.specs.Checked.{Checked, mapped}
use Rattle.base_format.specs.Pool.{Payload, pools_from}

-- where so many payloads from an id end, the first at `start`
abbrev pub pools_end : (version : ℕ) → List ℕ → (directory count id start : ℕ) → Checked ℕ
pools_end version file directory count id start = mapped (λ (found : List Payload × ℕ). found.1) (pools_from version file directory count id start)
