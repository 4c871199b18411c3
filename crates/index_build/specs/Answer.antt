-- What the entry point answers, in the sheet's numbers, and the index by a header alone.
use Rattle.std.specs.Prelude.{ℕ, List, ◌≡◌, ltb, length}
use Rattle.base_format.specs.declared.header.Header.{Header}
use Rattle.base_format.specs.Bytes.{bytes_of_all}
use Rattle.base_format.specs.Checked.{Checked, ok, refuse, mapped, ◌>>◌}
use Rattle.base_format.specs.Lent.{lent_after}
use Rattle.index_laws.specs.Built.{built_fields}

-- the answer for a result, and the lent buffer before and after it
abbrev pub Into : Checked (List ℕ) → (answer : Checked ℕ) → (buffer buffer' : List ℕ) → Type 0
Into result answer buffer buffer' = (answer ≡ mapped length result) × (buffer' ≡ lent_after (λ (index : List ℕ). index) result buffer)

-- `index_into` behind the file's checks, by its header
unfoldable pub built_into : Header → (file : List ℕ) → (room : ℕ) → Checked (List ℕ)
built_into header file room =
    let index = bytes_of_all (built_fields header file) in
    refuse 24 0 (ltb room (length index)) >> ok index
