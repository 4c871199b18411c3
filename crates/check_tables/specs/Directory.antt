-- The directory and what stands behind it.
use Rattle.std.specs.Prelude.{ℕ, ◌+◌, ◌*◌, Bool, ltb}
use Rattle.base_format.specs.declared.header.Header.{Header}
use Rattle.base_format.specs.Size.{entry_size}

-- where the payloads start: behind the directory
abbrev pub payloads_start : Header → ℕ
payloads_start header = header.directory_offset + header.pool_count * entry_size

-- what rule 9 refuses
abbrev pub directory_wrong : Header → (length' : ℕ) → Bool
directory_wrong header length' = ltb length' (payloads_start header)
