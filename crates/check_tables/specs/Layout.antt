-- The rules 8 to 12 as the code makes them: no list of pools is built.
use Rattle.std.specs.Prelude.{ℕ, List, length}
use Rattle.base_format.specs.declared.header.Header.{Header}
use Rattle.base_format.specs.Checked.{Checked, refuse, ◌>>=◌, ◌>>◌}
use Rattle.base_format.specs.Stream.{counts_wrong, sections_wrong}
use Rattle.check_pools.specs.Pools.{pools_end}
use Rattle.check_tables.specs.Directory.{payloads_start, directory_wrong}

-- the rules 10 to 12
abbrev pub pools_checked : Header → List ℕ → Checked (Unit {0})
pools_checked header file =
    pools_end header.version file header.directory_offset header.pool_count 0 (payloads_start header)
    >>= λ end. refuse 12 0 (sections_wrong header end (length file))

-- the rules 8 to 12
abbrev pub layout_from : Header → List ℕ → Checked (Unit {0})
layout_from header file = do
  refuse 8 0 (counts_wrong header (length file))
  refuse 9 0 (directory_wrong header (length file))
  pools_checked header file
