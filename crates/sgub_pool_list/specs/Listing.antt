-- What a listing of pools says of a file, and what it leaves in the lent run: a refused file has none.
use Rattle.std.specs.Prelude.{ℕ, List}
use Rattle.base_format.specs.Checked.{Checked, ok, refused}
use Rattle.check_file.specs.declared.check.Recorded.{Recorded}
use Rattle.sgub_pool_list.specs.Entries.{entries_stored}
use Rattle.sgub_pool_list.specs.declared.SgubPoolEntry.{SgubPoolEntry}
use Rattle.sgub_pool_list.specs.declared.listing.SgubPools.{SgubPools}

-- the count of an accepted file's pools; or the refusal
abbrev pub pools_on : Checked Recorded → SgubPools
pools_on (ok found) = record { number = 0; place = 0; count = found.header.pool_count }
pools_on (refused number place) = record { number = number; place = place; count = 0 }

-- the lent run behind the listing: an accepted file's entries stand at its front, as many as it holds; a refusal writes nothing
abbrev pub pools_after : List ℕ → Checked Recorded → List SgubPoolEntry → List SgubPoolEntry
pools_after file (ok found) run = entries_stored file found.header.directory_offset found.header.pool_count run
pools_after file (refused number place) run = run
