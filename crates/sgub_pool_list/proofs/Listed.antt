-- The pools that are listed: of an accepted file each entry names its pool's kind and payload, and of a refused file nothing is stored.
use Prim.Native.Nat.{ℕ, ◌<◌, min}
use mathlib.Core.List.{List}
use mathlib.Core.Path.{◌≡◌, sym, ap, ◌∙◌}
use native.Mathlib.Nat.{zero-add}
use native.Mathlib.Omega.{arith}
use borrow.Author.Tests.{lt-ltb}
use lib.ListN.{length, get_or, get_or-append}
use Rattle.base_format.specs.declared.pool.Pool.{Pool}
use Rattle.base_format.specs.Bytes.{part}
use Rattle.base_format.specs.Checked.{ok}
use Rattle.base_format.specs.Header.{header_of}
use Rattle.base_format.specs.Lookup.{pool_kind, pool_payload}
use Rattle.base_format.specs.Pool.{pool_at}
use Rattle.base_format.specs.Stream.{Stream, read}
use Rattle.check_file.specs.Answer.{recorded}
use Rattle.check_pool_entry.specs.Entry.{entry_of}
use Rattle.check_pool_lookup.proofs.Pools.{kind_found, payload_found}
use Rattle.sgub_pool_list.specs.declared.SgubPoolEntry.{SgubPoolEntry}
use Rattle.sgub_pool_list.specs.Entries.{listed_entry, entries_from, entries_stored}
use Rattle.sgub_pool_list.specs.Listing.{pools_after}
use Rattle.sgub_pool_list.proofs.Stored.{entries_long, entry_at}

-- an entry of the list

module _ (file : List ℕ) (s : Stream) (accepted : read file ≡ ok s) (run : List SgubPoolEntry) (i : ℕ) (d : SgubPoolEntry)
    (less : i < min (length run) (header_of file).pool_count) where
  abbrev entry : SgubPoolEntry
  entry = get_or (pools_after file (recorded file) run) i d

  listed : entry ≡ listed_entry (pool_at file (header_of file).directory_offset i)
  unfolding entries_stored
  listed =
      let directory = (header_of file).directory_offset in
      let n = min (length run) (header_of file).pool_count in
      rw accepted (
      get_or-append (entries_from file directory n 0) _ d i (rw (entries_long file directory n 0) less)
      ∙ entry_at file directory n 0 i d less
      ∙ ap (λ (k : ℕ). listed_entry (pool_at file directory k)) (zero-add i)
      )

  known : entry_of file (header_of file) i ≡ pool_at file (header_of file).directory_offset i
  unfolding entry_of
  known = rw (lt-ltb i (header_of file).pool_count (omega (arith, less)))

  pub kind_listed : pool_kind file i ≡ ok entry.kind
  kind_listed = kind_found file i ∙ rw accepted (ap (λ (pool : Pool). ok pool.kind) known) ∙ ap (λ (e : SgubPoolEntry). ok e.kind) (sym listed)

  pub payload_listed : pool_payload file i ≡ part file entry.offset entry.size
  payload_listed = payload_found file i ∙ rw accepted (ap (λ (pool : Pool). part file pool.offset pool.size) known) ∙ ap (λ (e : SgubPoolEntry). part file e.offset e.size) (sym listed)
