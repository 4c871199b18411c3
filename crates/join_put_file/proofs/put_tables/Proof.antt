-- `join_put_file::put_tables` meets its contract: the header and both directories, one behind the other.
use borrow.Author.Rules.{rules}
use native.Mathlib.Omega.{arith}
use mathlib.Core.Path.{◌≡◌, refl, sym, ap, ◌∙◌}
use mathlib.Core.List.{[], ◌++◌, append-nil}
use Prim.Native.Nat.{ℕ, ◌+◌, ◌*◌, ◌-◌, ◌≤◌}
use lib.ListN.{length}
use Rattle.base_format.specs.declared.header.Header.{Header}
use Rattle.base_format.specs.Bytes.{AllBytes, bytes_of_all}
use Rattle.base_format.specs.Written.{header_fields}
use Rattle.bytes_read.specs.Put.{put}
use Rattle.bytes_read.proofs.Laws.{length_put}
use Rattle.bytes_put_fields.proofs.Writing.{starts, wrote, ends}
use Rattle.join_put_directory.specs.Entries.{entries_moved}
use Rattle.join_put_directory.proofs.Entries.{entries_long}
use Rattle.join_put_file.specs.File.{joined_header, tables_of}
use Rattle.join_put_file.proofs.File.{known, offsets, header_long, header_says, tables_long, tables_room}
use Rattle.join_put_file.proofs.put_tables.Statement.{statement}
use Rattle.join_put_file.proofs.put_tables.Tie as tie

-- the second's entries stand behind the first's, in a buffer that kept its length
second_fits : (pools pools' room : ℕ) {now : ℕ} → 40 + (pools + pools') * 16 ≤ room → now ≡ room → 40 + pools * 16 + pools' * 16 ≤ now
second_fits pools pools' room fits same = omega arith

new_header_requires : tie.Need-new_header-requires
new_header_requires c κs =
    (known c.requires (λ i. (c.shared_slice_known-1.given i).fits) (λ i. (c.shared_slice_known-2-1.given i).fits)).headers

put_header_requires : tie.Need-put_header-requires
put_header_requires c κs =
    let n = known c.requires (λ i. (c.shared_slice_known-1.given i).fits) (λ i. (c.shared_slice_known-2-1.given i).fits) in
    let says = header_says c.args.header c.args.second_header n.headers in
    rw c.new_header.ensures (omega (arith, says.0, tables_room c.requires n), omega (arith, says.1), omega (arith, says.1), says.2)

put_entries_requires : tie.Need-put_entries-requires
put_entries_requires c κs =
    let a = c.args in
    let n = known c.requires (λ i. (c.shared_slice_known-1.given i).fits) (λ i. (c.shared_slice_known-2-1.given i).fits) in
    let inside = offsets a.first.now a.header (λ i. (c.shared_slice_known-1.given i).fits) n.has_first in
    record {
      ids = omega (arith, n.headers.pool_count);
      fits = omega (arith, tables_room c.requires n);
      offsets = λ entry less. omega (arith, inside entry less, n.small_first, n.headers.pool_count);
    }

sub_put_entries : tie.Need-overflow_sub-opening
sub_put_entries c =
    omega (arith, (known c.requires (λ i. (c.shared_slice_known-1.given i).fits) (λ i. (c.shared_slice_known-2-1.given i).fits)).payloads_first)

put_entries_requires_2 : tie.Need-put_entries-requires-2
put_entries_requires_2 c κs =
    let a = c.args in
    let n = known c.requires (λ i. (c.shared_slice_known-1.given i).fits) (λ i. (c.shared_slice_known-2-1.given i).fits) in
    let inside = offsets a.second.now a.second_header (λ i. (c.shared_slice_known-2-1.given i).fits) n.has_second in
    let kept = ap length c.put_entries.ensures ∙ length_put _ _ _ ∙ ap length c.put_header.ensures ∙ length_put _ _ _ in
    record {
      ids = n.headers.pool_count;
      fits = second_fits a.header.pool_count a.second_header.pool_count (length a.buffer.now) (tables_room c.requires n) kept;
      offsets = λ entry less. omega (arith, inside entry less, n.small_second, n.opening_first, n.small_first);
    }

returns : tie.Need-returns
unfolding tables_of
returns c =
    let a = c.args in
    let n = known c.requires (λ i. (c.shared_slice_known-1.given i).fits) (λ i. (c.shared_slice_known-2-1.given i).fits) in
    let file = a.first.now in
    let file' = a.second.now in
    let header = a.header in
    let header' = a.second_header in
    let buffer = a.buffer.now in
    let bytes : AllBytes file = λ i. (c.shared_slice_known-1.given i).fits in
    let bytes' : AllBytes file' = λ i. (c.shared_slice_known-2-1.given i).fits in
    let front = bytes_of_all (header_fields (joined_header header header')) in
    let first = entries_moved file 0 (header'.pool_count * 16) 0 header.pool_count in
    let second = entries_moved file' header.pool_count (header.initial_start - 40) 0 header'.pool_count in
    let front_long = header_long file file' header header' bytes bytes' n.has_first n.has_second in
    let first-long = entries_long file 0 (header'.pool_count * 16) 0 header.pool_count in
    let all = tables_long file file' header header' bytes bytes' n.has_first n.has_second in
    let puts = c.put_header.ensures ∙ ap (λ (x : Header). put (bytes_of_all (header_fields x)) 0 buffer) c.new_header.ensures in
    let w₀ = starts (tables_of file header file' header') 0 buffer (omega (arith, all, tables_room c.requires n)) in
    let w₁ = wrote w₀ front (first ++ second) 40 {place' = 40} refl front_long refl puts in
    let w₂ = wrote w₁ first second (length first) {place' = 40 + header.pool_count * 16} refl refl (omega (arith, first-long)) c.put_entries.ensures in
    let done = wrote w₂ second [] (length second) {place' = 40 + header.pool_count * 16 + length second} (sym (append-nil second)) refl refl c.put_entries-2.ensures in
    (ends done refl).0

pub put_tables_spec : {M : Type 1} → statement M
put_tables_spec =
    tie.close
    (tie.spec (search rules) (search rules) (search rules) (search rules) new_header_requires put_header_requires (search rules) (search rules) put_entries_requires sub_put_entries
    put_entries_requires_2 (search rules) returns)
