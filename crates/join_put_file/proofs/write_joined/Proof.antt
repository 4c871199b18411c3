-- `join_put_file::write_joined` meets its contract: the tables, the runs and the second file's frames, one behind the other.
use borrow.Author.Rules.{rules}
use native.Mathlib.Omega.{arith}
use mathlib.Core.Path.{◌≡◌, refl, sym, ap, ◌∙◌}
use mathlib.Core.List.{[], ◌++◌, append-nil}
use Prim.Native.Nat.{ℕ, ◌+◌, ◌*◌, ◌-◌}
use lib.ListN.{length, length-append}
use Rattle.base_format.specs.Bytes.{AllBytes}
use Rattle.base_format.specs.Written.{written}
use Rattle.bytes_read.proofs.Laws.{length_put}
use Rattle.bytes_put_fields.proofs.Writing.{starts, wrote, ends}
use Rattle.join_stream.specs.Join.{joined, stream_in}
use Rattle.join_put_second.specs.Second.{second_bytes}
use Rattle.join_put_second.proofs.Second.{second_long}
use Rattle.join_put_file.specs.File.{tables_of, runs_of}
use Rattle.join_put_file.proofs.File.{known, parts_are, tables_long, runs_long}
use Rattle.join_put_file.proofs.write_joined.Statement.{statement}
use Rattle.join_put_file.proofs.write_joined.Tie as tie

put_runs_requires : tie.Need-put_runs-requires
put_runs_requires c κs =
    let p = c.requires in
    record { here = p.here; here' = p.here'; first_count = p.first_count; pool_count = p.pool_count; small = p.small; fits = omega (arith, p.fits) }

sub_put_second : tie.Need-overflow_sub-first
sub_put_second c =
    let n = known c.requires (λ i. (c.shared_slice_known-1.given i).fits) (λ i. (c.shared_slice_known-2-1.given i).fits) in
    omega (arith, n.payloads_first, n.opening_first)

put_second_requires : tie.Need-put_second-requires
put_second_requires c κs =
    let n = known c.requires (λ i. (c.shared_slice_known-1.given i).fits) (λ i. (c.shared_slice_known-2-1.given i).fits) in
    let kept = ap length c.put_runs.ensures ∙ length_put _ _ _ ∙ ap length c.put_tables.ensures ∙ length_put _ _ _ in
    record { here = c.requires.here'; count = c.requires.first_count; few = omega (arith, c.requires.pool_count); near = omega (arith, n.small_first); fits = omega (arith, c.requires.fits, kept) }

returns : tie.Need-returns
returns c =
    let a = c.args in
    let n = known c.requires (λ i. (c.shared_slice_known-1.given i).fits) (λ i. (c.shared_slice_known-2-1.given i).fits) in
    let file = a.first.now in
    let file' = a.second.now in
    let header = a.header in
    let header' = a.second_header in
    let buffer = a.buffer.now in
    let bytes : AllBytes file = λ i. (c.shared_slice_known-1.given i).fits in
    let bytes' : AllBytes file' = λ i. (c.shared_slice_known-2-1.given i).fits in
    let tables = tables_of file header file' header' in
    let runs = runs_of file header file' header' in
    let second = second_bytes file' header.pool_count in
    let tables-size = tables_long file file' header header' bytes bytes' n.has_first n.has_second in
    let runs-size = runs_long file file' header header' bytes bytes' n.has_first n.has_second in
    let second-size = second_long file' header' bytes' n.has_second header.pool_count in
    let is = parts_are file file' header header' bytes bytes' n.has_first n.has_second in
    let whole = written (joined (stream_in file) (stream_in file')) in
    let all : length whole ≡ length tables + (length runs + length second) = ap length is ∙ length-append tables (runs ++ second) ∙ ap (λ (m : ℕ). length tables + m) (length-append runs second) in
    let w₀ = starts whole 0 buffer (omega (arith, all, tables-size, runs-size, second-size, c.requires.fits, n.payloads_second, n.opening_second)) in
    let w₁ = wrote w₀ tables (runs ++ second) (length tables) {place' = 40 + (header.pool_count + header'.pool_count) * 16} is refl (omega (arith, tables-size)) c.put_tables.ensures in
    let place : header'.initial_start + (length file - 40) ≡ 40 + (header.pool_count + header'.pool_count) * 16 + length runs =
    omega (arith, runs-size, n.payloads_second, n.payloads_first, n.opening_first) in
    let w₂ = wrote w₁ runs second (length runs) refl refl place c.put_runs.ensures in
    let done = wrote w₂ second [] (length second) {place' = header'.initial_start + (length file - 40) + length second} (sym (append-nil second)) refl refl c.put_second.ensures in
    (ends done refl).0

pub write_joined_spec : {M : Type 1} → statement M
write_joined_spec = tie.close (tie.spec (λ c κs. c.requires) put_runs_requires sub_put_second put_second_requires (search rules) returns)
