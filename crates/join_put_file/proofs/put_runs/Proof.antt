-- `join_put_file::put_runs` meets its contract: three runs, one behind the other.
use borrow.Author.Rules.{rules}
use native.Mathlib.Omega.{arith}
use mathlib.Core.Path.{◌≡◌, refl, sym, ap, ◌∙◌}
use mathlib.Core.List.{[], ◌++◌, append-nil}
use Prim.Native.Nat.{ℕ, ◌+◌, ◌*◌, ◌-◌}
use lib.ListN.{length}
use Rattle.base_format.specs.Bytes.{AllBytes, part}
use Rattle.base_format.proofs.Bytes.{part_length}
use Rattle.bytes_read.specs.Put.{put}
use Rattle.bytes_put_fields.proofs.Writing.{starts, wrote, ends}
use Rattle.join_put_file.specs.File.{payloads_at, runs_of}
use Rattle.join_put_file.proofs.File.{known, runs_long}
use Rattle.join_put_file.proofs.put_runs.Statement.{statement}
use Rattle.join_put_file.proofs.put_runs.Tie as tie

sub_copy_part : tie.Need-overflow_sub-opening
sub_copy_part c =
    let n = known c.requires (λ i. (c.shared_slice_known-1.given i).fits) (λ i. (c.shared_slice_known-2-1.given i).fits) in
    omega (arith, n.payloads_first)

copy_part_requires : tie.Need-copy_part-requires
copy_part_requires c κs =
    let n = known c.requires (λ i. (c.shared_slice_known-1.given i).fits) (λ i. (c.shared_slice_known-2-1.given i).fits) in
    (omega (arith, n.payloads_first, n.opening_first), omega (arith, c.requires.fits, n.payloads_first, n.opening_first, n.payloads_second, n.opening_second))

sub_copy_part_2 : tie.Need-overflow_sub-second_opening
sub_copy_part_2 c =
    let n = known c.requires (λ i. (c.shared_slice_known-1.given i).fits) (λ i. (c.shared_slice_known-2-1.given i).fits) in
    omega (arith, n.payloads_second)

copy_part_requires_2 : tie.Need-copy_part-requires-2
copy_part_requires_2 c κs =
    let n = known c.requires (λ i. (c.shared_slice_known-1.given i).fits) (λ i. (c.shared_slice_known-2-1.given i).fits) in
    (omega (arith, n.payloads_second, n.opening_second), omega (arith, c.requires.fits, n.payloads_first, n.opening_first, n.payloads_second, n.opening_second))

sub_copy_part_3 : tie.Need-overflow_sub-first
sub_copy_part_3 c =
    let n = known c.requires (λ i. (c.shared_slice_known-1.given i).fits) (λ i. (c.shared_slice_known-2-1.given i).fits) in
    omega (arith, n.payloads_first, n.opening_first)

sub_copy_part_4 : tie.Need-overflow_sub-second_opening-2
sub_copy_part_4 c =
    let n = known c.requires (λ i. (c.shared_slice_known-1.given i).fits) (λ i. (c.shared_slice_known-2-1.given i).fits) in
    omega (arith, n.payloads_second)

add_copy_part_3 : tie.Need-overflow_add-opening-2
add_copy_part_3 c =
    let n = known c.requires (λ i. (c.shared_slice_known-1.given i).fits) (λ i. (c.shared_slice_known-2-1.given i).fits) in
    omega (arith, n.payloads_first, n.opening_first, n.payloads_second, n.opening_second, n.small_first, n.small_second)

copy_part_requires_3 : tie.Need-copy_part-requires-3
copy_part_requires_3 c κs =
    let n = known c.requires (λ i. (c.shared_slice_known-1.given i).fits) (λ i. (c.shared_slice_known-2-1.given i).fits) in
    (omega (arith, n.payloads_first, n.opening_first), omega (arith, c.requires.fits, n.payloads_first, n.opening_first, n.payloads_second, n.opening_second))

returns : tie.Need-returns
unfolding runs_of
returns c =
    let a = c.args in
    let n = known c.requires (λ i. (c.shared_slice_known-1.given i).fits) (λ i. (c.shared_slice_known-2-1.given i).fits) in
    let file = a.first.now in
    let file' = a.second.now in
    let header = a.header in
    let header' = a.second_header in
    let buffer = a.buffer.now in
    let bytes : AllBytes file = λ i. (c.shared_slice_known-1.given i).fits in
    let bytes' : AllBytes file' = λ i. (c.shared_slice_known-2-1.given i).fits in
    let opening = header.initial_start in
    let opening' = header'.initial_start in
    let size = opening - payloads_at header in
    let size' = opening' - payloads_at header' in
    let rest = length file - opening in
    let x = part file (payloads_at header) size in
    let y = part file' (payloads_at header') size' in
    let z = part file opening rest in
    let x-long = part_length file (payloads_at header) size (omega (arith, n.payloads_first, n.opening_first)) in
    let y-long = part_length file' (payloads_at header') size' (omega (arith, n.payloads_second, n.opening_second)) in
    let z-long = part_length file opening rest (omega (arith, n.payloads_first, n.opening_first)) in
    let place = 40 + (header.pool_count + header'.pool_count) * 16 in
    let same : payloads_at header + header'.pool_count * 16 ≡ place = omega arith in
    let all = runs_long file file' header header' bytes bytes' n.has_first n.has_second in
    let puts = c.copy_part.ensures ∙ ap (λ (c : ℕ). put x c buffer) same in
    let w₀ = starts (runs_of file header file' header') place buffer (omega (arith, all, c.requires.fits, n.payloads_second, n.opening_second)) in
    let w₁ = wrote w₀ x (y ++ z) size {place' = opening + header'.pool_count * 16} refl x-long (omega (arith, n.payloads_first, n.opening_first)) puts in
    let w₂ = wrote w₁ y z size' {place' = opening + (opening' - 40)} refl y-long (omega (arith, n.payloads_second, n.opening_second)) c.copy_part-2.ensures in
    let done = wrote w₂ z [] rest {place' = opening + (opening' - 40) + rest} (sym (append-nil z)) z-long refl c.copy_part-3.ensures in
    (ends done refl).0

pub put_runs_spec : {M : Type 1} → statement M
put_runs_spec =
    tie.close
    (tie.spec (search rules) (search rules) (search rules) (search rules) (search rules) (search rules) (search rules) (search rules) sub_copy_part (search rules) copy_part_requires
    sub_copy_part_2 (search rules) copy_part_requires_2 sub_copy_part_3 sub_copy_part_4 add_copy_part_3 copy_part_requires_3 (search rules) returns)
