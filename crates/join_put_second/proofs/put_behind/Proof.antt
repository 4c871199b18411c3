-- `join_put_second::put_behind` meets its contract: the copied run, renumbered, is what stands behind the first count.
use borrow.Author.Rules.{rules}
use native.Mathlib.Omega.{arith}
use mathlib.Core.Path.{ap, ◌∙◌}
use Rattle.base_format.specs.Bytes.{AllBytes}
use Rattle.check_version.proofs.Answers.{has}
use Rattle.join_renumber.specs.Renumbered.{frames_renumbered}
use Rattle.join_put_second.proofs.Second.{in_order_lem, behind_is}
use Rattle.join_put_second.proofs.put_behind.Statement.{statement}
use Rattle.join_put_second.proofs.put_behind.Tie as tie

add_start : tie.Need-overflow_add-start
add_start c =
    omega (arith, in_order_lem c.requires (λ i. (c.shared_slice_known-1.given i).fits))

sub_copy_part : tie.Need-overflow_sub-file
sub_copy_part c =
    omega (arith, (in_order_lem c.requires (λ i. (c.shared_slice_known-1.given i).fits)).1)

add_copy_part : tie.Need-overflow_add-start-2
add_copy_part c =
    let order = in_order_lem c.requires (λ i. (c.shared_slice_known-1.given i).fits) in
    omega (arith, order.1, order.2, c.requires.near)

copy_part_requires : tie.Need-copy_part-requires
copy_part_requires c κs =
    let order = in_order_lem c.requires (λ i. (c.shared_slice_known-1.given i).fits) in
    (omega (arith, order.1), omega (arith, order.1, c.requires.fits))

returns : tie.Need-returns
returns c =
    let a = c.args in
    let file = a.file.now in
    let bytes : AllBytes file = λ i. (c.shared_slice_known-1.given i).fits in
    let h = has 2 file a.header c.requires.here in
    c.renumber_frames.ensures
    ∙ ap (frames_renumbered a.before a.shift file a.header.frame_count a.header.frame_start) c.copy_part.ensures
    ∙ behind_is file a.header bytes h a.before a.shift a.buffer.now c.requires.fits

pub put_behind_spec : {M : Type 1} → statement M
put_behind_spec = tie.close (tie.spec add_start sub_copy_part add_copy_part copy_part_requires (search rules) (search rules) returns)
