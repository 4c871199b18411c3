-- `join_put_second::put_opening` meets its contract: the copied run, renumbered, is the opening.
use borrow.Author.Rules.{rules}
use native.Mathlib.Omega.{arith}
use mathlib.Core.Path.{ap, ◌∙◌}
use Prim.Native.Nat.{◌+◌}
use Rattle.base_format.specs.Bytes.{AllBytes}
use Rattle.check_version.proofs.Answers.{has}
use Rattle.join_renumber.specs.Renumbered.{items_renumbered}
use Rattle.join_put_second.proofs.Second.{in_order_lem, opening_is}
use Rattle.join_put_second.proofs.put_opening.Statement.{statement}
use Rattle.join_put_second.proofs.put_opening.Tie as tie

sub_copy_part : tie.Need-overflow_sub-header
sub_copy_part c =
    omega (arith, (in_order_lem c.requires (λ i. (c.shared_slice_known-1.given i).fits)).0)

copy_part_requires : tie.Need-copy_part-requires
copy_part_requires c κs =
    let order = in_order_lem c.requires (λ i. (c.shared_slice_known-1.given i).fits) in
    (omega (arith, order.0, order.1), omega (arith, order.0, order.1, c.requires.fits))

returns : tie.Need-returns
returns c =
    let a = c.args in
    let file = a.file.now in
    let bytes : AllBytes file = λ i. (c.shared_slice_known-1.given i).fits in
    let h = has 2 file a.header c.requires.here in
    let order = in_order_lem c.requires bytes in
    c.renumber_items.ensures.0
    ∙ ap (items_renumbered a.before (a.shift + 2) file a.header.initial_count a.header.initial_start) c.copy_part.ensures
    ∙ opening_is file a.header bytes h a.before (a.shift + 2) a.buffer.now (omega (arith, order.1, c.requires.fits))

pub put_opening_spec : {M : Type 1} → statement M
put_opening_spec = tie.close (tie.spec (search rules) (search rules) sub_copy_part (search rules) copy_part_requires (search rules) (search rules) returns)
