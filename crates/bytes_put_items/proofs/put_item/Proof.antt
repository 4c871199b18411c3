-- By the case of the operation: the width is the version's, and the operation's own function writes it.
use borrow.Author.Rules.{rules}
use native.Mathlib.Omega.{arith}
use mathlib.Core.Path.{◌≡◌, ◌∙◌}
use Rattle.base_format.specs.declared.operation.Operation.{Operation}
use Rattle.base_format.specs.Written.{item_bytes}
use Rattle.bytes_put_operation.specs.Operations.{operation_bytes}
use Rattle.bytes_put_items.proofs.Items.{item_is}
use Rattle.bytes_put_items.proofs.put_item.Statement.{statement}
use Rattle.bytes_put_items.proofs.put_item.Tie as tie

put_write_requires : tie.Need-put_write-requires
put_write_requires c κs =
    let room = rw (c.in-Write.is, ← c.address_width-width.ensures.0) at c.requires.1 in
    (c.address_width-width.ensures.1, c.address_width-width.ensures.2, omega (arith, room))

put_fill_requires : tie.Need-put_fill-requires
put_fill_requires c κs =
    let room = rw (c.in-Fill.is, ← c.address_width-width.ensures.0) at c.requires.1 in
    (c.address_width-width.ensures.1, c.address_width-width.ensures.2, omega (arith, room))

put_copy_requires : tie.Need-put_copy-requires
put_copy_requires c κs =
    let room = rw (c.in-Copy.is, ← c.address_width-width.ensures.0) at c.requires.1 in
    (c.address_width-width.ensures.1, c.address_width-width.ensures.2, omega (arith, room))

-- the bytes of the operation that the case gives
bytes_are : (w : tie.After-address_width-width) (operation : Operation) → w.args.operation ≡ operation
    → item_bytes w.args.version w.args.operation ≡ operation_bytes w.address_width-width.result operation
bytes_are w operation is =
    item_is w.args.version w.args.operation w.requires.0 ∙ rw (is, ← w.address_width-width.ensures.0)

pub put_item_spec : {M : Type 1} → statement M
put_item_spec =
    tie.close
    (tie.spec (search rules) (search rules) put_write_requires (search rules) put_fill_requires (search rules) put_copy_requires (search rules)
    (λ c. rw (bytes_are c.before.before.before.before.before _ c.in-Write.is) c.put_write.ensures) (search rules)
    (λ c. rw (bytes_are c.before.before.before.before.before _ c.in-Fill.is) c.put_fill.ensures) (search rules)
    (λ c. rw (bytes_are c.before.before.before.before.before _ c.in-Copy.is) c.put_copy.ensures))
