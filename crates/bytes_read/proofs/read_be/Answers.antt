-- Before each turn `value` has less than four bytes (`be_within`), and the turn adds one (`be_next`).
use Rattle.std.proofs.Common.{rules, refl, arith}
use Rattle.base_format.specs.Bytes.{be}
use Rattle.base_format.proofs.Bytes.{be_next, be_within}
use Rattle.bytes_read.proofs.read_be.Goals as goal

pub loop-i-init : goal.loop-i-init
unfolding be
loop-i-init c = refl

pub overflow_mul-value : goal.overflow_mul-value
overflow_mul-value c = search (rules, be_within 3 {width = c.loop-i.i} c.args.file.now c.args.at (λ i. (c.type_inv.file i).fits) (omega arith))

pub overflow_add-value : goal.overflow_add-value
overflow_add-value c = omega (arith, be_within 3 {width = c.loop-i.i} c.args.file.now c.args.at (λ i. (c.type_inv.file i).fits) (omega arith))

pub loop-i-preserved : goal.loop-i-preserved
loop-i-preserved c = omega (arith, be_next c.loop-i.i c.args.file.now c.args.at)
