-- A number of two bytes fits (`be_below`).
use Rattle.std.proofs.Common.{arith}
use Rattle.base_format.proofs.Bytes.{be_below}
use Rattle.bytes_read.proofs.read_u16.Goals as goal

pub overflow_cast-result : goal.overflow_cast-result
overflow_cast-result c = omega (arith, be_below 2 c.args.file.now c.args.at (λ i. (c.type_inv.file i).fits))
