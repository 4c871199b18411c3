-- `bytes_operation_known::fill_length_in` meets its contract: its test decides the definition's.
use borrow.Author.Rules.{rules}
use borrow.Author.Tests.{eq-eqb, ne_eqb}
use Rattle.bytes_operation_known.specs.Known.{fill_length}
use Rattle.bytes_operation_known.proofs.fill_length_in.Statement.{statement}
use Rattle.bytes_operation_known.proofs.fill_length_in.Tie as tie

returns : tie.Need-returns-then-opcode-eq0
unfolding fill_length
returns c = rw (← c.opcode_in-opcode.ensures, eq-eqb _ _ c.if-opcode-eq0.true)

returns_2 : tie.Need-returns
unfolding fill_length
returns_2 c =
    rw (← c.opcode_in-opcode.ensures, ne_eqb _ _ c.if-opcode-eq0.false) c.read_u32-length.ensures

pub fill_length_in_spec : {M : Type 1} → statement M
fill_length_in_spec = tie.close (tie.spec (search rules) (search rules) (search rules) returns returns_2)
