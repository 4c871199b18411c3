-- The opcode that is read is the operation's, and decides what the 16 bytes are read as.
use Rattle.std.proofs.Common.{◌≡◌, sym, ◌∙◌, arith}
use Rattle.bytes_operation.specs.Decoded.{decoded_at, decoded_operation}
use Rattle.play_item_span.proofs.Spans.{no_opcode, value_read, copy_read}
use Rattle.play_item_span.proofs.decode.quick_span.Goals as goal

pub returns-then-opcode-lt2 : goal.returns-then-opcode-lt2
unfolding decoded_operation
returns-then-opcode-lt2 c =
    let a = c.args in
    let is : (decoded_at a.width a.file.now a.at).opcode ≡ c.opcode_in-opcode.result = sym (c.opcode_in-opcode.ensures ∙ rw c.window-bytes.ensures) in
    rw (c.value_part.ensures, c.window-bytes.ensures) (value_read a.file.now a.directory a.at a.width (omega arith, omega arith) (omega arith) (omega (arith, is)))

pub returns-then-is_copy : goal.returns-then-is_copy
unfolding decoded_operation
returns-then-is_copy c =
    let a = c.args in
    let is : (decoded_at a.width a.file.now a.at).opcode ≡ c.opcode_in-opcode.result = sym (c.opcode_in-opcode.ensures ∙ rw c.window-bytes.ensures) in
    rw (c.copy_part.ensures, c.window-bytes.ensures) (copy_read a.file.now a.directory a.at a.width (omega arith, omega arith) (omega arith) (omega (arith, is)))

pub returns : goal.returns
unfolding decoded_operation
returns c =
    let a = c.args in
    let is : (decoded_at a.width a.file.now a.at).opcode ≡ c.opcode_in-opcode.result = sym (c.opcode_in-opcode.ensures ∙ rw c.window-bytes.ensures) in
    sym (no_opcode a.file.now a.directory a.at a.width (omega (arith, is)))
