-- What is left of the file holds the operation, or it is none.
use Rattle.std.proofs.Common.{◌≡◌, sym, ap, ◌∙◌, arith, length}
use borrow.Author.Tests.{ltb-true}
use Rattle.bytes_operation.specs.Decoded.{decoded_at, decoded_operation}
use Rattle.play_item_span.proofs.Spans.{inside, no_opcode, cut_off, found}
use Rattle.play_item_span.proofs.decode.last_span.Goals as goal

pub returns-then-item-gt2 : goal.returns-then-item-gt2
returns-then-item-gt2 c =
    let a = c.args in
    let is : c.decode_operation-item.result ≡ decoded_at a.width a.file.now a.at = c.decode_operation-item.ensures.0 ∙ ap (decoded_operation a.width) c.item_bytes.ensures in
    sym (no_opcode a.file.now a.directory a.at a.width (rw (← is) c.if-item-gt2.true))

pub returns-then-passes : goal.returns-then-passes
returns-then-passes c =
    let a = c.args in
    let is : c.decode_operation-item.result ≡ decoded_at a.width a.file.now a.at = c.decode_operation-item.ensures.0 ∙ ap (decoded_operation a.width) c.item_bytes.ensures in
    let past = ltb-true _ _ (sym c.passes.ensures ∙ c.if-passes.true) in
    sym (cut_off a.file.now a.directory a.at a.width (rw (← is) c.if-item-gt2.false) (rw (← is) past))

pub returns : goal.returns
returns c =
    let a = c.args in
    let is : c.decode_operation-item.result ≡ decoded_at a.width a.file.now a.at = c.decode_operation-item.ensures.0 ∙ ap (decoded_operation a.width) c.item_bytes.ensures in
    let within = inside _ (length a.file.now) a.at _ c.passes.ensures c.if-passes.false in
    rw (c.span_of.ensures, c.operation_of.ensures, is)
    (sym (found a.file.now a.directory a.at a.width (rw (← is) c.if-item-gt2.false) (omega arith) (rw (← is) within)))
