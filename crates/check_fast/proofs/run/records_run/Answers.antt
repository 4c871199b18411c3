-- Each turn is that of the laws in Turns.
use Rattle.std.proofs.Common.{◌≡◌, ◌+◌, ◌-◌, ◌∙◌, sym, ap, arith}
use Rattle.std.specs.Prelude.{false}
use Rattle.bytes_operation.specs.declared.decode.Decoded.{Decoded}
use Rattle.bytes_operation.specs.Decoded.{decoded_record}
use Rattle.check_fast.proofs.Runs.{run_ends}
use Rattle.check_fast.proofs.Turns.{record_past, record_stops, record_step}
use Rattle.check_fast.specs.Run.{record_test}
use Rattle.check_fast.proofs.run.records_run.Goals as goal

pub returns-then-last-at : goal.returns-then-last-at
returns-then-last-at c =
    let a = c.args in
    let l = c.loop-i in
    rw l.invariant (sym (record_past a.file.now a.table.now a.last (a.count - l.i) l.at (omega arith) c.if-last-at.true))

pub returns-then-not-quick : goal.returns-then-not-quick
returns-then-not-quick c =
    let a = c.args in
    let l = c.loop-i in
    rw l.invariant
    (sym (record_stops a.file.now a.table.now a.last (a.count - l.i) l.at (omega arith) c.if-last-at.false _ (c.decode_record-item.ensures ∙ ap decoded_record c.window.ensures) _ c.quick_record-quick.ensures c.if-not-quick.true))

pub overflow_add-at : goal.overflow_add-at
unfolding decoded_record
overflow_add-at c = omega (arith, ap (λ (d : Decoded). d.size) c.decode_record-item.ensures)

pub loop-i-preserved : goal.loop-i-preserved
loop-i-preserved c =
    let a = c.args in
    let l = c.loop-i in
    let less : a.count - (l.i + 1) ≡ a.count - l.i - 1 = omega arith in
    rw less
    (l.invariant
    ∙ record_step a.file.now a.table.now a.last (a.count - l.i) l.at (omega arith) c.if-last-at.false _ (c.decode_record-item.ensures ∙ ap decoded_record c.window.ensures) _ c.quick_record-quick.ensures c.if-not-quick.false)

pub returns : goal.returns
returns c =
    let a = c.args in
    let none : a.count - c.loop-i.i ≡ 0 = omega arith in
    rw (c.loop-i.invariant, none, run_ends (record_test a.file.now a.table.now a.last) (λ place. false) c.loop-i.at false)
