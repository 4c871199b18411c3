-- Each turn is that of the laws in Turns.
use Rattle.std.proofs.Common.{◌≡◌, ◌+◌, ◌-◌, ◌≤◌, ◌∙◌, sym, arith}
use borrow.Author.Tests.{not-true, not-false}
use Rattle.check_fast.proofs.Items.{quick_small}
use Rattle.check_fast.proofs.Runs.{run_ends}
use Rattle.check_fast.proofs.Turns.{operation_past, operation_stops, operation_step}
use Rattle.check_fast.specs.Run.{operation_test, has_si22}
use Rattle.check_fast.proofs.run.operations_run.Goals as goal

pub returns-then-last-at : goal.returns-then-last-at
returns-then-last-at c =
    let a = c.args in
    let l = c.loop-i in
    rw l.invariant (sym (operation_past a.width a.file.now a.pools a.directory a.table.now a.last (a.count - l.i) l.at l.si22 (omega arith) c.if-last-at.true))

pub returns-then-not-quick : goal.returns-then-not-quick
returns-then-not-quick c =
    let a = c.args in
    let l = c.loop-i in
    rw l.invariant
    (sym (operation_stops a.width a.file.now a.pools a.directory a.table.now a.last (a.count - l.i) l.at l.si22 (omega arith) c.if-last-at.false _ c.window-bytes.ensures _ c.quick_operation-quick.ensures (not-true _ c.if-not-quick.true)))

pub overflow_add-at : goal.overflow_add-at
overflow_add-at c =
    let a = c.args in
    let most : c.quick_operation-quick.result.size ≤ 16 = rw c.quick_operation-quick.ensures (quick_small a.width a.file.now a.pools a.directory a.table.now _ (omega arith) (omega arith)) in
    omega arith

pub loop-i-preserved : goal.loop-i-preserved
loop-i-preserved c =
    let a = c.args in
    let l = c.loop-i in
    let less : a.count - (l.i + 1) ≡ a.count - l.i - 1 = omega arith in
    rw (less, c.target_in.ensures)
    (l.invariant
    ∙ operation_step a.width a.file.now a.pools a.directory a.table.now a.last (a.count - l.i) l.at l.si22 (omega arith) c.if-last-at.false _ c.window-bytes.ensures _ c.quick_operation-quick.ensures (not-false _ c.if-not-quick.false))

pub returns : goal.returns
returns c =
    let a = c.args in
    let none : a.count - c.loop-i.i ≡ 0 = omega arith in
    rw (c.loop-i.invariant, none, run_ends (operation_test a.width a.file.now a.pools a.directory a.table.now a.last) (has_si22 a.file.now) c.loop-i.at c.loop-i.si22)
