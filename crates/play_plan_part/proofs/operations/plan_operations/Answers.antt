-- Each turn plans one operation. Behind the last one, and where the room ends, the plan is known.
use Rattle.std.proofs.Common.{◌≡◌, ◌+◌, ◌-◌, arith}
use borrow.Author.Tests.{lt-ltb, le-ltb}
use Rattle.base_format.specs.Player.{placed, operations_left}
use Rattle.play_laws.proofs.PlannedOperations.{planned_operations_end, planned_operations_full}
use Rattle.play_plan_part.proofs.PlannedOperations.{planned_operations_25}
use Rattle.play_plan_part.proofs.operations.plan_operations.Goals as goal

pub returns-then-free-eq0 : goal.returns-then-free-eq0
returns-then-free-eq0 c =
    let a = c.args in
    let l = c.loop-i in
    (rw (l.invariant.2, c.placed-full.ensures, c.if-free-eq0.true, planned_operations_full a.state a.file.now a.limit (operations_left a.progress - l._i)), omega arith)

pub returns-then-cut : goal.returns-then-cut
returns-then-cut c =
    let a = c.args in
    let l = c.loop-i in
    let p = placed a.progress l.cursor l.operations l.writes l.waves in (
      rw (
        l.invariant.2,
        planned_operations_25 a.state a.file.now a.limit (operations_left a.progress - l._i) l.free p (omega arith) (omega arith),
        ← c.in_ok-started.ensures.0,
        lt-ltb l.free c.in_ok-started.started.rest (omega arith),
        c.placed-full-then-cut.ensures,
      ),
      omega arith,
    )

pub overflow_add-operations : goal.overflow_add-operations
overflow_add-operations c = omega (arith, c.operations_left-left.ensures.1, c.loop-i.invariant.1)

pub loop-i-preserved : goal.loop-i-preserved
loop-i-preserved c =
    let a = c.args in
    let l = c.loop-i in
    let p = placed a.progress l.cursor l.operations l.writes l.waves in
    let less : operations_left a.progress - (l._i + 1) ≡ operations_left a.progress - l._i - 1 = omega arith in (
      omega arith,
      omega (arith, l.invariant.1),
      rw (
        less,
        l.invariant.2,
        planned_operations_25 a.state a.file.now a.limit (operations_left a.progress - l._i) l.free p (omega arith) (omega arith),
        ← c.in_ok-started.ensures.0,
        le-ltb l.free c.in_ok-started.started.rest (omega arith),
      ),
    )

pub returns : goal.returns
returns c =
    let a = c.args in
    let l = c.loop-i in
    let none : operations_left a.progress - l._i ≡ 0 = omega arith in
    (rw (l.invariant.2, c.placed-done.ensures, none, planned_operations_end a.state a.file.now a.limit l.free), omega arith)
