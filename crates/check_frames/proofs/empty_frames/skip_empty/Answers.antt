-- An empty frame is passed, any other one stays, and so does the last.
use Rattle.std.proofs.Common.{◌≡◌, ◌+◌, ◌-◌, ◌∙◌, sym, arith}
use Rattle.check_frames.proofs.Steps.{empty_there, empty_passed, full_stays, skip_last}
use Rattle.check_frames.proofs.empty_frames.skip_empty.Goals as goal

pub returns-then-not-empty_at : goal.returns-then-not-empty_at
returns-then-not-empty_at c =
    let a = c.args in
    let l = c.loop-passed in
    rw l.invariant (sym (full_stays a.file.now (a.count - l.passed) l.at (omega arith) (sym c.empty_at.ensures ∙ c.if-not-empty_at.true)))

pub overflow_add-at : goal.overflow_add-at
overflow_add-at c =
    omega (arith, empty_there c.args.file.now c.loop-passed.at (sym c.empty_at.ensures ∙ c.if-not-empty_at.false))

pub loop-passed-preserved : goal.loop-passed-preserved
loop-passed-preserved c =
    let a = c.args in
    let l = c.loop-passed in
    let less : a.count - (l.passed + 1) ≡ a.count - l.passed - 1 = omega arith in
    rw less (l.invariant ∙ empty_passed a.file.now (a.count - l.passed) l.at (omega arith) (sym c.empty_at.ensures ∙ c.if-not-empty_at.false))

pub returns : goal.returns
returns c =
    let a = c.args in
    let l = c.loop-passed in
    let one : c.min.result ≡ a.count - l.passed = omega arith in
    rw (l.invariant, one) (sym (skip_last a.file.now (a.count - l.passed) l.at (omega arith)))
