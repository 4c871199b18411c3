-- Each turn is that of the laws in Turn: a refusal is the answer, and else the frames behind decide.
use Rattle.std.proofs.Common.{◌≡◌, ◌∙◌, sym, arith}
use Rattle.base_format.specs.Operation.{setting_of}
use Rattle.base_format.proofs.Answered.{passed_on}
use Rattle.check_frames.proofs.FrameWalk.{frames_end_lem}
use Rattle.check_frames.proofs.Turn.{passed, one_left, no_more, count_refused, all_quick, rest_refused, rest_read}
use Rattle.check_frames.proofs.frames.check_frames.Goals as goal
use Rattle.check_frames.proofs.frames.check_frames.Goals.{then-not-quick+in_ok-place, else-not-quick}

pub returns-in_err-refuse : goal.returns-in_err-refuse
returns-in_err-refuse c =
    let a = c.args in
    let l = c.loop-left in
    rw (passed_on _ _ c.from_residual.ensures.1, l.invariant)
    (sym (count_refused a.file.now a.header a.cards l.left l.at l.seen c.loop-left-test.true _ c.skip_empty-next.ensures _ c.count_cut_off.ensures _ c.in_err-refuse.ensures))

pub returns-in_err-place : goal.returns-in_err-place
returns-in_err-place c =
    let a = c.args in
    let l = c.loop-left in
    rw (passed_on _ _ c.from_residual-in_err-place.ensures.1, l.invariant)
    (sym (rest_refused a.file.now a.header a.cards l.left l.at l.seen c.loop-left-test.true _ c.skip_empty-next.ensures _ c.count_cut_off.ensures (passed _ _ _ c.in_ok-refuse.ensures) _ c.requires _ (c.from-count.ensures ∙ c.read_u16.ensures) _ c.frame_run-run.ensures _ c.in_err-place.ensures))

pub overflow_sub-left : goal.overflow_sub-left
overflow_sub-left c =
    let a = c.args in
    let l = c.loop-left in
    one_left a.file.now a.header a.cards l.left l.at l.seen c.loop-left-test.true _ c.skip_empty-next.ensures

pub loop-left-smaller : goal.loop-left-smaller
loop-left-smaller c =
    let a = c.args in
    let l = c.loop-left in
    omega (
      arith,
      one_left a.file.now a.header a.cards l.left l.at l.seen c.loop-left-test.true _ c.skip_empty-next.ensures,
      no_more a.file.now a.header a.cards l.left l.at l.seen c.loop-left-test.true _ c.skip_empty-next.ensures,
    )

pub loop-left-preserved : goal.loop-left-preserved
loop-left-preserved c =
    let a = c.args in
    let l = c.loop-left in
    elim c.if-not-quick.branch [
      | then-not-quick+in_ok-place w ↦
          rw (l.invariant, w.at-is, w.seen-is)
          (rest_read a.file.now a.header a.cards l.left l.at l.seen c.loop-left-test.true _ c.skip_empty-next.ensures _ c.count_cut_off.ensures (passed _ _ _ c.in_ok-refuse.ensures) _ c.requires _ (c.from-count.ensures ∙ c.read_u16.ensures) _ c.frame_run-run.ensures _ _ w.in_ok-place.ensures)
      | else-not-quick w ↦
          rw (l.invariant, w.at-is, w.seen-is)
          (all_quick a.file.now a.header a.cards l.left l.at l.seen c.loop-left-test.true _ c.skip_empty-next.ensures _ c.count_cut_off.ensures (passed _ _ _ c.in_ok-refuse.ensures) _ c.requires _ (c.from-count.ensures ∙ c.read_u16.ensures) _ c.frame_run-run.ensures w.if-not-quick.false)
    ]

pub returns : goal.returns
returns c =
    let none : c.loop-left.left ≡ 0 = omega arith in
    rw (c.loop-left.invariant, none, frames_end_lem (setting_of c.args.file.now c.args.header c.args.cards) c.args.file.now c.loop-left.at c.loop-left.seen)
