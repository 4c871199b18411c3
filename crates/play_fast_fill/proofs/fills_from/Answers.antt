-- `play_fast_fill::fills_from` meets its contract: each turn takes the step of the walk that its tests say.
use Rattle.std.proofs.Common.{◌≡◌, ◌+◌, ◌-◌, true, false, sym, ◌∙◌, arith, le-ltb, lt-ltb}
use borrow.Author.Tests.{le-leb, lt-leb}
use lib.Dec.{leb}
use Rattle.bytes_operation_known.proofs.Laws.{fill_size_lem}
use Rattle.play_fast_fill.specs.Fills.{count_at}
use Rattle.play_fast_fill.proofs.Counts.{count_past, count_read, count_low}
use Rattle.play_fast_fill.proofs.Steps.{fills_end, fills_full, fills_none, fills_step}
use Rattle.play_fast_fill.proofs.fills_from.Goals as goal

pub returns-then-free-eq0 : goal.returns-then-free-eq0
returns-then-free-eq0 c =
    let a = c.args in
    rw (c.loop-i.invariant, c.if-free-eq0.true, fills_full a.file.now a.width a.starts.now a.ends.now a.limit (a.left - c.loop-i.i))

pub returns-then-passes : goal.returns-then-passes
returns-then-passes c =
    let a = c.args in
    let l = c.loop-i in
    let past = count_past a.file.now a.width a.starts.now a.ends.now a.limit l.at (sym c.passes.ensures ∙ c.if-passes.true) in
    let none : leb (count_at a.file.now a.width a.starts.now a.ends.now a.limit l.at) l.done ≡ true = rw past (le-leb 0 l.done (omega arith)) in
    rw (l.invariant, fills_none a.file.now a.width a.starts.now a.ends.now a.limit (a.left - l.i) l.free l.at l.done (omega arith) (omega arith) none)

pub returns-then-count-done : goal.returns-then-count-done
returns-then-count-done c =
    let a = c.args in
    let l = c.loop-i in
    let read = count_read a.file.now a.width a.starts.now a.ends.now a.limit l.at _ _ _ c.passes.ensures c.if-passes.false c.window-bytes.ensures c.fill_count-count.ensures in
    let none : leb (count_at a.file.now a.width a.starts.now a.ends.now a.limit l.at) l.done ≡ true = rw (read, le-leb _ _ c.if-count-done.true) in
    rw (l.invariant, fills_none a.file.now a.width a.starts.now a.ends.now a.limit (a.left - l.i) l.free l.at l.done (omega arith) (omega arith) none)

pub returns-then-free-rest : goal.returns-then-free-rest
returns-then-free-rest c =
    let a = c.args in
    let l = c.loop-i in
    let read = count_read a.file.now a.width a.starts.now a.ends.now a.limit l.at _ _ _ c.passes.ensures c.if-passes.false c.window-bytes.ensures c.fill_count-count.ensures in
    let taken : leb (count_at a.file.now a.width a.starts.now a.ends.now a.limit l.at) l.done ≡ false = rw (read, lt-leb _ _ c.if-count-done.false) in
    let step = fills_step a.file.now a.width a.starts.now a.ends.now a.limit (a.left - l.i) l.free l.at l.done (omega arith) (omega arith) taken in
    rw (l.invariant, step, read, lt-ltb l.free (c.fill_count-count.result - l.done) (omega arith))

pub loop-i-preserved : goal.loop-i-preserved
loop-i-preserved c =
    let a = c.args in
    let l = c.loop-i in
    let read = count_read a.file.now a.width a.starts.now a.ends.now a.limit l.at _ _ _ c.passes.ensures c.if-passes.false c.window-bytes.ensures c.fill_count-count.ensures in
    let low = count_low a.width c.window-bytes.result.now a.starts.now a.ends.now c.fill_count-count.result l.done c.fill_count-count.ensures (omega arith) in
    let taken : leb (count_at a.file.now a.width a.starts.now a.ends.now a.limit l.at) l.done ≡ false = rw (read, lt-leb _ _ c.if-count-done.false) in
    let step = fills_step a.file.now a.width a.starts.now a.ends.now a.limit (a.left - l.i) l.free l.at l.done (omega arith) (omega arith) taken in
    let sized = c.fill_size_in-at.ensures.0 ∙ fill_size_lem a.width c.window-bytes.result.now low (omega arith) (omega arith) in
    let left : a.left - l.i - 1 ≡ a.left - (l.i + 1) = omega arith in
    rw (l.invariant, step, read, le-ltb l.free (c.fill_count-count.result - l.done) (omega arith), sized, c.window-bytes.ensures, left)

pub returns : goal.returns
returns c =
    let a = c.args in
    let all : a.left - c.loop-i.i ≡ 0 = omega arith in
    rw (c.loop-i.invariant, all, fills_end a.file.now a.width a.starts.now a.ends.now a.limit)
