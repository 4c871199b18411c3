-- An item that is read leaves one fewer, and none are left at the end.
use Rattle.std.proofs.Common.{◌≡◌, ◌-◌, ◌+◌, ◌∙◌, arith}
use Rattle.base_format.specs.Operation.{setting_of}
use Rattle.check_items.proofs.Steps.{walk_next, walk_end}
use Rattle.check_items.proofs.walk.check_operations.Goals as goal

pub loop-i-preserved : goal.loop-i-preserved
loop-i-preserved c =
    let a = c.args in
    let l = c.loop-i in
    let less : a.count - (l._i + 1) ≡ a.count - l._i - 1 = omega arith in
    rw (less, c.target_number.ensures)
    (l.invariant ∙ walk_next l.si22 (setting_of a.file.now a.header a.cards) a.file.now a.limit (a.count - l._i) l.at c.in_ok-item.item (omega arith) c.in_ok-item.ensures)

pub returns : goal.returns
returns c =
    let none : c.args.count - c.loop-i._i ≡ 0 = omega arith in
    rw (c.loop-i.invariant, none, walk_end c.loop-i.si22 (setting_of c.args.file.now c.args.header c.args.cards) c.args.file.now c.args.limit c.loop-i.at)
