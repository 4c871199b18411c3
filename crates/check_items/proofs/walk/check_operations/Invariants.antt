-- What is seen, with what the items that are left say, is the whole.
use Rattle.std.proofs.Common.{◌≡◌, ◌-◌}
use Rattle.base_format.specs.Operation.{setting_of}
use Rattle.check_items.specs.Walk.{walked, walked_with}
use Rattle.check_items.proofs.walk.check_operations.Given as goal

abbrev pub invariant-loop-i : goal.invariant-loop-i
invariant-loop-i l =
    walked (setting_of l.file l.header l.cards) l.file l.limit l.count l.start ≡ walked_with l.si22 (setting_of l.file l.header l.cards) l.file l.limit (l.count - l._i) l.at
