-- The turns that are left mix the rest.
use Rattle.std.proofs.Common.{◌≡◌, ◌-◌}
use Rattle.test_records.specs.Mixed.{mixed_in, mixed_call}
use Rattle.test_records.proofs.mix_call.Given as goal

abbrev pub invariant-loop-turn : goal.invariant-loop-turn
invariant-loop-turn l = mixed_call l.fn.file l.fn.state l.fn.count l.fn.room ≡ mixed_in (l._turn-end - l._turn) l.fn.file l.fn.state l.place l.mixed
