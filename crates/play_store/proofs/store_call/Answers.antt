-- `play_store::store_call` meets its contract: each turn stores a segment, and what is still to be stored behind it is what was to be
-- stored before.
use Rattle.std.proofs.Common.{arith, sym, ◌∙◌}
use Rattle.play_segments.proofs.Fewer.{turn_less}
use Rattle.play_store.proofs.Storing.{stored_none, stored_step, call_is}
use Rattle.play_store.proofs.store_call.Goals as goal

pub loop-place-init : goal.loop-place-init
loop-place-init c = rw c.first_place-place.ensures (sym (call_is c.args.file.now c.args.state c.args.count c.args.run.now))

pub loop-place-smaller : goal.loop-place-smaller
loop-place-smaller c = rw c.next_segment-turn.ensures (turn_less c.args.file.now c.args.state c.loop-place.place (omega arith))

pub loop-place-preserved : goal.loop-place-preserved
loop-place-preserved c =
    c.loop-place.invariant
    ∙ stored_step c.args.file.now c.args.state c.loop-place.place c.loop-place.run (omega arith)
    ∙ rw (c.store_segment.ensures, c.next_segment-turn.ensures)

pub returns : goal.returns
returns c =
    sym (c.loop-place.invariant ∙ stored_none c.args.file.now c.args.state c.loop-place.place c.loop-place.run (omega arith))
