-- `play_store_fill::store_fills` meets its contract: each turn goes on to the next place and stores its record.
use Rattle.std.proofs.Common.{arith, ◌∙◌, refl, ◌≡◌, ◌+◌, length, min}
use Rattle.play_store_fill.proofs.Fills.{placed, placed_none, placed_next, pasted_next, stored_is}
use Rattle.play_store_fill.proofs.store_fills.Goals as goal

pub loop-i-init : goal.loop-i-init
loop-i-init c = (
  c.fill_place-place.ensures ∙ placed_none c.args.file.now c.args.version c.args.from c.args.made,
  refl,
)

pub loop-i-preserved : goal.loop-i-preserved
loop-i-preserved c =
    let a = c.args in
    let next : c.next_fill-place.result ≡ placed a.file.now a.version a.from a.made (c.loop-i.i + 1) =
    c.next_fill-place.ensures ∙ rw c.loop-i.invariant.0 (placed_next a.file.now a.version a.from a.made c.loop-i.i) in
    (next, rw (next, c.loop-i.invariant.1) (pasted_next a.file.now a.version a.from a.made a.count a.run.now c.loop-i.i (omega (arith, c.min-i-end.ensures))))

pub returns : goal.returns
returns c =
    let a = c.args in
    let all : c.loop-i.i ≡ min (length a.run.now) a.count = omega (arith, c.min-i-end.ensures) in
    c.loop-i.invariant.1 ∙ rw all (stored_is a.file.now a.version a.from a.made a.count a.run.now)
