-- `play_store_plain::store_writes` meets its contract: each turn stores the next write.
use Rattle.std.proofs.Common.{arith, ◌∙◌, ◌≡◌, ◌≤◌, length}
use Rattle.play_store_plain.specs.Stored.{storable}
use Rattle.play_store_plain.proofs.Writes.{storable_fits, pasted_next, stored_is}
use Rattle.play_store_plain.proofs.store_writes.Goals as goal

pub nth_write-requires : goal.nth_write-requires
nth_write-requires c =
    let a = c.args in
    (storable_fits (length a.run.now) (length a.file.now) a.version a.from a.count).1 c.loop-i.i (omega (arith, c.storable-stop.ensures))

-- what is stored fits into the run
inside : (c : goal.After-nth_write) → c.storable-stop.result ≤ length c.args.run.now
inside c =
    let a = c.args in
    omega (arith, c.storable-stop.ensures, (storable_fits (length a.run.now) (length a.file.now) a.version a.from a.count).0)

pub offset_bounds-run-i : goal.offset_bounds-run-i
offset_bounds-run-i c = omega (arith, inside c)

pub bounds-run-i : goal.bounds-run-i
bounds-run-i c = omega (arith, inside c)

pub loop-i-preserved : goal.loop-i-preserved
loop-i-preserved c =
    let a = c.args in
    rw (c.nth_write.ensures, c.loop-i.invariant) (pasted_next a.file.now a.version a.from a.count a.run.now c.loop-i.i (omega (arith, c.storable-stop.ensures)))

pub returns : goal.returns
returns c =
    let a = c.args in
    let all : c.loop-i.i ≡ storable (length a.run.now) (length a.file.now) a.version a.from a.count = omega (arith, c.storable-stop.ensures) in
    c.loop-i.invariant ∙ rw all (stored_is a.file.now a.version a.from a.count a.run.now)
