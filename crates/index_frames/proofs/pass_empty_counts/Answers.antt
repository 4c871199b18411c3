-- Two numbers of 4 bytes that are 0 are the counts of four empty frames.
use Rattle.std.proofs.Common.{◌+◌, ◌≤◌, arith, sym}
use borrow.Author.Tests.{ltb-false}
use Rattle.index_laws.specs.Frames.{walk_limit}
use Rattle.index_laws.proofs.Empty.{four_passed}
use Rattle.index_frames.proofs.pass_empty_counts.Goals as goal

pub loop-i-preserved : goal.loop-i-preserved
loop-i-preserved c =
    let at = c.loop-i.at in
    let room : at + 8 ≤ walk_limit c.args.file.now = omega (arith, ltb-false _ _ (sym c.if-passes.ensures)) in
    record {
      passed = four_passed _ _ _ _ _ c.loop-i.invariant.passed (omega arith) room (omega arith) (omega arith);
      four = omega arith;
    }
