-- The records at the two places have the same byte, and the records behind them decide.
use Prim.Native.Nat.{◌+◌, ◌*◌, ◌-◌}
use mathlib.Core.Path.{◌≡◌, ◌∙◌}
use native.Mathlib.Omega.{arith}
use borrow.Author.Tests.{eq-eqb}
use Rattle.base_master.proofs.Pieces.{same_next}
use Rattle.repack_wave_hash.proofs.same_wave.Goals as goal

pub loop-i-preserved : goal.loop-i-preserved
loop-i-preserved c =
    let l = c.loop-i in
    let fewer : 256 - (l._i + 1) ≡ 256 - l._i - 1 = omega arith in
    let next = same_next c.args.file.now (256 - l._i) l.one l.other (omega arith) in
    record {
      one = omega (arith, l.invariant.one);
      other = omega (arith, l.invariant.other);
      same = l.invariant.same ∙ next ∙ rw (eq-eqb _ _ c.if-file-one.false, fewer);
    }
