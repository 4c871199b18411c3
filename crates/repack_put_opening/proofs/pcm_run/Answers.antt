-- A record of PCM memory whose address is the next one is counted, and any other record is passed over.
use Prim.Native.Nat.{ℕ, ◌+◌, ◌-◌, ◌*◌, ◌<◌}
use mathlib.Core.List.{List}
use mathlib.Core.Path.{◌≡◌, sym, ◌∙◌}
use native.Mathlib.Omega.{arith}
use Rattle.base_master.specs.Places.{records_at}
use Rattle.base_master.specs.Result.{pcm_from}
use Rattle.base_master.proofs.Result.{pcm_more, pcm_other}
use Rattle.repack_put_opening.proofs.pcm_run.Goals.{then-record-eq2+else-record-pcm, else-record-eq2}
use Rattle.repack_put_opening.proofs.pcm_run.Goals as goal

-- the records behind the next one
rest : (file : List ℕ) (from from' count i : ℕ) → i < count → from ≡ from' → pcm_from from (records_at file (count - i - 1) (20 + i * 5 + 5)) ≡ pcm_from from' (records_at file (count - (i + 1)) (20 + (i + 1) * 5))
rest file from from' count i more same =
    let fewer : count - i - 1 ≡ count - (i + 1) = omega arith in
    let place : 20 + i * 5 + 5 ≡ 20 + (i + 1) * 5 = omega arith in
    rw (fewer, place, same)

pub loop-i-preserved : goal.loop-i-preserved
loop-i-preserved c =
    let l = c.loop-i in
    let file = c.args.file.now in
    let count = c.args.count in
    let more = c.loop-i-test.true in
    let at = 20 + l.i * 5 in
    let is = c.record_at-record.ensures in
    elim c.if-record-eq2.branch [
      | then-record-eq2+else-record-pcm w ↦ record {
        few = omega (arith, w.pcm-is, l.invariant.few);
        same = l.invariant.same ∙ pcm_more file l.pcm (count - l.i) at (omega arith) (sym is.0 ∙ w.if-record-eq2.true) (sym is.1 ∙ w.if-record-pcm.false) ∙ rest file (l.pcm + 1) _ count l.i more (sym w.pcm-is);
      }
      | else-record-eq2 w ↦ record {
        few = omega (arith, w.pcm-is, l.invariant.few);
        same = l.invariant.same ∙ pcm_other file l.pcm (count - l.i) at (omega arith) (λ e. w.if-record-eq2.false (is.0 ∙ e)) ∙ rest file l.pcm _ count l.i more (sym w.pcm-is);
      }
    ]
