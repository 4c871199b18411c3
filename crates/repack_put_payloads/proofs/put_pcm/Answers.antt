-- The loop's invariant: the bytes still to write, behind those that stand, are the whole.
use Prim.Native.Nat.{◌+◌, ◌-◌, ◌*◌, ◌≤◌}
use mathlib.Core.Path.{◌≡◌, refl, sym, ap, ◌∙◌}
use mathlib.Core.List.{[], ◌∷◌}
use Rattle.repack_put_payloads.proofs.put_pcm.Goals.{then-taken, else-taken}
use native.Mathlib.Omega.{arith}
use lib.ListN.{length, set}
use Rattle.base_format.specs.Bytes.{byte}
use Rattle.base_master.specs.Result.{pcm_bytes}
use Rattle.base_master.proofs.Result.{pcm_byte, pcm_skip, opening_none}
use Rattle.bytes_read.proofs.Sequence.{put_byte}
use Rattle.bytes_put_fields.proofs.Writing.{starts, wrote, told, ends}
use Rattle.repack_put_payloads.proofs.put_pcm.Goals as goal

pub loop-left-init : goal.loop-left-init
loop-left-init c =
    let a = c.args in
    (c.requires.0, starts (pcm_bytes a.file.now a.count 20) a.at a.buffer.now c.requires.1)

pub bounds-buffer-place : goal.bounds-buffer-place
bounds-buffer-place c =
    omega (arith, ap length (pcm_byte c.args.file.now _ _ c.loop-left-test.true (sym c.record_at-record.ensures.0 ∙ c.if-taken.true)), c.loop-left.invariant.1.fits)

pub loop-left-preserved : goal.loop-left-preserved
loop-left-preserved c =
    let l = c.loop-left in
    let file = c.args.file.now in
    let more = c.loop-left-test.true in
    let is = c.record_at-record.ensures in
    let rest = pcm_bytes file (l.left - 1) (l.from + 5) in (
      omega arith,
      elim c.if-taken.branch [
        | then-taken w ↦
            let one = pcm_byte file l.left l.from more (sym is.0 ∙ w.if-taken.true) in
            wrote l.invariant.1 (byte file (l.from + 4) ∷ []) rest 1 one refl w.place-is
            (w.buffer-is ∙ ap (set l.buffer l.place) is.2 ∙ put_byte (byte file (l.from + 4)) l.place l.buffer (omega (arith, ap length one, l.invariant.1.fits)))
        | else-taken w ↦ told l.invariant.1 rest (pcm_skip file l.left l.from more (λ e. w.if-taken.false (is.0 ∙ e))) w.place-is w.buffer-is
      ],
    )

pub overflow_add-place : goal.overflow_add-place
overflow_add-place c = omega (arith, bounds-buffer-place c)

pub returns : goal.returns
returns c = let none : c.loop-left.left ≡ 0 = omega arith in (ends c.loop-left.invariant.1 (rw none (opening_none c.args.file.now c.loop-left.from).0)).0
