-- The loop's invariant: the frames still to write, behind those that stand, are the whole.
use Prim.Native.Nat.{◌+◌, ◌-◌, ◌*◌, ◌≤◌}
use mathlib.Core.Path.{◌≡◌, refl, ap, ◌∙◌}
use native.Mathlib.Omega.{arith}
use borrow.Author.Rules.{rules}
use lib.ListN.{length, length-append}
use Rattle.base_format.specs.Bytes.{be}
use Rattle.base_master.specs.Places.{frames_end, behind_frame}
use Rattle.base_master.specs.Uses.{uses_at, MarkedFrames, frame_by, frames_by}
use Rattle.base_master.proofs.Master.{frames_behind, frame_within}
use Rattle.base_master.proofs.Numbered.{frames_by_none, frames_by_next}
use Rattle.base_master.proofs.Uses.{frame_marked, frames_marked}
use Rattle.bytes_put_fields.proofs.Writing.{Writing, starts, wrote, ends}
use Rattle.repack_put_frames.proofs.put_frames.Statement.{statement}
use Rattle.repack_put_frames.proofs.put_frames.Tie as tie

abbrev invariant_loop : tie.invariant-loop-left
invariant_loop file start count base spots numbers buffer₀ at from₀ left₀ place₀ used₀ buffer from left place used =
    (frames_end file left from ≤ length file)
    × MarkedFrames file spots used left from
    × Writing (frames_by numbers base 0 file count start) at buffer₀ (frames_by numbers base used file left from) place buffer

abbrev decreases_loop : tie.decreases-loop-left
decreases_loop file start count base spots numbers buffer₀ at from₀ left₀ place₀ used₀ buffer from left place used = left

-- the frame lies in the file
inside : (c : tie.After-read_u16 invariant_loop decreases_loop)
    → c.loop-left.from + (2 + c.read_u16.result * 5) ≤ length c.args.file.now
inside c =
    let l = c.loop-left in
    omega (arith, frame_within c.args.file.now l.left l.from c.loop-left-test.true, c.read_u16.ensures, l.invariant.0)

loop_holds : tie.Need-loop-left-init invariant_loop decreases_loop
loop_holds c =
    let a = c.args in
    let p = c.requires in
    (p.2, p.1, starts (frames_by a.numbers.now a.base 0 a.file.now a.count a.start) a.at a.buffer.now p.4)

put_frame_requires : tie.Need-put_frame-pieces-requires invariant_loop decreases_loop
put_frame_requires c κs =
    let l = c.loop-left in
    let a = c.args in
    let p = c.requires in
    let file = a.file.now in
    let numbers = a.numbers.now in
    let more = c.loop-left-test.true in
    let next = frames_by_next numbers a.base file l.used l.left l.from more in
    let size =
    ap length next ∙ length-append (frame_by numbers a.base l.used file l.from)
    (frames_by numbers a.base (l.used + length (uses_at file (be 2 file l.from) (l.from + 2))) file (l.left - 1) (behind_frame file l.from)) in
    (p.0, frame_marked l.invariant.1 more, omega (arith, frame_within file l.left l.from more, l.invariant.0), p.3, omega (arith, size, l.invariant.2.fits))

loop_again : tie.Need-loop-left-preserved invariant_loop decreases_loop
loop_again c =
    let l = c.loop-left in
    let a = c.args in
    let file = a.file.now in
    let numbers = a.numbers.now in
    let more = c.loop-left-test.true in
    let place = l.from + (2 + c.read_u16.result * 5) in
    let behind : behind_frame file l.from ≡ place = omega (arith, c.read_u16.ensures) in
    let wrote-frame = c.put_frame-pieces.ensures in
    let here = frame_by numbers a.base l.used file l.from in
    rw (← behind, wrote-frame.2) (
      omega (arith, frames_behind file l.left l.from more, l.invariant.0),
      frames_marked l.invariant.1 more refl,
      wrote l.invariant.2 here (frames_by numbers a.base (l.used + length (uses_at file (be 2 file l.from) (l.from + 2))) file (l.left - 1) (behind_frame file l.from)) (length here)
          (frames_by_next numbers a.base file l.used l.left l.from more) refl wrote-frame.1 wrote-frame.0,
    )

returns : tie.Need-returns invariant_loop decreases_loop
returns c =
    let l = c.loop-left in
    let a = c.args in
    let none : l.left ≡ 0 = omega arith in
    (ends l.invariant.2 (rw none (frames_by_none a.numbers.now a.base a.file.now l.used l.from))).0

pub put_frames_spec : {M : Type 1} → statement M
put_frames_spec =
    tie.close
    (tie.spec invariant_loop decreases_loop loop_holds put_frame_requires (search rules) (search rules) (λ c. omega (arith, inside c)) (λ c. omega (arith, inside c)) (λ c. omega (arith, inside c))
    (search rules) (search rules) loop_again (search rules) returns)
