-- The loop's invariant: the bytes still to write, behind those that stand, are the whole.
use Prim.Native.Nat.{◌+◌, ◌-◌, ◌*◌}
use mathlib.Core.Path.{◌≡◌, refl}
use mathlib.Core.List.{[], ◌∷◌}
use native.Mathlib.Omega.{arith}
use borrow.Author.Rules.{rules}
use Rattle.base_format.specs.Bytes.{byte}
use Rattle.base_master.specs.Places.{values_at}
use Rattle.base_master.proofs.Pieces.{values_next, values_none, values_count}
use Rattle.bytes_read.proofs.Sequence.{put_byte}
use Rattle.bytes_put_fields.proofs.Writing.{Writing, starts, wrote, ends}
use Rattle.repack_put_payloads.proofs.put_wave.Statement.{statement}
use Rattle.repack_put_payloads.proofs.put_wave.Tie as tie

abbrev invariant_loop : tie.invariant-loop-left
invariant_loop file start buffer₀ at from₀ left₀ place₀ buffer from left place =
    (from + left * 5 ≡ start + 1280) × Writing (values_at file 256 start) at buffer₀ (values_at file left from) place buffer

abbrev decreases_loop : tie.decreases-loop-left
decreases_loop file start buffer₀ at from₀ left₀ place₀ buffer from left place = left

loop_holds : tie.Need-loop-left-init invariant_loop decreases_loop
loop_holds c =
    let a = c.args in
    (refl, starts (values_at a.file.now 256 a.start) a.at a.buffer.now (rw (values_count a.file.now 256 a.start) c.requires.1))

slice_write_buffer : tie.Need-bounds-buffer-place invariant_loop decreases_loop
slice_write_buffer c =
    let l = c.loop-left in
    omega (arith, values_count c.args.file.now l.left l.from, l.invariant.1.fits)

add_place : tie.Need-overflow_add-place invariant_loop decreases_loop
add_place c =
    let l = c.loop-left in
    omega (arith, values_count c.args.file.now l.left l.from, l.invariant.1.fits)

loop_again : tie.Need-loop-left-preserved invariant_loop decreases_loop
loop_again c =
    let l = c.loop-left in
    let file = c.args.file.now in
    let value = byte file (l.from + 4) in
    let room = values_count file l.left l.from in
    let next = values_next file l.left l.from c.loop-left-test.true in
    (omega arith, wrote l.invariant.1 (value ∷ []) (values_at file (l.left - 1) (l.from + 5)) 1 next refl refl (put_byte value l.place l.buffer (omega (arith, l.invariant.1.fits))))

returns : tie.Need-returns invariant_loop decreases_loop
returns c =
    let l = c.loop-left in
    let none : l.left ≡ 0 = omega arith in
    (ends l.invariant.1 (rw none (values_none c.args.file.now l.from))).0

pub put_wave_spec : {M : Type 1} → statement M
put_wave_spec =
    tie.close
    (tie.spec invariant_loop decreases_loop loop_holds (search rules) (search rules) slice_write_buffer add_place (search rules) (search rules) (search rules) loop_again (search rules) returns)
