-- The loop's invariant: what is known, noted and measured, with what the frames still to take add, is the whole.
use Prim.Native.Nat.{◌+◌, ◌-◌, ◌*◌, ◌≤◌}
use mathlib.Core.Path.{◌≡◌, refl, sym, ◌∙◌}
use mathlib.Core.List.{[], ◌++◌, append-nil}
use native.Mathlib.Omega.{arith}
use borrow.Author.Rules.{rules}
use lib.ListN.{length, take}
use Rattle.base_master.specs.Places.{frames_end, behind_frame}
use Rattle.repack_wave_table.specs.Table.{waves_in, Table}
use Rattle.base_master.specs.Result.{all_waves, frame_bytes}
use Rattle.base_master.proofs.Master.{frames_rise, frame_within}
use Rattle.base_master.specs.Uses.{all_uses}
use Rattle.base_master.proofs.Result.{all_none, frames_none}
use Rattle.base_master.proofs.Uses.{all_uses_none}
use Rattle.repack_measure.specs.Measured.{notes, notes_over, Noted}
use Rattle.repack_measure.proofs.Noted.{onward, notes_onward}
use Rattle.repack_measure.proofs.measure_frames.Statement.{statement}
use Rattle.repack_measure.proofs.measure_frames.Tie as tie

abbrev invariant_loop : tie.invariant-loop-left
invariant_loop file start count heads₀ next₀ places₀ spots₀ numbers₀ at₀ left₀ waves₀ uses₀ size₀ heads next places spots numbers at left waves uses size =
    (frames_end file left at ≤ length file)
    × Table file heads next places waves
    × (all_waves [] file count start ≡ all_waves (waves_in file places waves) file left at)
    × (length (frame_bytes 0 [] file count start) ≡ size + length (frame_bytes 0 [] file left at))
    × (waves * 1280 ≤ at)
    × (size ≤ at * 2)
    × Noted file places spots numbers waves uses
    × (all_uses file count start ≡ take uses spots ++ all_uses file left at)
    × (uses * 1280 ≤ at)
    × (notes_over file (notes heads₀ next₀ places₀ 0 spots₀ numbers₀ 0) (all_uses file count start) ≡ notes_over file (notes heads next places waves spots numbers uses) (all_uses file left at))

abbrev decreases_loop : tie.decreases-loop-left
decreases_loop file start count heads₀ next₀ places₀ spots₀ numbers₀ at₀ left₀ waves₀ uses₀ size₀ heads next places spots numbers at left waves uses size = left

-- the frame lies in the file
inside : (c : tie.After-struct_known-1 invariant_loop decreases_loop)
    → c.loop-left.at + (2 + c.read_u16-records.result * 5) ≤ length
    c.args.file.now
inside c =
    let l = c.loop-left in
    omega (arith, frame_within c.args.file.now l.left l.at c.loop-left-test.true, c.read_u16-records.ensures, l.invariant.0)

loop_holds : tie.Need-loop-left-init invariant_loop decreases_loop
loop_holds c = (c.requires.2, c.requires.0, refl, omega arith, omega arith, omega arith, c.requires.1, refl, omega arith, refl)

add_measure_frame : tie.Need-overflow_add-at invariant_loop decreases_loop
add_measure_frame c =
    let l = c.loop-left in
    omega (arith, frame_within c.args.file.now l.left l.at c.loop-left-test.true)

measure_frame_requires : tie.Need-measure_frame-frame-requires invariant_loop decreases_loop
measure_frame_requires c κs =
    let l = c.loop-left in
    let within = frame_within c.args.file.now l.left l.at c.loop-left-test.true in
    (l.invariant.1, l.invariant.6, omega (arith, within, c.read_u16-records.ensures, l.invariant.0), omega arith, omega arith, c.requires.3)

add_size : tie.Need-overflow_add-size invariant_loop decreases_loop
add_size c = omega (arith, c.measure_frame-frame.ensures.0.small, inside c)

add_size_2 : tie.Need-overflow_add-size-in-loop-left invariant_loop decreases_loop
add_size_2 c = omega (arith, c.measure_frame-frame.ensures.0.small, inside c)

mul_at : tie.Need-overflow_mul-at invariant_loop decreases_loop
mul_at c = omega (arith, inside c)

add_at : tie.Need-overflow_add-at-in-loop-left invariant_loop decreases_loop
add_at c = omega (arith, inside c)

add_at_2 : tie.Need-overflow_add-at-in-loop-left-2 invariant_loop decreases_loop
add_at_2 c = omega (arith, inside c)

sub_left : tie.Need-overflow_sub-left invariant_loop decreases_loop
sub_left c = omega arith

loop_less : tie.Need-loop-left-smaller invariant_loop decreases_loop
loop_less c = omega arith

loop_again : tie.Need-loop-left-preserved invariant_loop decreases_loop
loop_again c =
    let l = c.loop-left in
    let frame = c.measure_frame-frame.ensures.0 in
    let file = c.args.file.now in
    let place = l.at + (2 + c.read_u16-records.result * 5) in
    let behind : behind_frame file l.at ≡ place = omega (arith, c.read_u16-records.ensures) in
    let on = onward file l.left l.at l.waves l.uses l.places l.spots _ _ _ _ _ _ _ _ _ place c.loop-left-test.true (sym c.read_u16-records.ensures) behind frame in (
      omega (arith, on.end_on, l.invariant.0),
      frame.table,
      l.invariant.2 ∙ on.waves_on,
      omega (arith, on.size_on, l.invariant.3),
      omega (arith, frame.few),
      omega (arith, frame.small),
      frame.noting,
      l.invariant.7 ∙ on.uses_on,
      omega (arith, frame.few_uses),
      l.invariant.9 ∙ notes_onward file l.left l.at _ place _ _ c.loop-left-test.true (sym c.read_u16-records.ensures) behind c.measure_frame-frame.ensures.1,
    )

returns : tie.Need-returns invariant_loop decreases_loop
unfolding notes_over
returns c =
    let l = c.loop-left in
    let file = c.args.file.now in
    let none : l.left ≡ 0 = omega arith in (
      record {
        noting = l.invariant.6;
        waves_are = l.invariant.2 ∙ rw (none, all_none);
        size_is = l.invariant.3 ∙ rw (none, frames_none) (omega arith);
        small = omega (arith, frames_rise file l.left l.at);
        uses_are = l.invariant.7 ∙ rw (none, all_uses_none, append-nil);
        few = l.invariant.1.few;
        places_size = l.invariant.1.places_size;
        inside = l.invariant.1.inside;
      },
      sym (l.invariant.9 ∙ rw (none, all_uses_none)),
    )

pub measure_frames_spec : {M : Type 1} → statement M
measure_frames_spec =
    tie.close
    (tie.spec invariant_loop decreases_loop loop_holds (search rules) (search rules) add_measure_frame measure_frame_requires add_size add_size_2 mul_at add_at add_at_2 sub_left loop_less loop_again
    returns)
