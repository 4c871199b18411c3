-- The loop's invariant: what is known, noted and measured, with what the records still to take add, is the whole.
use Prim.Native.Nat.{ℕ, ◌+◌, ◌-◌, ◌*◌, ◌≤◌}
use mathlib.Core.Path.{◌≡◌, refl, sym, ap, ◌∙◌}
use mathlib.Core.Bool.{true}
use mathlib.Core.List.{List, [], ◌++◌, append-nil}
use native.Mathlib.Omega.{arith}
use borrow.Author.Rules.{rules}
use lib.ListN.{length, take}
use Rattle.base_format.specs.Repack.{starts_wave}
use Rattle.base_master.specs.Places.{records_at}
use Rattle.base_master.specs.Result.{frame_waves, piece_bytes}
use Rattle.base_master.specs.Uses.{uses_at}
use Rattle.base_master.proofs.Pieces.{wave_long}
use Rattle.base_master.proofs.Result.{waves_none, waves_wave, waves_single, size_none, size_wave, size_single}
use Rattle.base_master.proofs.Uses.{uses_none, uses_wave, uses_single}
use Rattle.repack_wave_table.specs.Table.{waves_in, Table}
use Rattle.repack_wave_table.proofs.Table.{number_few}
use Rattle.repack_measure.specs.Measured.{notes, notes_over, Noted}
use Rattle.repack_measure.proofs.Noted.{noted_more, taken_more, notes_more}
use Rattle.repack_measure.proofs.measure_frame.Statement.{statement}
use Rattle.repack_measure.proofs.measure_frame.Tie as tie

abbrev invariant_loop : tie.invariant-loop-left
invariant_loop file start count known noted heads₀ next₀ places₀ spots₀ numbers₀ write copy at₀ left₀ waves₀ uses₀ size₀ heads next places spots numbers at left waves uses size =
    (at + left * 5 ≡ start + count * 5)
    × Table file heads next places waves
    × (frame_waves (waves_in file places₀ known) file count start ≡ frame_waves (waves_in file places waves) file left at)
    × (length (piece_bytes 0 [] file count start) ≡ size + length (piece_bytes 0 [] file left at))
    × (waves * 1280 ≤ at)
    × (size + left * 6 ≤ count * 6)
    × Noted file places spots numbers waves uses
    × (take noted spots₀ ++ uses_at file count start ≡ take uses spots ++ uses_at file left at)
    × (uses * 1280 ≤ at)
    × (notes_over file (notes heads₀ next₀ places₀ known spots₀ numbers₀ noted) (uses_at file count start) ≡ notes_over file (notes heads next places waves spots numbers uses) (uses_at file left at))

abbrev decreases_loop : tie.decreases-loop-left
decreases_loop file start count known noted heads₀ next₀ places₀ spots₀ numbers₀ write copy at₀ left₀ waves₀ uses₀ size₀ heads next places spots numbers at left waves uses size = left

-- a wave starts, and its records lie in the file
starts : (c : tie.Then-starts_wave invariant_loop decreases_loop) → starts_wave (records_at c.args.file.now c.loop-left.left c.loop-left.at) ≡ true
starts c = sym c.starts_wave.ensures ∙ c.if-starts_wave.true

long : (c : tie.Then-starts_wave invariant_loop decreases_loop) → 256 ≤ c.loop-left.left
long c = let l = c.loop-left in wave_long c.args.file.now l.left l.at (starts c)

few : (c : tie.After-add_wave-wave invariant_loop decreases_loop) → c.add_wave-wave.result.number ≤ 11468
few c =
    let l = c.loop-left in
    omega (arith, c.add_wave-wave.ensures.number_is, number_few c.args.file.now l.heads l.next l.places l.waves l.at l.invariant.1)

loop_holds : tie.Need-loop-left-init invariant_loop decreases_loop
loop_holds c = let p = c.requires in (refl, p.0, refl, omega arith, omega arith, omega arith, p.1, refl, p.4, refl)

add_wave_requires : tie.Need-add_wave-wave-requires invariant_loop decreases_loop
add_wave_requires c κs =
    let l = c.loop-left in
    let more = long c.before.before.before in
    (l.invariant.1, omega arith, l.invariant.4, c.requires.5)

note_use_requires : tie.Need-note_use-requires invariant_loop decreases_loop
note_use_requires c κs =
    let l = c.loop-left in
    let more = long c.before.before.before.before.before.before in
    (l.invariant.6.spots_size, l.invariant.6.numbers_size, omega arith, omega arith, omega (arith, few c.before.before))

add_uses : tie.Need-overflow_add-uses invariant_loop decreases_loop
add_uses c = omega arith

add_at : tie.Need-overflow_add-at invariant_loop decreases_loop
add_at c = omega (arith, long c.before.before.before.before.before.before.before)

sub_left : tie.Need-overflow_sub-left invariant_loop decreases_loop
sub_left c = long c.before.before.before.before.before.before.before

add_size : tie.Need-overflow_add-size invariant_loop decreases_loop
add_size c = omega arith

loop_less : tie.Need-loop-left-smaller-then-starts_wave invariant_loop decreases_loop
loop_less c = omega (arith, long c.before.before.before.before.before.before.before)

loop_again : tie.Need-loop-left-preserved-then-starts_wave invariant_loop decreases_loop
loop_again c =
    let l = c.loop-left in
    let file = c.args.file.now in
    let wave = starts c.before.before.before.before.before.before.before in
    let records = long c.before.before.before.before.before.before.before in
    let more = c.add_wave-wave.ensures in
    let noting = c.note_use.ensures in (
      omega arith,
      more.table,
      l.invariant.2 ∙ waves_wave file (waves_in file l.places l.waves) l.left l.at wave ∙ ap (λ (known : List (List ℕ)). frame_waves known file (l.left - 256) (l.at + 1280)) (sym more.waves),
      omega (arith, l.invariant.3, size_wave file 0 [] l.left l.at wave),
      omega (arith, more.more),
      omega arith,
      rw (noting.0, noting.1) (noted_more l.invariant.6 more (omega arith) (few c.before.before.before)),
      l.invariant.7 ∙ rw (uses_wave file l.left l.at wave, noting.0) (taken_more l.invariant.6 l.at (omega arith) (uses_at file (l.left - 256) (l.at + 1280))),
      omega arith,
      l.invariant.9 ∙ rw (uses_wave file l.left l.at wave) (notes_more l.spots l.numbers l.uses more noting.0 noting.1 (uses_at file (l.left - 256) (l.at + 1280))),
    )

add_at_2 : tie.Need-overflow_add-at-else-starts_wave invariant_loop decreases_loop
add_at_2 c = omega arith

sub_left_2 : tie.Need-overflow_sub-left-else-starts_wave invariant_loop decreases_loop
sub_left_2 c = omega arith

add_size_2 : tie.Need-overflow_add-size-else-starts_wave invariant_loop decreases_loop
add_size_2 c = omega arith

loop_less_2 : tie.Need-loop-left-smaller invariant_loop decreases_loop
loop_less_2 c = omega arith

loop_again_2 : tie.Need-loop-left-preserved invariant_loop decreases_loop
loop_again_2 c =
    let l = c.loop-left in
    let file = c.args.file.now in
    let some = c.loop-left-test.true in
    let single = sym c.starts_wave.ensures ∙ c.if-starts_wave.false in (
      omega arith,
      l.invariant.1,
      l.invariant.2 ∙ waves_single file (waves_in file l.places l.waves) l.left l.at some single,
      omega (arith, l.invariant.3, size_single file 0 [] l.left l.at some single),
      omega arith,
      omega arith,
      l.invariant.6,
      l.invariant.7 ∙ ap (λ (u : List ℕ). take l.uses l.spots ++ u) (uses_single file l.left l.at some single),
      omega arith,
      l.invariant.9 ∙ ap (notes_over file (notes l.heads l.next l.places l.waves l.spots l.numbers l.uses)) (uses_single file l.left l.at some single),
    )

returns : tie.Need-returns invariant_loop decreases_loop
unfolding notes_over
returns c =
    let l = c.loop-left in
    let file = c.args.file.now in
    let none : l.left ≡ 0 = omega arith in (
      record {
        table = l.invariant.1;
        noting = l.invariant.6;
        waves_are = l.invariant.2 ∙ rw (none, waves_none);
        uses_are = l.invariant.7 ∙ rw (none, uses_none, append-nil);
        size_is = l.invariant.3 ∙ rw (none, size_none) (omega arith);
        few = omega arith;
        few_uses = omega arith;
        small = omega arith;
      },
      sym (l.invariant.9 ∙ rw (none, uses_none)),
    )

pub measure_frame_spec : {M : Type 1} → statement M
measure_frame_spec =
    tie.close
    (tie.spec invariant_loop decreases_loop (search rules) (search rules) loop_holds (search rules) add_wave_requires note_use_requires add_uses add_at sub_left add_size loop_less loop_again add_at_2
    sub_left_2 add_size_2 loop_less_2 loop_again_2 returns)
