-- The loop's invariant: the waves still to write, behind those that stand, are the whole.
use Prim.Native.Nat.{◌+◌, ◌-◌, ◌≤◌}
use mathlib.Core.Path.{◌≡◌, refl}
use native.Mathlib.Omega.{arith}
use borrow.Author.Rules.{rules}
use lib.ListN.{get_or}
use Rattle.base_master.specs.Places.{wave_at}
use Rattle.repack_put_payloads.specs.Payloads.{waves_bytes}
use Rattle.repack_put_payloads.proofs.Payloads.{wave_size_lem, waves_none, waves_next, waves_size}
use Rattle.bytes_put_fields.proofs.Writing.{Writing, starts, wrote, ends}
use Rattle.repack_put_payloads.proofs.put_waves.Statement.{statement}
use Rattle.repack_put_payloads.proofs.put_waves.Tie as tie

abbrev invariant_loop : tie.invariant-loop-wave
invariant_loop file places count buffer₀ at wave₀ place₀ buffer wave place =
    (wave ≤ count) × Writing (waves_bytes file places 0 count) at buffer₀ (waves_bytes file places wave (count - wave)) place buffer

abbrev decreases_loop : tie.decreases-loop-wave
decreases_loop file places count buffer₀ at wave₀ place₀ buffer wave place = count - wave

loop_holds : tie.Need-loop-wave-init invariant_loop decreases_loop
loop_holds c =
    let a = c.args in
    let all : a.count - 0 ≡ a.count = omega arith in
    (omega arith, rw all (starts (waves_bytes a.file.now a.places.now 0 a.count) a.at a.buffer.now (rw (waves_size a.file.now a.places.now 0 a.count) c.requires.1)))

cast_put_wave : tie.Need-overflow_cast-places invariant_loop decreases_loop
cast_put_wave c = omega (arith, c.requires.0.1 c.loop-wave.wave c.loop-wave-test.true)

put_wave_requires : tie.Need-put_wave-requires invariant_loop decreases_loop
put_wave_requires c κs =
    let l = c.loop-wave in
    let a = c.args in
    (c.requires.0.1 l.wave c.loop-wave-test.true, omega (arith, waves_size a.file.now a.places.now l.wave (a.count - l.wave), l.invariant.1.fits))

add_place : tie.Need-overflow_add-place invariant_loop decreases_loop
add_place c =
    let l = c.loop-wave in
    let a = c.args in
    omega (arith, waves_size a.file.now a.places.now l.wave (a.count - l.wave), l.invariant.1.fits)

loop_again : tie.Need-loop-wave-preserved invariant_loop decreases_loop
loop_again c =
    let l = c.loop-wave in
    let a = c.args in
    let file = a.file.now in
    let places = a.places.now in
    let place = get_or places l.wave 0 in
    let others = waves_bytes file places (l.wave + 1) (a.count - (l.wave + 1)) in
    let next = waves_next file places l.wave a.count c.loop-wave-test.true in
    (omega arith, wrote l.invariant.1 (wave_at file place) others 256 next (wave_size_lem file place) refl c.put_wave.ensures)

returns : tie.Need-returns invariant_loop decreases_loop
returns c =
    let l = c.loop-wave in
    let a = c.args in
    let none : a.count - l.wave ≡ 0 = omega arith in
    (ends l.invariant.1 (rw none (waves_none a.file.now a.places.now l.wave))).0

pub put_waves_spec : {M : Type 1} → statement M
put_waves_spec =
    tie.close
    (tie.spec invariant_loop decreases_loop loop_holds (search rules) (search rules) cast_put_wave put_wave_requires add_place (search rules) (search rules) loop_again (search rules) returns)
