-- The loop's invariant: what the rest of the chain finds decides.
use Prim.Native.Nat.{◌-◌, ◌≤◌}
use mathlib.Core.Path.{◌≡◌, refl, sym, ◌∙◌}
use native.Mathlib.Omega.{arith}
use lib.ListN.{get_or}
use Rattle.repack_wave_hash.specs.Hash.{bucket_at}
use Rattle.repack_wave_table.specs.Table.{latest, found}
use Rattle.repack_wave_table.proofs.Table.{Stepped, chain_here, chain_step}
use Rattle.repack_wave_table.proofs.find_wave.Statement.{statement}
use Rattle.repack_wave_table.proofs.find_wave.Tie as tie

abbrev invariant_loop : tie.invariant-loop-i
invariant_loop file at first next places i₀ i = (i ≤ first) × (latest file places (bucket_at file at) i ≡ i) × (found file places at first ≡ found file places at i)

abbrev decreases_loop : tie.decreases-loop-i
decreases_loop file at first next places i₀ i = i

-- the next wave of the chain
stepped : (c : tie.After-i-1 invariant_loop decreases_loop)
    → Stepped c.args.file.now c.args.places.now
    c.args.at c.loop-i.i
    (get_or c.args.next.now (c.loop-i.i - 1) 0)
stepped c =
    let a = c.args in
    let l = c.loop-i in
    chain_step a.file.now a.places.now a.next.now a.at a.first l.i c.requires.0 c.loop-i-test.true l.invariant.0 l.invariant.1 (sym c.same_wave.ensures ∙ c.if-same_wave.false)

loop_holds : tie.Need-loop-i-init invariant_loop decreases_loop
loop_holds c = (omega arith, c.requires.0.last, refl)

sub_k : tie.Need-overflow_sub-k invariant_loop decreases_loop
sub_k c = omega arith

mul_same_wave : tie.Need-offset_bounds-places-k invariant_loop decreases_loop
mul_same_wave c = omega arith

element_copy_out_same_wave : tie.Need-bounds-places-k invariant_loop decreases_loop
element_copy_out_same_wave c = omega arith

cast_same_wave : tie.Need-overflow_cast-places invariant_loop decreases_loop
cast_same_wave c = omega (arith, c.requires.0.inside (c.loop-i.i - 1) (omega arith))

same_wave_requires : tie.Need-same_wave-requires invariant_loop decreases_loop
same_wave_requires c κs = (c.requires.0.inside (c.loop-i.i - 1) (omega arith), c.requires.1)

returns : tie.Need-returns-then-same_wave invariant_loop decreases_loop
returns c =
    let a = c.args in
    let l = c.loop-i in
    sym (l.invariant.2 ∙ chain_here a.file.now a.places.now a.at l.i c.loop-i-test.true (sym c.same_wave.ensures ∙ c.if-same_wave.true))

mul_i : tie.Need-offset_bounds-next-k invariant_loop decreases_loop
mul_i c = omega arith

element_copy_out_i : tie.Need-bounds-next-k invariant_loop decreases_loop
element_copy_out_i c = omega arith

cast_i : tie.Need-overflow_cast-i invariant_loop decreases_loop
cast_i c = omega (arith, (stepped c).less)

loop_less : tie.Need-loop-i-smaller invariant_loop decreases_loop
loop_less c = (stepped c).less

loop_again : tie.Need-loop-i-preserved invariant_loop decreases_loop
loop_again c = (omega (arith, (stepped c).less), (stepped c).last, c.loop-i.invariant.2 ∙ (stepped c).same)

returns_2 : tie.Need-returns invariant_loop decreases_loop
unfolding found
returns_2 c =
    let none : c.loop-i.i ≡ 0 = omega arith in
    rw (c.loop-i.invariant.2, none)

pub find_wave_spec : {M : Type 1} → statement M
find_wave_spec =
    tie.close
    (tie.spec invariant_loop decreases_loop loop_holds sub_k mul_same_wave element_copy_out_same_wave cast_same_wave same_wave_requires returns mul_i element_copy_out_i cast_i loop_less loop_again
    returns_2)
