-- The chain of the wave's bucket holds every known wave that could be the same.
use mathlib.Core.Path.{sym, ◌∙◌}
use native.Mathlib.Omega.{arith}
use Rattle.repack_wave_hash.proofs.Hash.{bucket_below}
use Rattle.repack_wave_table.proofs.Table.{head_few, chain_of, chain_finds, place_found, place_missing}
use Rattle.repack_wave_table.proofs.wave_number.Statement.{statement}
use Rattle.repack_wave_table.proofs.wave_number.Tie as tie

mul_first : tie.Need-offset_bounds-heads-bucket
mul_first c = omega (arith, c.requires.1, bucket_below c.args.file.now c.args.at)

element_copy_out_first : tie.Need-bounds-heads-bucket
element_copy_out_first c = omega (arith, c.requires.1, bucket_below c.args.file.now c.args.at)

cast_first : tie.Need-overflow_cast-first
cast_first c =
    let a = c.args in
    omega (arith, head_few a.file.now a.heads.now a.next.now a.places.now a.count a.at c.requires.0 a.bucket c.requires.1)

find_wave_requires : tie.Need-find_wave-found-requires
find_wave_requires c κs =
    let a = c.args in
    let p = c.requires in (
      chain_of a.file.now a.heads.now a.next.now a.places.now a.count a.at p.0 a.bucket p.1,
      p.2,
      omega (arith, p.0.few, head_few a.file.now a.heads.now a.next.now a.places.now a.count a.at p.0 a.bucket p.1),
    )

returns : tie.Need-returns-then-found-eq0
returns c =
    let a = c.args in
    let p = c.requires in
    place_missing a.file.now a.heads.now a.next.now a.places.now a.count a.at p.0
    (sym (c.find_wave-found.ensures ∙ chain_finds a.file.now a.heads.now a.next.now a.places.now a.count a.at p.0 a.bucket p.1) ∙ c.if-found-eq0.true)

sub_result : tie.Need-overflow_sub-result
sub_result c = omega arith

returns_2 : tie.Need-returns
returns_2 c =
    let a = c.args in
    let p = c.requires in
    place_found a.file.now a.heads.now a.next.now a.places.now a.count a.at p.0 _
    (sym (c.find_wave-found.ensures ∙ chain_finds a.file.now a.heads.now a.next.now a.places.now a.count a.at p.0 a.bucket p.1) ∙ omega (arith, c.if-found-eq0.false))

pub wave_number_spec : {M : Type 1} → statement M
wave_number_spec = tie.close (tie.spec mul_first element_copy_out_first cast_first find_wave_requires returns sub_result returns_2)
