-- A wave that is known keeps its number, and any other is put at the head of its chain.
use native.Mathlib.Omega.{arith}
use borrow.Author.Rules.{rules}
use Rattle.repack_wave_hash.proofs.Hash.{bucket_below}
use Rattle.repack_wave_table.proofs.Table.{added_known, added_new}
use Rattle.repack_wave_table.proofs.add_wave.Statement.{statement}
use Rattle.repack_wave_table.proofs.add_wave.Tie as tie

wave_number_requires : tie.Need-wave_number-number-requires
wave_number_requires c κs = (c.requires.0, c.bucket-bucket.ensures, c.requires.1)

returns : tie.Need-returns-then-number-count
returns c =
    let a = c.args in
    added_known a.file.now a.heads.now a.next.now a.places.now a.count a.at c.requires.0 _ c.wave_number-number.ensures c.if-number-count.true

mul_next : tie.Need-offset_bounds-heads-bucket
mul_next c =
    omega (arith, c.bucket-bucket.ensures, bucket_below c.args.file.now c.args.at)

element_copy_out_next : tie.Need-bounds-heads-bucket
element_copy_out_next c =
    omega (arith, c.bucket-bucket.ensures, bucket_below c.args.file.now c.args.at)

mul_next_2 : tie.Need-offset_bounds-next-count
mul_next_2 c = omega arith

element_write_next : tie.Need-bounds-next-count
element_write_next c = omega arith

add_heads : tie.Need-overflow_add-heads
add_heads c = omega arith

cast_heads : tie.Need-overflow_cast-heads
cast_heads c = omega arith

mul_heads : tie.Need-offset_bounds-heads-bucket-2
mul_heads c =
    omega (arith, c.bucket-bucket.ensures, bucket_below c.args.file.now c.args.at)

element_write_heads : tie.Need-bounds-heads-bucket-2
element_write_heads c =
    omega (arith, c.bucket-bucket.ensures, bucket_below c.args.file.now c.args.at)

cast_places : tie.Need-overflow_cast-places
cast_places c = omega arith

mul_places : tie.Need-offset_bounds-places-count
mul_places c = omega arith

element_write_places : tie.Need-bounds-places-count
element_write_places c = omega arith

add_t17 : tie.Need-overflow_add-result
add_t17 c = omega arith

returns_2 : tie.Need-returns
returns_2 c =
    let a = c.args in
    let p = c.requires in
    added_new a.file.now a.heads.now a.next.now a.places.now a.count a.at p.0 _ _ c.bucket-bucket.ensures c.wave_number-number.ensures c.if-number-count.false (omega arith) p.1

pub add_wave_spec : {M : Type 1} → statement M
add_wave_spec =
    tie.close
    (tie.spec (search rules) wave_number_requires returns mul_next element_copy_out_next mul_next_2 element_write_next add_heads cast_heads mul_heads element_write_heads cast_places
    mul_places element_write_places add_t17 returns_2)
