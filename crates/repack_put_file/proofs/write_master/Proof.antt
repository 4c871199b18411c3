-- The opening and the frames stand behind the front, each where the layout says.
use Prim.Native.Nat.{◌+◌, ◌*◌}
use mathlib.Core.Path.{refl, sym}
use mathlib.Core.List.{[], ◌++◌, append-nil}
use native.Mathlib.Omega.{arith}
use borrow.Author.Rules.{rules}
use lib.ListN.{length}
use Rattle.base_format.specs.Repack.{repacked}
use Rattle.base_format.specs.Written.{written}
use Rattle.base_master.specs.Places.{master_of}
use Rattle.repack_wave_table.specs.Table.{waves_in}
use Rattle.base_master.specs.Result.{frame_bytes}
use Rattle.bytes_put_fields.proofs.Writing.{starts, wrote, ends}
use Rattle.repack_put_opening.specs.Opening.{opening_part}
use Rattle.repack_layout.specs.Layout.{pcm_pool, front_of}
use Rattle.repack_put_file.proofs.Frames.{lists, marked, frames_are}
use Rattle.repack_layout.proofs.Made.{pcm_few, frames_at_lem, total_at, parts_are, total_is, front_fits}
use Rattle.repack_layout.proofs.Numbers.{front_size}
use Rattle.repack_put_file.proofs.write_master.Statement.{statement}
use Rattle.repack_put_file.proofs.write_master.Tie as tie

mul_start : tie.Need-overflow_mul-start
mul_start c = omega (arith, c.requires.0.opening_fits)

add_start : tie.Need-overflow_add-start
add_start c = omega (arith, c.requires.0.opening_fits)

write_front_requires : tie.Need-write_front-requires
write_front_requires c κs =
    let a = c.args in
    let p = c.requires in
    front_fits p.0 p.1 a.buffer.now p.2 p.3

put_opening_requires : tie.Need-put_opening-requires
put_opening_requires c κs =
    let a = c.args in
    let p = c.requires in
    let ends_at = frames_at_lem p.0 p.1 in
    let all-at = total_at p.0 p.1 in
    (p.0.opening_fits, omega arith, omega (arith, pcm_few p.0))

put_frames_requires : tie.Need-put_frames-requires
put_frames_requires c κs =
    let a = c.args in
    let p = c.requires in
    let all-at = total_at p.0 p.1 in
    let pool = c.pcm_pool.ensures in
    (lists p.0, marked p.0, p.0.frames_fit, pool.1, rw (pool.0, frames_are p.0 (pcm_pool a.pcm)) (omega arith))

returns : tie.Need-returns
returns c =
    let a = c.args in
    let p = c.requires in
    let file = a.file.now in
    let places = a.places.now in
    let f = front_of file a.header a.pcm a.found.waves a.layout places in
    let o = opening_part file a.header.initial_count a.pcm in
    let r = frame_bytes (pcm_pool a.pcm) (waves_in file places a.found.waves) file a.header.frame_count (20 + a.header.initial_count * 5) in
    let total = total_is p.0 p.1 in
    let parts = parts_are p.0 p.1 in
    let fits = front_fits p.0 p.1 a.buffer.now p.2 p.3 in
    let opens = front_size fits in
    let w₀ = starts (written (repacked (master_of file a.header))) 0 a.buffer.now (omega arith) in
    let w₁ = wrote w₀ f (o ++ r) (length f) {place' = a.layout.opening} parts refl (omega arith) c.write_front.ensures in
    let w₂ = wrote w₁ o r (length o) {place' = a.layout.frames} refl refl (frames_at_lem p.0 p.1) c.put_opening.ensures in
    let done = wrote w₂ r [] (length r) {place' = a.layout.frames + length r} (sym (append-nil r)) refl refl (rw (c.pcm_pool.ensures.0, frames_are p.0 (pcm_pool a.pcm)) at c.put_frames.ensures) in
    (ends done refl).0

pub write_master_spec : {M : Type 1} → statement M
write_master_spec = tie.close (tie.spec (search rules) (search rules) mul_start add_start write_front_requires put_opening_requires (search rules) put_frames_requires (search rules) returns)
