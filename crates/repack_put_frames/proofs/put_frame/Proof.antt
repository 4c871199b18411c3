-- The count is written in front of the pieces that stand.
use Prim.Native.Nat.{◌+◌}
use mathlib.Core.Path.{◌∙◌}
use native.Mathlib.Omega.{arith}
use borrow.Author.Rules.{rules}
use Rattle.base_format.specs.Bytes.{be}
use Rattle.bytes_put_items.proofs.Items.{put_counted}
use Rattle.base_master.specs.Result.{piece_count}
use Rattle.base_master.specs.Uses.{pieces_by, frame_by}
use Rattle.base_master.proofs.Counted.{pieces_few}
use Rattle.base_master.proofs.Numbered.{frame_by_size}
use Rattle.repack_put_frames.proofs.put_frame.Statement.{statement}
use Rattle.repack_put_frames.proofs.put_frame.Tie as tie

add_behind : tie.Need-overflow_add-behind
add_behind c =
    let a = c.args in
    omega (arith, c.requires.4, frame_by_size a.numbers.now a.base a.file.now a.used a.from)

put_pieces_requires : tie.Need-put_pieces-pieces-requires
put_pieces_requires c κs =
    let a = c.args in
    let p = c.requires in
    rw c.read_u16-records.ensures (p.0, p.1, omega arith, p.2, p.3, omega (arith, p.4, frame_by_size a.numbers.now a.base a.file.now a.used a.from))

cast_put_count : tie.Need-overflow_cast-pieces
cast_put_count c =
    let a = c.args in
    omega (arith, c.put_pieces-pieces.ensures.1, pieces_few a.file.now c.read_u16-records.result (a.from + 2), c.read_u16-records)

returns : tie.Need-returns
unfolding frame_by
returns c =
    let a = c.args in
    let file = a.file.now in
    let e = c.read_u16-records.ensures in
    let pieces = c.put_pieces-pieces.ensures in
    let count = piece_count file (be 2 file a.from) (a.from + 2) in
    let all = pieces_by a.numbers.now a.base a.used file (be 2 file a.from) (a.from + 2) in
    let long = frame_by_size a.numbers.now a.base file a.used a.from in (
      rw (c.put_count.ensures, pieces.1, pieces.0, e) (put_counted count a.at all a.buffer.now (omega (arith, c.requires.4, long))),
      rw e at pieces.2 ∙ omega (arith, frame_by_size a.numbers.now a.base file a.used a.from),
      rw e at pieces.3,
    )

pub put_frame_spec : {M : Type 1} → statement M
put_frame_spec = tie.close (tie.spec (search rules) (search rules) (search rules) add_behind put_pieces_requires cast_put_count (search rules) (search rules) returns)
