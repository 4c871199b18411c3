-- The bytes of the file stand behind as many zeros as the four lack (`loaded`).
use Rattle.bytes_load.proofs.Loaded.{loaded}
use Rattle.bytes_load.proofs.load.Goals as goal

pub returns : goal.returns
returns g c =
    loaded g.row.WIDTH c.args.at _ c.args.file.now c.copy_from_slice.new.self (λ i. (c.type_inv.file i).fits) c.requires.0 c.requires.1 c.copy_from_slice.ensures.after c.from_be_bytes.ensures
