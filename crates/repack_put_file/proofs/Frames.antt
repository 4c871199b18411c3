-- What was measured of a master, as its frames are written by it.
use Prim.Native.Nat.{ℕ, ◌+◌, ◌*◌}
use mathlib.Core.Path.{◌≡◌, sym, ap, ◌∙◌}
use mathlib.Core.List.{List}
use native.Mathlib.Nat.{le_refl}
use native.Mathlib.Omega.{arith}
use lib.ListN.{length}
use lib.Seq.{length-take-le}
use Rattle.base_format.specs.declared.header.Header.{Header}
use Rattle.base_master.specs.Result.{frame_bytes}
use Rattle.base_master.specs.Uses.{MarkedFrames, frames_by}
use Rattle.base_master.proofs.Numbered.{frames_by_is}
use Rattle.base_master.proofs.Uses.{all_marked}
use Rattle.repack_wave_table.specs.Table.{waves_in}
use Rattle.repack_put_frames.specs.Frames.{NotedLists}
use Rattle.repack_layout.specs.Layout.{Known}

module _ {file : List ℕ} {header : Header} {places spots numbers : List ℕ} {pcm waves uses size : ℕ} (known : Known file header places spots numbers pcm waves uses size) where
  abbrev start : ℕ
  start = 20 + header.initial_count * 5

  pub lists : NotedLists spots numbers
  lists = let n = known.measured.noting in record { spots_size = n.spots_size; numbers_size = n.numbers_size; small = n.small }

  pub marked : MarkedFrames file spots 0 header.frame_count start
  marked =
      let n = known.measured.noting in
      all_marked (omega (arith, n.few, n.spots_size)) n.few (sym known.measured.uses_are) (n.rest uses (le_refl uses))

  pub frames_are : (base : ℕ) → frames_by numbers base 0 file header.frame_count start ≡ frame_bytes base (waves_in file places waves) file header.frame_count start
  frames_are base =
      let n = known.measured.noting in
      let all = ap length known.measured.uses_are ∙ length-take-le uses spots (omega (arith, n.few, n.spots_size)) in
      frames_by_is (waves_in file places waves) numbers base file spots 0 header.frame_count start marked (λ k less. n.numbers_are k (omega (arith, all)))
