-- Streams of version 2 within the limits: they have no cards. And how long their files are.
use Prim.Native.Nat.{◌+◌, ◌*◌}
use mathlib.Core.List.{[]}
use mathlib.Core.Path.{◌≡◌, ◌∙◌}
use native.Mathlib.Omega.{arith}
use lib.ListN.{length}
use Rattle.base_format.specs.Header.{header_size}
use Rattle.base_format.specs.Limits.{Each, OperationFits, FrameFits, PoolFits, Limits}
use Rattle.base_format.specs.Size.{entry_size, pooled_header_size}
use Rattle.base_format.specs.Stream.{Stream}
use Rattle.base_format.specs.Written.{operations_bytes, frames_bytes, payloads_bytes, cards_bytes, end_place, written}
use Rattle.base_round_trip.proofs.Whole.{written_size}

pub record VersionTwo (s : Stream) : Type 0 where
  pub version_two : s.version ≡ 2
  pub within : Limits s

module _ (s : Stream) (two : VersionTwo s) where
  pub without_cards : s.cards ≡ []
  without_cards = two.within.cards_below (omega (arith, two.version_two))

  pub opening_within : Each (OperationFits 2 [] s.pools) s.opening
  opening_within = rw (two.version_two, without_cards) at two.within.opening_fits

  pub frames_within : Each (FrameFits 2 [] s.pools) s.frames
  frames_within = rw (two.version_two, without_cards) at two.within.frames_fit

  pub pools_within : Each (PoolFits 2) s.pools
  pools_within = rw two.version_two at two.within.pools_fit

-- the header, the directory and the other parts one behind the other
pub two_size : (s : Stream) → s.version ≡ 2 → s.cards ≡ []
    → length (written s)
    ≡ pooled_header_size + length s.pools * entry_size + length (payloads_bytes s.pools) + length (operations_bytes 2 s.opening) + length (frames_bytes 2 s.frames)
unfolding header_size cards_bytes
two_size s version none =
    let places : end_place s
    ≡ pooled_header_size + length s.pools * entry_size + length (payloads_bytes s.pools) + length (operations_bytes 2 s.opening) + length (frames_bytes 2 s.frames)
    = rw (version, none) in
    written_size s (omega arith) (omega arith) (rw none) ∙ places
