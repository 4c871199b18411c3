-- A master repacked, computed. It stands here for the must-fail edits that it refuses; what holds of every stream is proved in the crate
-- round_trip.
use Prim.Native.Nat.{ℕ, zero, suc, ◌+◌}
use mathlib.Core.Bool.{false}
use mathlib.Core.Path.{◌≡◌, refl}
use mathlib.Core.List.{List, [], ◌∷◌, map}
use lib.ListN.{replicate}
use Rattle.base_format.specs.declared.operation.Operation.TheVariants.{Write, Fill, Copy}
use Rattle.base_format.specs.Repack.{repacked}
use Rattle.base_format.specs.Stream.{Stream}
use Rattle.base_format.proofs.Computed.{repacking}

-- a master with a wave twice: one pool, two COPYs
master : Stream
master = record {
  version = 1;
  repeat = false;
  period = 0;
  cards = [];
  pools = [];
  opening = Write 2 0 1 ∷ Write 0 7 7 ∷ Write 2 1 9 ∷ [];
  frames = (Write 1 0 1 ∷ map (λ (w : ℕ). Write 1 (0x100 + w) 5) (count 256 0)) ∷ map (λ (w : ℕ). Write 0 w 5) (count 257 0) ∷ [];
}
  where
    count : ℕ → ℕ → List ℕ
    count zero k = []
    count (suc n) k = k ∷ count n (suc k)

master_repacked : Stream
master_repacked = record {
  version = 2;
  repeat = false;
  period = 0;
  cards = [];
  pools = record { kind = 2; bytes = 1 ∷ 9 ∷ [] } ∷ record { kind = 1; bytes = replicate 256 5 } ∷ [];
  opening = Fill 2 2 1048574 0x80 ∷ Write 0 7 7 ∷ Copy 2 0 0 0 2 ∷ [];
  frames = (Write 1 0 1 ∷ Copy 1 0x100 1 0 256 ∷ []) ∷ (Copy 0 0 1 0 256 ∷ Write 0 256 5 ∷ []) ∷ [];
}

-- Edits fill_with_81, wave_skips_257
shape : repacked master ≡ master_repacked
unfolding master master_repacked repacking
shape = refl
