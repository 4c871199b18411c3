-- Joining, computed: what is made, what is refused in which order, and how two small pieces play.
use Prim.Native.Nat.{ℕ}
use mathlib.Core.Bool.{Bool, true, false}
use mathlib.Core.List.{[], ◌∷◌}
use mathlib.Core.Path.{◌≡◌, refl}
use lib.ListN.{length, replicate}
use Rattle.base_format.specs.declared.operation.Operation.TheVariants.{Write, Copy}
use Rattle.base_format.specs.Compare.{read_version}
use Rattle.base_format.specs.Examples.{empty, empty_repacked}
use Rattle.base_format.specs.Lent.{stored}
use Rattle.base_format.specs.Stream.{Stream}
use Rattle.base_format.specs.Writes.{write, vsync}
use Rattle.base_format.specs.Written.{written}
use Rattle.base_format.proofs.Computed.{reading, writing, listing}
use Rattle.join_stream.specs.Join.{joined, both_into, in_first, in_second, in_neither, join_made, join_refused, join_into, join_after}

-- a piece of 80 bytes: one PCM byte copied in the opening, and one frame with one write
piece : (repeat : Bool) (value : ℕ) → Stream
piece repeat value = record {
  version = 2;
  repeat = repeat;
  period = 0;
  cards = [];
  pools = record { kind = 2; bytes = value ∷ [] } ∷ [];
  opening = Copy 2 0 0 0 1 ∷ [];
  frames = (Write 0 3 value ∷ []) ∷ [];
}

-- two of them: 80 + 80 - 40 bytes
both : (repeat : Bool) → Stream
both repeat = record {
  version = 2;
  repeat = repeat;
  period = 0;
  cards = [];
  pools = record { kind = 2; bytes = 7 ∷ [] } ∷ record { kind = 2; bytes = 9 ∷ [] } ∷ [];
  opening = Copy 2 0 0 0 1 ∷ [];
  frames = (Write 0 3 7 ∷ []) ∷ (Copy 2 0 1 0 1 ∷ Write 0 3 9 ∷ []) ∷ [];
}

are_both : joined (piece false 7) (piece true 9) ≡ both true
unfolding piece both joined
are_both = refl

-- a buffer of 120 bytes is long enough
two_pieces : (join_into (written (piece false 7)) (written (piece true 9)) 120 ≡ join_made (written (both true))) × (length (written (both true)) ≡ 120)
unfolding piece both join_into both_into joined read_version reading writing
two_pieces = (refl, refl)

-- one of 119 is not
one_short : join_into (written (piece true 7)) (written (piece false 9)) 119 ≡ join_refused in_neither 24 0
unfolding piece join_into both_into joined read_version reading writing
one_short = refl

-- the first file's refusals, 21 among them, come before the second's; both name the file, and 24 names none
first_named : (join_into [] [] 0 ≡ join_refused in_first 1 0) × (join_into empty [] 0 ≡ join_refused in_first 21 0)
unfolding empty join_into both_into joined read_version reading writing
first_named = (refl, refl)

second_named : (join_into empty_repacked [] 0 ≡ join_refused in_second 1 0) × (join_into empty_repacked empty 0 ≡ join_refused in_second 21 0)
unfolding empty empty_repacked join_into both_into joined read_version reading writing
second_named = (refl, refl)

none_named : join_into empty_repacked empty_repacked 0 ≡ join_refused in_neither 24 0
unfolding empty_repacked join_into both_into joined read_version reading writing
none_named = refl

-- a refusal writes nothing, and what is lent behind the result stays
nothing_written : join_after (7 ∷ []) empty_repacked (5 ∷ 6 ∷ []) ≡ 5 ∷ 6 ∷ []
unfolding empty_repacked join_into both_into joined read_version reading writing
nothing_written = refl

rest_stays : join_after (written (piece false 7)) (written (piece true 9)) (replicate 122 5) ≡ stored (written (both true)) (replicate 122 5)
unfolding piece both join_into both_into joined read_version reading writing
rest_stays = refl

-- the vsyncs of two passes: the second's opening is played again within its frame, the first's is not
one_pass : (vsync (both true) 0 ≡ write 2 0 7 ∷ write 0 3 7 ∷ []) × (vsync (both true) 1 ≡ write 2 0 9 ∷ write 0 3 9 ∷ [])
unfolding both listing
one_pass = (refl, refl)

next_pass : (vsync (both true) 2 ≡ write 0 3 7 ∷ []) × (vsync (both true) 3 ≡ write 2 0 9 ∷ write 0 3 9 ∷ [])
unfolding both listing
next_pass = (refl, refl)
