-- What the computed examples of playing share: a version 4 file with every kind of operation, and calls and jumps of a player.
use Prim.Native.Nat.{ℕ}
use mathlib.Core.Bool.{false, cond}
use mathlib.Core.List.{List, [], ◌∷◌, map}
use lib.ListN.{length, replicate}
use Rattle.base_format.specs.declared.card.CardRequirement.{CardRequirement}
use Rattle.base_format.specs.declared.operation.Operation.TheVariants.{Write, Fill, Copy}
use Rattle.base_format.specs.Checked.{Checked, ok, refused}
use Rattle.base_format.specs.Index.{index_of}
use Rattle.base_format.specs.Listener.{Call}
use Rattle.base_format.specs.Player.{Played}
use Rattle.base_format.specs.Pool.{Payload}
use Rattle.base_format.specs.Steps.{Step, vsync_call, jump}
use Rattle.base_format.specs.Stream.{Stream}
use Rattle.base_format.specs.Written.{written}

abbrev pub card : CardRequirement
card = record { slot = 2; id_length = 3; id_offset = 0x1FFFFFD; bulk_start = 16; bulk_length = 300; id = 65 ∷ 66 ∷ 67 ∷ replicate 13 0 }

abbrev pub wave : Payload
wave = record { kind = 1; bytes = replicate 256 9 }

abbrev pub bank : Payload
bank = record { kind = 3; bytes = 1 ∷ 2 ∷ 3 ∷ [] }

unfoldable pub four : Stream
four = record {
  version = 4;
  repeat = false;
  period = 0;
  cards = card ∷ [];
  pools = wave ∷ bank ∷ [];
  opening = Write 5 0x1FFFFFF 3 ∷ Fill 5 16 3 7 ∷ [];
  frames = (Copy 1 0x300 0 0 256 ∷ Write 11 0x3F 2 ∷ []) ∷ [] ∷ (Copy 5 20 1 1 2 ∷ []) ∷ [];
}

unfoldable pub calls : List ℕ → List ℕ → List Call
calls file rooms = map (λ (room : ℕ). record { file = file; room = room }) rooms

-- what an answer says: refused, or so many records, complete or not
unfoldable pub said : Checked Played → List ℕ
said (refused number place) = number ∷ place ∷ 99 ∷ []
said (ok answer) = length answer.records ∷ cond answer.complete 1 0 ∷ []

-- a vsync call with so much room, or a jump to a frame
pub data Move : Type 0 where
  play : (room : ℕ) → Move
  to : (frame : ℕ) → Move

-- moves as steps with a stream's own file and its own index
unfoldable pub steps_of : Stream → List Move → List Step
steps_of s [] = []
steps_of s (play room ∷ moves) = vsync_call (record { file = written s; room = room }) ∷ steps_of s moves
steps_of s (to frame ∷ moves) = jump (written s) (index_of s) frame ∷ steps_of s moves
