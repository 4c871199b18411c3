-- The numbers that joining tests, as the headers and the second file's first frame count say them: what code has in hand.
use Prim.Native.Nat.{ℕ, ◌+◌, ◌≤◌}
use mathlib.Core.List.{List, [], ◌∷◌, ◌++◌, append_assoc}
use mathlib.Core.Path.{◌≡◌, sym}
use native.Mathlib.Omega.{arith}
use lib.ListN.{length, get_or, drop}
use Rattle.base_format.specs.declared.card.CardRequirement.{CardRequirement}
use Rattle.base_format.specs.declared.operation.Operation.{Operation}
use Rattle.base_format.specs.Bytes.{AllBytes, be, bytes_of_all}
use Rattle.base_format.specs.Checked.{ok}
use Rattle.base_format.specs.Header.{header_of}
use Rattle.base_format.specs.Limits.{Each, FrameFits}
use Rattle.base_format.specs.Pool.{Payload}
use Rattle.base_format.specs.Stream.{Stream, read}
use Rattle.base_format.specs.Written.{frames_bytes}
use Rattle.base_format.proofs.Accepted.{accepted}
use Rattle.base_format.proofs.Bytes.{be_here}
use Rattle.base_round_trip.proofs.FileParts.{file_parts}
use Rattle.join_stream.specs.Join.{first_count}

-- the count of the first frame stands where the frames start
first_frame_lem : (version : ℕ) (cards : List CardRequirement) (pools : List Payload) (file : List ℕ) (at : ℕ) (frames : List (List Operation)) (rest : List ℕ)
    → 1 ≤ length frames → Each (FrameFits version cards pools) frames → drop at file ≡ frames_bytes version frames ++ rest → be 2 file at ≡ length (get_or frames 0 [])
unfolding frames_bytes bytes_of_all
first_frame_lem version cards pools file at [] rest some fit here = absurd (omega arith)
first_frame_lem version cards pools file at (frame ∷ frames) rest some fit here = be_here file at _ 2 (length frame) (simp append_assoc at here) fit.0.frame_count

module _ (file : List ℕ) (s : Stream) (bytes : AllBytes file) (reads : read file ≡ ok s) where
  -- how many pools an accepted file has
  pub pools_said : length s.pools ≡ (header_of file).pool_count
  pools_said = (file_parts file s bytes reads).pools_said

  -- and how many operations its opening and its first frame have
  pub first_said : first_count s ≡ (header_of file).initial_count + be 2 file (header_of file).frame_start
  first_said =
      let parts = file_parts file s bytes reads in
      let some : 1 ≤ length s.frames = omega (arith, parts.frames_said, (accepted file s reads).0.some_frame) in
      let frame = first_frame_lem (header_of file).version s.cards s.pools file (header_of file).frame_start s.frames _ some parts.frames_fit parts.frames.here in
      λ i. parts.opening_said i + sym frame i
