-- Two pieces as one (document 02, T-04): two files of version 2 joined into a lent buffer.
use Rattle.std.specs.Prelude.{ℕ, ◌+◌, false, List, [], ◌∷◌, ◌++◌, map, ltb, length, get_or}
use Rattle.base_format.specs.declared.operation.Operation.{Operation}
use Rattle.base_format.specs.declared.operation.Operation.TheVariants.{Write, Fill, Copy}
use Rattle.base_format.specs.Checked.{Checked, ok, refused, refuse, ◌>>◌}
use Rattle.base_format.specs.Compare.{read_version}
use Rattle.base_format.specs.Lent.{stored}
use Rattle.base_format.specs.Size.{file_limit}
use Rattle.base_format.specs.Stream.{Stream, read}
use Rattle.base_format.specs.Written.{written}

-- an operation "renumbered": so many pools stand before those that it was numbered by
abbrev pub renumbered : (before : ℕ) → Operation → Operation
renumbered before (Write target address value) = Write target address value
renumbered before (Fill target address size value) = Fill target address size value
renumbered before (Copy target address pool source size) = Copy target address (before + pool) source size

-- opening operations "put before those of" the first frame
abbrev pub put_before : List Operation → List (List Operation) → List (List Operation)
put_before opening [] = []
put_before opening (frame ∷ frames) = (opening ++ frame) ∷ frames

-- "Pools of the second follow the first's, renumbered. The second's opening operations are put before those of its own first frame. Repeat is the
-- second's."
unfoldable pub joined : Stream → Stream → Stream
joined a b =
    let renumber = map (renumbered (length a.pools)) in
    record {
      version = 2;
      repeat = b.repeat;
      period = 0;
      cards = [];
      pools = a.pools ++ b.pools;
      opening = a.opening;
      frames = a.frames ++ put_before (renumber b.opening) (map renumber b.frames);
    }

-- the operations of the only frame that grows: the second's opening with its first frame
abbrev pub first_count : Stream → ℕ
first_count b = length b.opening + length (get_or b.frames 0 [])

-- two accepted streams as one file, in a lent buffer of so many bytes: "29, a frame of more than 65,535 operations; 30, more than 65,536 pools; then
-- 23 and 24"
unfoldable pub both_into : (a b : Stream) → (room : ℕ) → Checked (List ℕ)
both_into a b room = do
  refuse 29 0 (ltb 65535 (first_count b))
  refuse 30 0 (ltb 65536 (length a.pools + length b.pools))
  let result = written (joined a b)
  refuse 23 0 (ltb file_limit (length result))
  refuse 24 0 (ltb room (length result))
  ok result

-- the file that a refusal names
pub data NamedFile : Type 0 where
  in_first in_second in_neither : NamedFile

-- joining's answer: what is made, or a refusal
pub data Joining (A : Type 0) : Type 0 where
  join_made : A → Joining A
  join_refused : NamedFile → (number place : ℕ) → Joining A

-- what is refused is the answer, with the file that it names
abbrev pub naming : {A B : Type 0} → NamedFile → Checked A → (A → Joining B) → Joining B
naming named (ok a) next = next a
naming named (refused number place) next = join_refused named number place

-- the joined file's bytes; or a refusal, "after the first file's checks and 21 and then the second's, for which alone the answer names the file"
unfoldable pub join_into : (file file' : List ℕ) → (room : ℕ) → Joining (List ℕ)
join_into file file' room =
    naming in_first (read_version 2 file) λ a.
    naming in_second (read_version 2 file') λ b.
    naming in_neither (both_into a b room) λ bytes.
    join_made bytes

-- what the call says: how many bytes are made
abbrev pub size_made : Joining (List ℕ) → Joining ℕ
size_made (join_made bytes) = join_made (length bytes)
size_made (join_refused named number place) = join_refused named number place

abbrev pub join_said : (file file' : List ℕ) → (room : ℕ) → Joining ℕ
join_said file file' room = size_made (join_into file file' room)

-- the lent buffer after it; a refusal "writes nothing"
abbrev pub stored_by : Joining (List ℕ) → (buffer : List ℕ) → List ℕ
stored_by (join_made bytes) buffer = stored bytes buffer
stored_by (join_refused named number place) buffer = buffer

abbrev pub join_after : (file file' buffer : List ℕ) → List ℕ
join_after file file' buffer = stored_by (join_into file file' (length buffer)) buffer

-- the stream of an accepted file, for contracts that speak of such files alone; a refused file has the empty one
abbrev pub stream_found : Checked Stream → Stream
stream_found (ok s) = s
stream_found (refused number place) = record { version = 2; repeat = false; period = 0; cards = []; pools = []; opening = []; frames = [] }

unfoldable pub stream_in : List ℕ → Stream
stream_in file = stream_found (read file)
