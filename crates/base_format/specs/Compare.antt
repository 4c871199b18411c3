-- Comparing a master with a file of version 2.
use Rattle.std.specs.Prelude.{ℕ, Bool, true, false, cond, not, ◌&&◌, List, [], ◌∷◌, length, set, replicate, eqb, ltb}
use Rattle.std.specs.Bool.{beq}
use Rattle.base_format.specs.declared.operation.WriteRecord.{WriteRecord}
use Rattle.base_format.specs.declared.operation.Operation.{Operation}
use Rattle.base_format.specs.Bytes.{same_bytes}
use Rattle.base_format.specs.Checked.{Checked, ok, refused, refuse, ◌>>=◌, ◌>>◌}
use Rattle.base_format.specs.Lent.{stored}
use Rattle.base_format.specs.Pool.{Payload}
use Rattle.base_format.specs.Stream.{Stream, read}
use Rattle.base_format.specs.Writes.{opening_writes, writes_of_all}
use Rattle.base_format.specs.Size.{pcm_size}

abbrev pub same_write : WriteRecord → WriteRecord → Bool
same_write a b = eqb a.target b.target && eqb a.address b.address && eqb a.value b.value

unfoldable pub same_writes : List WriteRecord → List WriteRecord → Bool
same_writes [] [] = true
same_writes [] (b ∷ bs) = false
same_writes (a ∷ more) [] = false
same_writes (a ∷ more) (b ∷ bs) = same_write a b && same_writes more bs

-- "writes to cores, as one sequence over both"
unfoldable pub core_writes : List WriteRecord → List WriteRecord
core_writes [] = []
core_writes (w ∷ ws) = cond (ltb w.target 2) (w ∷ core_writes ws) (core_writes ws)

-- PCM memory after writes: "one to target 2 puts its value at its address"
unfoldable pub played : List ℕ → List WriteRecord → List ℕ
played memory [] = memory
played memory (w ∷ ws) = played (cond (eqb w.target 2) (set memory w.address w.value) memory) ws

-- the image of a file: "begun at 0x80" and given its opening PCM writes
abbrev pub image_of : Stream → List ℕ
image_of s = played (replicate pcm_size 0x80) (opening_writes s)

-- "each frame's whole write list agrees", and the frame counts do
unfoldable pub same_frames : List Payload → List Payload → List (List Operation) → List (List Operation) → Bool
same_frames pools pools' [] [] = true
same_frames pools pools' [] (f ∷ fs) = false
same_frames pools pools' (f ∷ fs) [] = false
same_frames pools pools' (f ∷ fs) (g ∷ gs) = same_writes (writes_of_all pools f) (writes_of_all pools' g) && same_frames pools pools' fs gs

-- the rule: "repeat and frame count agree", and so do the openings' writes to cores, the images, and "each frame's whole write list"
unfoldable pub agree : Stream → Stream → Bool
agree s s' =
    beq s.repeat s'.repeat
    && same_writes (core_writes (opening_writes s)) (core_writes (opening_writes s'))
    && same_bytes (image_of s) (image_of s')
    && same_frames s.pools s'.pools s.frames s'.frames

-- a comparison's answer: whether the files agree, or which file is refused
pub data Compared : Type 0 where
  agreed : Bool → Compared
  refused_file : (file number place : ℕ) → Compared

-- what is refused of a file, 1 for the master and 2 for the other, is the answer
abbrev pub in_file : {A : Type 0} → (file : ℕ) → Checked A → (A → Compared) → Compared
in_file file (ok a) next = next a
in_file file (refused number place) next = refused_file file number place

-- rules 1 to 21 for a file that must have a version
unfoldable pub read_version : (version : ℕ) → List ℕ → Checked Stream
read_version version file = do
  s ← read file
  refuse 21 0 (not (eqb s.version version))
  ok s

-- the comparison, with the lengths of the two images that are lent
unfoldable pub compared : (file file' : List ℕ) → (image image' : ℕ) → Compared
compared file file' image image' =
    in_file 1 (read_version 1 file) λ s.
    in_file 2 (read_version 2 file') λ s'.
    in_file 1 (refuse 24 0 (ltb image pcm_size)) λ _.
    in_file 2 (refuse 24 0 (ltb image' pcm_size)) λ _.
    agreed (agree s s')

-- "Pass or fail, the images then hold those bytes", and what is lent beyond an image stays; a refusal writes nothing
unfoldable pub image_after : Compared → Checked Stream → (image : List ℕ) → List ℕ
image_after (agreed passed) (ok s) image = stored (image_of s) image
image_after (agreed passed) (refused number place) image = image
image_after (refused_file file number place) found image = image

-- the master's image, and the other file's
abbrev pub master_image_of : (file file' image image' : List ℕ) → List ℕ
master_image_of file file' image image' = image_after (compared file file' (length image) (length image')) (read file) image

abbrev pub other_image_of : (file file' image image' : List ℕ) → List ℕ
other_image_of file file' image image' = image_after (compared file file' (length image) (length image')) (read file') image'
