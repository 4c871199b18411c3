-- Repacking (`compile_song_v2`): a master, which is a file of version 1, as a file of version 2.
use Rattle.std.specs.Prelude.{ℕ, zero, suc, ◌+◌, ◌-◌, ◌%◌, Bool, true, false, cond, not, ◌&&◌, ◌||◌, List, [], ◌∷◌, ◌++◌, map, length, take, eqb, ltb}
use Rattle.base_format.specs.declared.operation.Operation.{Operation}
use Rattle.base_format.specs.declared.operation.Operation.TheVariants.{Write, Fill, Copy}
use Rattle.base_format.specs.Bytes.{same_bytes}
use Rattle.base_format.specs.Checked.{Checked, ok, refuse, ◌>>=◌, ◌>>◌}
use Rattle.base_format.specs.Lent.{lent_after}
use Rattle.base_format.specs.Pool.{Payload}
use Rattle.base_format.specs.Stream.{Stream, read}
use Rattle.base_format.specs.Writes.{target_number}
use Rattle.base_format.specs.Written.{written}
use Rattle.base_format.specs.Size.{pcm_size, file_limit}

-- the fields of a master's record
abbrev pub address : Operation → ℕ
address (Write target a value) = a
address (Fill target a size value) = a
address (Copy target a pool source size) = a

abbrev pub value : Operation → ℕ
value (Write target a v) = v
value (Fill target a size v) = v
value (Copy target a pool source size) = 0

-- the records to PCM, and the others
unfoldable pub to_pcm : List Operation → List Operation
to_pcm [] = []
to_pcm (record' ∷ records) = cond (eqb (target_number record') 2) (record' ∷ to_pcm records) (to_pcm records)

unfoldable pub to_cores : List Operation → List Operation
to_cores [] = []
to_cores (record' ∷ records) = cond (eqb (target_number record') 2) (to_cores records) (record' ∷ to_cores records)

-- the addresses of opening PCM writes "run 0, 1, 2 and so on" (22)
unfoldable pub in_order : (from : ℕ) → List Operation → Bool
in_order from [] = true
in_order from (record' ∷ records) = eqb (address record') from && in_order (suc from) records

-- so many records to one target at consecutive addresses
unfoldable pub runs : (count target from : ℕ) → List Operation → Bool
runs zero target from records = true
runs (suc count) target from [] = false
runs (suc count) target from (record' ∷ records) =
    elim (eqb (target_number record') target && eqb (address record') from) [ true ↦ runs count target (suc from) records | false ↦ false ]

-- 256 records "to one core at consecutive addresses", the first "a multiple of 256 below 0x800"
unfoldable pub starts_wave : List Operation → Bool
starts_wave [] = false
starts_wave (record' ∷ records) =
    ltb (target_number record') 2
    && ltb (address record') 0x800
    && eqb (address record' % 256) 0
    && runs 256 (target_number record') (address record') (record' ∷ records)

-- what a frame is made of, "from the left": waves, and single records
pub data Piece : Type 0 where
  wave : (target address : ℕ) → (bytes : List ℕ) → Piece
  single : Operation → Piece

-- `skip` records belong to the wave before
unfoldable pub pieces : (skip : ℕ) → List Operation → List Piece
pieces skip [] = []
pieces (suc skip) (record' ∷ records) = pieces skip records
pieces zero (record' ∷ records) =
    elim (starts_wave (record' ∷ records)) [
      | true ↦ wave (target_number record') (address record') (map value (take 256 (record' ∷ records))) ∷ pieces 255 records
      | false ↦ single record' ∷ pieces 0 records
    ]

-- "each distinct wave by first use": those of the pieces that are not yet among the ones known
unfoldable pub is_known : List (List ℕ) → List ℕ → Bool
is_known [] bytes = false
is_known (w ∷ ws) bytes = same_bytes w bytes || is_known ws bytes

-- the waves known with one more, if it is not yet among them
unfoldable pub added : (known : List (List ℕ)) → (bytes : List ℕ) → List (List ℕ)
added known bytes = cond (is_known known bytes) known (known ++ (bytes ∷ []))

unfoldable pub distinct : (known : List (List ℕ)) → List Piece → List (List ℕ)
distinct known [] = known
distinct known (single operation ∷ rest) = distinct known rest
distinct known (wave target a bytes ∷ rest) = distinct (added known bytes) rest

unfoldable pub waves_of : (known : List (List ℕ)) → List (List Operation) → List (List ℕ)
waves_of known [] = known
waves_of known (frame ∷ frames) = waves_of (distinct known (pieces 0 frame)) frames

-- the place of a wave among the waves
unfoldable pub place_of : List (List ℕ) → List ℕ → ℕ
place_of [] bytes = 0
place_of (w ∷ ws) bytes = cond (same_bytes w bytes) 0 (suc (place_of ws bytes))

-- a piece as a COPY, "else a WRITE"; the pool of the first wave is `base`
abbrev pub packed_piece : (base : ℕ) → List (List ℕ) → Piece → Operation
packed_piece base waves (single operation) = operation
packed_piece base waves (wave target a bytes) = Copy target a (base + place_of waves bytes) 0 256

abbrev pub pcm_pools : List ℕ → List Payload
pcm_pools [] = []
pcm_pools (v ∷ vs) = record { kind = 2; bytes = v ∷ vs } ∷ []

abbrev pub wave_pool : List ℕ → Payload
wave_pool bytes = record { kind = 1; bytes = bytes }

-- where PCM was written: "a FILL of the rest with 0x80", if it is less than the whole memory, and "a COPY of all of it"
abbrev pub pcm_fill : (count : ℕ) → List Operation
pcm_fill zero = []
pcm_fill (suc n) = cond (ltb (suc n) pcm_size) (Fill 2 (suc n) (pcm_size - suc n) 0x80 ∷ []) []

abbrev pub pcm_copy : (count : ℕ) → List Operation
pcm_copy zero = []
pcm_copy (suc n) = Copy 2 0 0 0 (suc n) ∷ []

-- the pools are "opening PCM bytes if any, then each distinct wave"; the opening is the FILL, "core records as WRITEs in order" and the COPY;
-- "Frame count and repeat carry over"
unfoldable pub repacked : Stream → Stream
repacked s =
    let pcm = map value (to_pcm s.opening) in
    let waves = waves_of [] s.frames in
    let base = length (pcm_pools pcm) in
    record {
      version = 2;
      repeat = s.repeat;
      period = 0;
      cards = [];
      pools = pcm_pools pcm ++ map wave_pool waves;
      opening = pcm_fill (length pcm) ++ to_cores s.opening ++ pcm_copy (length pcm);
      frames = map (λ (frame : List Operation). map (packed_piece base waves) (pieces 0 frame)) s.frames;
    }

-- the repacked file, or the first of the refusals 1 to 20, 21, 22, 23
unfoldable pub repack : List ℕ → Checked (List ℕ)
repack file = do
  s ← read file
  refuse 21 0 (not (eqb s.version 1))
  refuse 22 0 (not (in_order 0 (to_pcm s.opening)))
  let result = written (repacked s)
  refuse 23 0 (ltb file_limit (length result))
  ok result

-- repacking into a lent buffer of so many bytes: the refusals 1 to 24
unfoldable pub repack_into : List ℕ → (room : ℕ) → Checked (List ℕ)
repack_into file room = do
  result ← repack file
  refuse 24 0 (ltb room (length result))
  ok result

-- the lent buffer after it
abbrev pub buffer_after : (file buffer : List ℕ) → List ℕ
buffer_after file buffer = lent_after (λ (result : List ℕ). result) (repack_into file (length buffer)) buffer
