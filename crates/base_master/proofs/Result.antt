-- Laws of the parts of a repacked file: record by record, piece by piece, frame by frame.
use Prim.Native.Nat.{ℕ, zero, suc, ◌+◌, ◌-◌, ◌<◌}
use mathlib.Core.Path.{◌≡◌, refl, sym, ap, ◌∙◌}
use mathlib.Core.Bool.{Bool, true, false, cond}
use mathlib.Core.List.{List, [], ◌∷◌, ◌++◌, map}
use native.Mathlib.Nat.{not-suc-le-zero, add-zero}
use native.Mathlib.Numerals.{add-one}
use native.Mathlib.Omega.{arith}
use borrow.Author.Tests.{eq-eqb, ne_eqb}
use lib.Dec.{eqb}
use lib.ListN.{length, length-append, length-map}
use Rattle.base_format.specs.declared.operation.Operation.{Operation}
use Rattle.base_format.specs.declared.operation.Operation.TheVariants.{Write, Copy}
use Rattle.base_format.specs.Bytes.{byte, be, u16, bytes_of_all}
use Rattle.base_format.specs.Checked.{ok, refused, ◌>>◌}
use Rattle.base_format.specs.Operation.{address_width, size_of}
use Rattle.base_format.specs.Repack.{Piece, wave, single, to_pcm, to_cores, in_order, starts_wave, pieces, added, distinct, waves_of, place_of, packed_piece}
use Rattle.base_format.specs.Written.{item_bytes, operations_bytes, frames_bytes}
use Rattle.base_format.proofs.Fields.{fields_size_lem}
use Rattle.base_master.specs.Places.{record_of, records_at, frames_at, behind_frame, wave_at}
use Rattle.base_master.specs.Result.{pcm_from, pcm_bytes, core_bytes, piece_count, piece_bytes, frame_waves, frame_bytes, all_waves}
use Rattle.base_master.proofs.Pieces.{records_next, wave_next, single_next}

module _ (file : List ℕ) where
  -- ---- the opening

  pcm_records : (count at : ℕ) → 0 < count → (b : Bool) → eqb (byte file at) 2 ≡ b
      → to_pcm (records_at file count at) ≡ cond b (record_of file at ∷ to_pcm (records_at file (count - 1) (at + 5))) (to_pcm (records_at file (count - 1) (at + 5)))
  unfolding to_pcm
  pcm_records count at h b e = rw (records_next file count at h, e)

  core_records : (count at : ℕ) → 0 < count → (b : Bool) → eqb (byte file at) 2 ≡ b
      → to_cores (records_at file count at) ≡ cond b (to_cores (records_at file (count - 1) (at + 5))) (record_of file at ∷ to_cores (records_at file (count - 1) (at + 5)))
  unfolding to_cores
  core_records count at h b e = rw (records_next file count at h, e)

  pub pcm_none : (from at : ℕ) → pcm_from from (records_at file 0 at) ≡ ok from
  unfolding pcm_from records_at to_pcm in_order
  pcm_none from at = rw add-zero

  pub pcm_more : (from count at : ℕ) → 0 < count → byte file at ≡ 2 → be 3 file (at + 1) ≡ from
      → pcm_from from (records_at file count at) ≡ pcm_from (from + 1) (records_at file (count - 1) (at + 5))
  unfolding pcm_from in_order
  pcm_more from count at h t a =
      let n = length (to_pcm (records_at file (count - 1) (at + 5))) in
      let e : from + suc n ≡ suc from + n = omega arith in
      rw (pcm_records count at h true (eq-eqb (byte file at) 2 t), eq-eqb (be 3 file (at + 1)) from a, add-one from, e)

  pub pcm_wrong : (from count at : ℕ) → 0 < count → byte file at ≡ 2 → (be 3 file (at + 1) ≡ from → ⊥) → pcm_from from (records_at file count at) ≡ refused 22 0
  unfolding pcm_from in_order
  pcm_wrong from count at h t a = rw (pcm_records count at h true (eq-eqb (byte file at) 2 t), ne_eqb (be 3 file (at + 1)) from a)

  pub pcm_other : (from count at : ℕ) → 0 < count → (byte file at ≡ 2 → ⊥) → pcm_from from (records_at file count at) ≡ pcm_from from (records_at file (count - 1) (at + 5))
  unfolding pcm_from
  pcm_other from count at h t = rw (pcm_records count at h false (ne_eqb (byte file at) 2 t))

  -- its bytes
  pub pcm_byte : (count at : ℕ) → 0 < count → byte file at ≡ 2 → pcm_bytes file count at ≡ byte file (at + 4) ∷ pcm_bytes file (count - 1) (at + 5)
  unfolding pcm_bytes
  pcm_byte count at h t = rw (pcm_records count at h true (eq-eqb (byte file at) 2 t))

  pub pcm_skip : (count at : ℕ) → 0 < count → (byte file at ≡ 2 → ⊥) → pcm_bytes file count at ≡ pcm_bytes file (count - 1) (at + 5)
  unfolding pcm_bytes
  pcm_skip count at h t = rw (pcm_records count at h false (ne_eqb (byte file at) 2 t))

  pub core_item : (count at : ℕ) → 0 < count → (byte file at ≡ 2 → ⊥) → core_bytes file count at ≡ item_bytes 2 (record_of file at) ++ core_bytes file (count - 1) (at + 5)
  unfolding core_bytes operations_bytes
  core_item count at h t = rw (core_records count at h false (ne_eqb (byte file at) 2 t))

  pub core_skip : (count at : ℕ) → 0 < count → byte file at ≡ 2 → core_bytes file count at ≡ core_bytes file (count - 1) (at + 5)
  unfolding core_bytes
  core_skip count at h t = rw (core_records count at h true (eq-eqb (byte file at) 2 t))

  pub opening_none : (at : ℕ) → (pcm_bytes file 0 at ≡ []) × (core_bytes file 0 at ≡ [])
  unfolding pcm_bytes core_bytes records_at to_pcm to_cores operations_bytes
  opening_none at = (refl, refl)

  -- ---- a frame

  pub waves_none : (known : List (List ℕ)) (at : ℕ) → frame_waves known file 0 at ≡ known
  unfolding frame_waves records_at pieces distinct
  waves_none known at = refl

  pub waves_wave : (known : List (List ℕ)) (count at : ℕ) → starts_wave (records_at file count at) ≡ true
      → frame_waves known file count at ≡ frame_waves (added known (wave_at file at)) file (count - 256) (at + 1280)
  unfolding frame_waves distinct added
  waves_wave known count at e = rw (wave_next file count at e)

  pub waves_single : (known : List (List ℕ)) (count at : ℕ) → 0 < count → starts_wave (records_at file count at) ≡ false
      → frame_waves known file count at ≡ frame_waves known file (count - 1) (at + 5)
  unfolding frame_waves distinct
  waves_single known count at h e = rw (single_next file count at h e)

  pub pieces_none : (at : ℕ) → piece_count file 0 at ≡ 0
  unfolding piece_count records_at pieces
  pieces_none at = refl

  pub pieces_wave : (count at : ℕ) → starts_wave (records_at file count at) ≡ true → piece_count file count at ≡ suc (piece_count file (count - 256) (at + 1280))
  unfolding piece_count
  pieces_wave count at e = rw (wave_next file count at e)

  pub pieces_single : (count at : ℕ) → 0 < count → starts_wave (records_at file count at) ≡ false → piece_count file count at ≡ suc (piece_count file (count - 1) (at + 5))
  unfolding piece_count
  pieces_single count at h e = rw (single_next file count at h e)

  module _ (base : ℕ) (waves : List (List ℕ)) where
    pub bytes_none : (at : ℕ) → piece_bytes base waves file 0 at ≡ []
    unfolding piece_bytes records_at pieces operations_bytes
    bytes_none at = refl

    pub bytes_wave : (count at : ℕ) → starts_wave (records_at file count at) ≡ true
        → piece_bytes base waves file count at
        ≡ item_bytes 2 (Copy (byte file at) (be 3 file (at + 1)) (base + place_of waves (wave_at file at)) 0 256) ++ piece_bytes base waves file (count - 256) (at + 1280)
    unfolding piece_bytes operations_bytes
    bytes_wave count at e = rw (wave_next file count at e)

    pub bytes_single : (count at : ℕ) → 0 < count → starts_wave (records_at file count at) ≡ false
        → piece_bytes base waves file count at ≡ item_bytes 2 (record_of file at) ++ piece_bytes base waves file (count - 1) (at + 5)
    unfolding piece_bytes operations_bytes
    bytes_single count at h e = rw (single_next file count at h e)

  -- ---- all frames

  frames_one : (count at : ℕ) → 0 < count → frames_at file count at ≡ records_at file (be 2 file at) (at + 2) ∷ frames_at file (count - 1) (behind_frame file at)
  unfolding frames_at
  frames_one zero at h = absurd (not-suc-le-zero h)
  frames_one (suc count) at h =
      let e : suc count - 1 ≡ count = omega arith in
      rw e

  pub all_none : (known : List (List ℕ)) (at : ℕ) → all_waves known file 0 at ≡ known
  unfolding all_waves frames_at waves_of
  all_none known at = refl

  pub all_next : (known : List (List ℕ)) (count at : ℕ) → 0 < count
      → all_waves known file count at ≡ all_waves (frame_waves known file (be 2 file at) (at + 2)) file (count - 1) (behind_frame file at)
  unfolding all_waves frame_waves waves_of
  all_next known count at h = rw (frames_one count at h)

  module _ (base : ℕ) (waves : List (List ℕ)) where
    pub frames_none : (at : ℕ) → frame_bytes base waves file 0 at ≡ []
    unfolding frame_bytes frames_at frames_bytes
    frames_none at = refl

    pub frames_next : (count at : ℕ) → 0 < count
        → frame_bytes base waves file count at ≡ bytes_of_all (u16 (piece_count file (be 2 file at) (at + 2)) ∷ []) ++ (piece_bytes base waves file (be 2 file at) (at + 2) ++ frame_bytes base waves file (count - 1) (behind_frame file at))
    unfolding frame_bytes piece_bytes piece_count frames_bytes
    frames_next count at h = rw (frames_one count at h, length-map)

-- ---- sizes: which pool a COPY names does not matter

-- by the table of lengths, for addresses of 3 bytes
pub write_size : (t a v : ℕ) → length (item_bytes 2 (Write t a v)) ≡ size_of 3 0
unfolding item_bytes address_width size_of
write_size t a v = fields_size_lem _

pub copy_size : (t a p q n : ℕ) → length (item_bytes 2 (Copy t a p q n)) ≡ size_of 3 2
unfolding item_bytes address_width size_of
copy_size t a p q n = fields_size_lem _

-- what the table says, where a sum of sizes has a bound
pub write_six : size_of 3 0 ≡ 6
unfolding size_of
write_six = refl

module _ (file : List ℕ) (base : ℕ) (waves : List (List ℕ)) where
  pub size_none : (at : ℕ) → length (piece_bytes base waves file 0 at) ≡ 0
  size_none at = ap length (bytes_none file base waves at)

  pub size_wave : (count at : ℕ) → starts_wave (records_at file count at) ≡ true → length (piece_bytes base waves file count at) ≡ size_of 3 2 + length (piece_bytes base waves file (count - 256) (at + 1280))
  size_wave count at e = rw (bytes_wave file base waves count at e, length-append, copy_size)

  pub size_single : (count at : ℕ) → 0 < count → starts_wave (records_at file count at) ≡ false
      → length (piece_bytes base waves file count at) ≡ size_of 3 0 + length (piece_bytes base waves file (count - 1) (at + 5))
  size_single count at h e = rw (bytes_single file base waves count at h e, length-append, write_size)

  pub size_frame : (count at : ℕ) → 0 < count
      → length (frame_bytes base waves file count at) ≡ 2 + length (piece_bytes base waves file (be 2 file at) (at + 2)) + length (frame_bytes base waves file (count - 1) (behind_frame file at))
  size_frame count at h = simp (frames_next file base waves count at h, length-append, fields_size_lem) (omega arith)

module _ (base base' : ℕ) (waves waves' : List (List ℕ)) where
  piece_size : (p : Piece) → length (item_bytes 2 (packed_piece base waves p)) ≡ length (item_bytes 2 (packed_piece base' waves' p))
  piece_size (single operation) = refl
  piece_size (wave target a bytes) = copy_size target a (base + place_of waves bytes) 0 256 ∙ sym (copy_size target a (base' + place_of waves' bytes) 0 256)

  pieces_size : (ps : List Piece) → length (operations_bytes 2 (map (packed_piece base waves) ps)) ≡ length (operations_bytes 2 (map (packed_piece base' waves') ps))
  unfolding operations_bytes
  pieces_size [] = refl
  pieces_size (p ∷ ps) = rw (length-append, length-append, piece_size p, pieces_size ps)

  frames_size : (frames : List (List Operation))
      → length (frames_bytes 2 (map (λ (frame : List Operation). map (packed_piece base waves) (pieces 0 frame)) frames))
      ≡ length (frames_bytes 2 (map (λ (frame : List Operation). map (packed_piece base' waves') (pieces 0 frame)) frames))
  unfolding frames_bytes
  frames_size [] = refl
  frames_size (frame ∷ frames) = simp (length-append, fields_size_lem, pieces_size (pieces 0 frame), frames_size frames)

  pub frame_bytes_size : (file : List ℕ) (count at : ℕ) → length (frame_bytes base waves file count at) ≡ length (frame_bytes base' waves' file count at)
  unfolding frame_bytes
  frame_bytes_size file count at = frames_size (frames_at file count at)
