-- Laws of frames by the numbers of their waves: piece by piece, frame by frame, and that they are the frames of the repacked file.
use Prim.Native.Nat.{ℕ, zero, suc, ◌+◌, ◌-◌, ◌≤◌, ◌<◌}
use mathlib.Core.Path.{◌≡◌, refl, sym, ap, ◌∙◌}
use mathlib.Core.Bool.{Bool, true, false}
use mathlib.Core.List.{List, [], ◌∷◌, ◌++◌, append_assoc}
use native.Mathlib.Nat.{not-suc-le-zero}
use native.Mathlib.Omega.{arith}
use lib.ListN.{length, get_or, length-append}
use Rattle.base_format.specs.declared.operation.Operation.TheVariants.{Copy}
use Rattle.base_format.specs.Bytes.{byte, be, u16, bytes_of_all}
use Rattle.base_format.specs.Operation.{size_of}
use Rattle.base_format.specs.Repack.{starts_wave, pieces, place_of}
use Rattle.base_format.specs.Written.{item_bytes, operations_bytes}
use Rattle.base_format.proofs.Fields.{fields_size_lem}
use Rattle.base_master.specs.Places.{record_of, records_at, behind_frame, wave_at}
use Rattle.base_master.specs.Result.{piece_count, piece_bytes, frame_bytes}
use Rattle.base_master.specs.Uses.{uses_at, all_uses, Marked, MarkedFrames, numbered, pieces_by, frame_by, frames_by}
use Rattle.base_master.proofs.Pieces.{wave_next, single_next}
use Rattle.base_master.proofs.Result.{bytes_none, bytes_wave, bytes_single, frames_none, frames_next, write_size, copy_size}
use Rattle.base_master.proofs.Uses.{uses_wave, uses_single, all_uses_next, wave_marked, behind_wave, behind_single, frame_marked, frames_marked}

module _ (numbers : List ℕ) (base : ℕ) (file : List ℕ) where
  -- ---- a frame

  pub by_none : (used at : ℕ) → pieces_by numbers base used file 0 at ≡ []
  unfolding pieces_by records_at pieces numbered operations_bytes
  by_none used at = refl

  pub by_wave : (used count at : ℕ) → starts_wave (records_at file count at) ≡ true
      → pieces_by numbers base used file count at
      ≡ item_bytes 2 (Copy (byte file at) (be 3 file (at + 1)) (base + get_or numbers used 0) 0 256) ++ pieces_by numbers base (used + 1) file (count - 256) (at + 1280)
  unfolding pieces_by numbered operations_bytes
  by_wave used count at e = rw (wave_next file count at e)

  pub by_single : (used count at : ℕ) → 0 < count → starts_wave (records_at file count at) ≡ false
      → pieces_by numbers base used file count at ≡ item_bytes 2 (record_of file at) ++ pieces_by numbers base used file (count - 1) (at + 5)
  unfolding pieces_by numbered operations_bytes
  by_single used count at h e = rw (single_next file count at h e)

  pub by_wave_size : (used count at : ℕ) → starts_wave (records_at file count at) ≡ true
      → length (pieces_by numbers base used file count at) ≡ size_of 3 2 + length (pieces_by numbers base (used + 1) file (count - 256) (at + 1280))
  by_wave_size used count at e = rw (by_wave used count at e, length-append, copy_size)

  pub by_single_size : (used count at : ℕ) → 0 < count → starts_wave (records_at file count at) ≡ false
      → length (pieces_by numbers base used file count at) ≡ size_of 3 0 + length (pieces_by numbers base used file (count - 1) (at + 5))
  by_single_size used count at h e = rw (by_single used count at h e, length-append, write_size)

  pub frame_by_size : (used at : ℕ) → length (frame_by numbers base used file at) ≡ 2 + length (pieces_by numbers base used file (be 2 file at) (at + 2))
  unfolding frame_by
  frame_by_size used at = length-append (bytes_of_all (u16 _ ∷ [])) (pieces_by numbers base used file (be 2 file at) (at + 2)) ∙ rw fields_size_lem

  -- ---- all frames

  pub frames_by_none : (used at : ℕ) → frames_by numbers base used file 0 at ≡ []
  unfolding frames_by
  frames_by_none used at = refl

  pub frames_by_next : (used count at : ℕ) → 0 < count
      → frames_by numbers base used file count at
      ≡ frame_by numbers base used file at ++ frames_by numbers base (used + length (uses_at file (be 2 file at) (at + 2))) file (count - 1) (behind_frame file at)
  unfolding frames_by
  frames_by_next used zero at h = absurd (not-suc-le-zero h)
  frames_by_next used (suc count) at h =
      let e : suc count - 1 ≡ count = omega arith in
      rw e

-- ---- the noted numbers are the places of the waves

abbrev pub Placed : (waves : List (List ℕ)) (numbers file spots : List ℕ) (end : ℕ) → Type 0
Placed waves numbers file spots end = (k : ℕ) → k < end → get_or numbers k 0 ≡ place_of waves (wave_at file (get_or spots k 0))

module _ (waves : List (List ℕ)) (numbers : List ℕ) (base : ℕ) (file spots : List ℕ) where
  -- up to so many records
  abbrev UpTo : (fuel : ℕ) → Type 0
  UpTo fuel =
      (used count at : ℕ) → count ≤ fuel → Marked file spots used count at → Placed waves numbers file spots (used + length (uses_at file count at))
      → pieces_by numbers base used file count at ≡ piece_bytes base waves file count at

  one_more : (fuel : ℕ) → UpTo fuel → UpTo (suc fuel)
  one_more fuel rest used zero at h m placed = by_none numbers base file used at ∙ sym (bytes_none file base waves at)
  one_more fuel rest used (suc count) at h m placed = go (starts_wave (records_at file (suc count) at)) refl
    where
      go : (b : Bool) → starts_wave (records_at file (suc count) at) ≡ b → pieces_by numbers base used file (suc count) at ≡ piece_bytes base waves file (suc count) at
      go true e =
          let uses = ap length (uses_wave file (suc count) at e) in
          let number : get_or numbers used 0 ≡ place_of waves (wave_at file at) = placed used (omega arith) ∙ ap (λ (spot : ℕ). place_of waves (wave_at file spot)) (wave_marked m e) in
          let more = rest (used + 1) (suc count - 256) (at + 1280) (omega arith) (behind_wave m e) (λ k less. placed k (omega arith)) in
          by_wave numbers base file used (suc count) at e
          ∙ (λ i. item_bytes 2 (Copy (byte file at) (be 3 file (at + 1)) (base + number i) 0 256) ++ more i)
          ∙ sym (bytes_wave file base waves (suc count) at e)
      go false e =
          let some : 0 < suc count = omega arith in
          let uses = ap length (uses_single file (suc count) at some e) in
          let more = rest used (suc count - 1) (at + 5) (omega arith) (behind_single m some e) (λ k less. placed k (omega arith)) in
          by_single numbers base file used (suc count) at some e ∙ ap (λ (l : List ℕ). item_bytes 2 (record_of file at) ++ l) more ∙ sym (bytes_single file base waves (suc count) at some e)

  pieces_by_is : (fuel : ℕ) → UpTo fuel
  pieces_by_is zero used count at h m placed = let none : count ≡ 0 = omega arith in rw none (by_none numbers base file used at ∙ sym (bytes_none file base waves at))
  pieces_by_is (suc fuel) used count at h m placed = one_more fuel (pieces_by_is fuel) used count at h m placed

  pub frames_by_is : (used count at : ℕ) → MarkedFrames file spots used count at → Placed waves numbers file spots (used + length (all_uses file count at))
      → frames_by numbers base used file count at ≡ frame_bytes base waves file count at
  unfolding frame_by frames_by
  frames_by_is used zero at m placed = frames_by_none numbers base file used at ∙ sym (frames_none file base waves at)
  frames_by_is used (suc count) at m placed =
      let some : 0 < suc count = omega arith in
      let left : suc count - 1 ≡ count = omega arith in
      let records = be 2 file at in
      let uses = ap length (all_uses_next file (suc count) at some) ∙ length-append (uses_at file records (at + 2)) (all_uses file (suc count - 1) (behind_frame file at)) in
      let here = pieces_by_is records used records (at + 2) (omega arith) (frame_marked m some) (λ k less. placed k (omega (arith, uses))) in
      let more = frames_by_is (used + length (uses_at file records (at + 2))) count (behind_frame file at) (rw left at (frames_marked m some refl)) (λ k less. placed k (omega (arith, rw left at uses))) in
      let count-bytes = bytes_of_all (u16 (piece_count file records (at + 2)) ∷ []) in
      let next = frames_next file base waves (suc count) at some in
      append_assoc count-bytes (pieces_by numbers base used file records (at + 2)) (frames_by numbers base (used + length (uses_at file records (at + 2))) file count (behind_frame file at))
      ∙ (λ i. count-bytes ++ (here i ++ more i))
      ∙ sym (rw left at next)
