-- A repacked frame: its operations are within the limits, and make the master's writes.
use Prim.Native.Nat.{ℕ, zero, suc, ◌+◌, ◌<◌}
use mathlib.Core.Path.{◌≡◌, refl, ap, ◌∙◌}
use mathlib.Core.Bool.{true}
use mathlib.Core.List.{List, [], ◌∷◌, ◌++◌, map}
use native.Mathlib.Nat.{not-suc-le-zero, le_of_suc-le-suc}
use native.Mathlib.Omega.{arith}
use borrow.Author.Tests.{lt-ltb}
use lib.Dec.{lit≤}
use lib.ListN.{length, get_or, length-append, length-map}
use lib.Seq.{take_all, get_or-append-add}
use Rattle.base_format.specs.declared.operation.Operation.{Operation}
use Rattle.base_format.specs.declared.operation.Operation.TheVariants.{Write, Fill, Copy}
use Rattle.base_targets.specs.declared.Target.TheVariants.{Core}
use Rattle.base_format.specs.Bytes.{part}
use Rattle.base_format.specs.Compare.{same_frames}
use Rattle.base_format.specs.Limits.{Each, OperationFits, FrameFits}
use Rattle.base_format.specs.Pool.{no_pool, Payload}
use Rattle.base_format.specs.Repack.{Piece, wave, single, pieces, is_known, place_of, packed_piece, wave_pool}
use Rattle.base_format.specs.Target.{target_of}
use Rattle.base_format.specs.Writes.{upward, writes_with, writes_of, writes_of_all}
use Rattle.base_format.proofs.Known.{known_place}
use Rattle.base_format.proofs.Equal.{writes_self}
use Rattle.theorem_one_reading.proofs.Waves.{PieceKnown, PieceFits, piece_writes, pieces_writes, pieces_are}

-- a record of the master, in the repacked file
pub kept_fits : (pools : List Payload) (operation : Operation) → OperationFits 1 [] [] operation → OperationFits 2 [] pools operation
unfolding target_of
kept_fits pools (Write target a v) fits = record { exists = fits.exists; within = fits.within; value_byte = fits.value_byte }
kept_fits pools (Fill target a n v) fits = absurd (omega (arith, fits.pooled))
kept_fits pools (Copy target a p q n) fits = absurd (omega (arith, fits.pooled))

kept_writes : (pools : List Payload) (operation : Operation) → OperationFits 1 [] [] operation → writes_of pools operation ≡ writes_of [] operation
unfolding writes_with writes_of
kept_writes pools (Write target a v) fits = refl
kept_writes pools (Fill target a n v) fits = absurd (omega (arith, fits.pooled))
kept_writes pools (Copy target a p q n) fits = absurd (omega (arith, fits.pooled))

get_d_wave : (waves : List (List ℕ)) (i : ℕ) → i < length waves → get_or (map wave_pool waves) i no_pool ≡ wave_pool (get_or waves i [])
get_d_wave [] i h = absurd (not-suc-le-zero h)
get_d_wave (w ∷ waves) zero h = refl
get_d_wave (w ∷ waves) (suc i) h = get_d_wave waves i (le_of_suc-le-suc h)

module _ (front : List Payload) (waves : List (List ℕ)) where
  -- the place of a wave among the pools
  wave_place : (bytes : List ℕ) → is_known waves bytes ≡ true
      → (length front + place_of waves bytes < length (front ++ map wave_pool waves)) × (get_or (front ++ map wave_pool waves) (length front + place_of waves bytes) no_pool ≡ wave_pool bytes)
  wave_place bytes known =
      let k = known_place waves bytes known in (
        simp (length-append, length-map) (omega (arith, k.0)),
        get_or-append-add front (map wave_pool waves) (place_of waves bytes) no_pool ∙ get_d_wave waves (place_of waves bytes) k.0 ∙ ap wave_pool k.1,
      )

  piece_fits : (p : Piece) → PieceFits p → PieceKnown waves p → OperationFits 2 [] (front ++ map wave_pool waves) (packed_piece (length front) waves p)
  unfolding target_of
  piece_fits (single operation) fits known = kept_fits (front ++ map wave_pool waves) operation fits
  piece_fits (wave target a bytes) fits known =
      let place = wave_place bytes known in
      let core : target_of 2 [] target ≡ Core = rw (lt-ltb target 2 fits.0) in
      record {
        pooled = lit≤ tt;
        exists = rw core;
        inside = rw core (record { some = lit≤ tt; from = omega arith; up_to = omega (arith, fits.1, fits.2) });
        known = place.0;
        takes = rw (place.1, core) (record { in_pool = omega (arith, fits.3); right_kind = refl; whole_waves = λ one. (fits.2, refl, refl) });
      }

  -- the pieces as operations: within the limits, and with the same writes
  packed_fit : (ps : List Piece) → Each PieceFits ps → Each (PieceKnown waves) ps
      → Each (OperationFits 2 [] (front ++ map wave_pool waves)) (map (packed_piece (length front) waves) ps)
  packed_fit [] fits known = tt
  packed_fit (p ∷ ps) fits known = (piece_fits p fits.0 known.0, packed_fit ps fits.1 known.1)

  piece_writes_lem : (p : Piece) → PieceFits p → PieceKnown waves p → writes_of (front ++ map wave_pool waves) (packed_piece (length front) waves p) ≡ piece_writes p
  unfolding writes_with writes_of piece_writes
  piece_writes_lem (single operation) fits known = kept_writes (front ++ map wave_pool waves) operation fits
  piece_writes_lem (wave target a bytes) fits known =
      ap (λ (p : Payload). upward target a (part p.bytes 0 256)) (wave_place bytes known).1 ∙ ap (upward target a) (take_all 256 bytes (omega (arith, fits.3)))

  packed_writes : (ps : List Piece) → Each PieceFits ps → Each (PieceKnown waves) ps
      → writes_of_all (front ++ map wave_pool waves) (map (packed_piece (length front) waves) ps) ≡ pieces_writes ps
  unfolding writes_of_all pieces_writes
  packed_writes [] fits known = refl
  packed_writes (p ∷ ps) fits known = rw (piece_writes_lem p fits.0 known.0, packed_writes ps fits.1 known.1)

  abbrev packed_frame : List Operation → List Operation
  packed_frame frame = map (packed_piece (length front) waves) (pieces 0 frame)

  pub frames_fit : (frames : List (List Operation)) → Each (FrameFits 1 [] []) frames
      → Each (λ (frame : List Operation). Each (PieceKnown waves) (pieces 0 frame)) frames
      → Each (FrameFits 2 [] (front ++ map wave_pool waves)) (map packed_frame frames)
  frames_fit [] fits known = tt
  frames_fit (frame ∷ frames) fits known =
      let are = pieces_are 0 frame fits.0.operations in
      (record { frame_count = rw length-map (omega (arith, are.1, fits.0.frame_count)); operations = packed_fit (pieces 0 frame) are.0 known.0 }, frames_fit frames fits.1 known.1)

  pub frames_agree_lem : (frames : List (List Operation)) → Each (FrameFits 1 [] []) frames
      → Each (λ (frame : List Operation). Each (PieceKnown waves) (pieces 0 frame)) frames
      → same_frames [] (front ++ map wave_pool waves) frames (map packed_frame frames) ≡ true
  unfolding same_frames
  frames_agree_lem [] fits known = refl
  frames_agree_lem (frame ∷ frames) fits known =
      let are = pieces_are 0 frame fits.0.operations in
      let same : writes_of_all (front ++ map wave_pool waves) (packed_frame frame) ≡ writes_of_all [] frame = packed_writes (pieces 0 frame) are.0 known.0 ∙ are.2 in
      rw (same, writes_self (writes_of_all [] frame), frames_agree_lem frames fits.1 known.1)

-- ---- the opening
