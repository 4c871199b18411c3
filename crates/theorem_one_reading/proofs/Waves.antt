-- The waves of a repacked master: which there are, and where each is found.
use Prim.Native.Nat.{ℕ, zero, suc, ◌%◌, ◌≤◌, ◌<◌}
use mathlib.Core.Path.{◌≡◌, refl, sym, ap, ◌∙◌}
use mathlib.Core.Bool.{Bool, true, false, cond, ◌&&◌, false≢true}
use mathlib.Core.List.{List, [], ◌∷◌, ◌++◌, map}
use native.Mathlib.Numerals.{add-one}
use native.Mathlib.Omega.{arith}
use borrow.Author.Tests.{eqb-true, ltb-true}
use lib.Dec.{eqb, ltb, lit≤}
use lib.ListN.{length, take, drop, take-append-drop}
use Rattle.base_format.specs.declared.operation.Operation.{Operation}
use Rattle.base_format.specs.declared.operation.Operation.TheVariants.{Write, Fill, Copy}
use Rattle.base_format.specs.declared.operation.WriteRecord.{WriteRecord}
use Rattle.base_format.specs.Limits.{Each, Bytes, OperationFits}
use Rattle.base_format.specs.Repack.{Piece, wave, single, address, value, runs, starts_wave, pieces, is_known, added, distinct, waves_of}
use Rattle.base_format.specs.Writes.{write, target_number, upward, writes_with, writes_of, writes_of_all}
use Rattle.base_round_trip.proofs.Each.{each_map, each_append}
use Rattle.base_format.proofs.Checks.{and_true}
use Rattle.base_format.proofs.Known.{added_has, added_keeps}
use Rattle.base_format.proofs.Writes.{writes_append}

-- the records of a master
abbrev pub Records : List Operation → Type 0
Records records = Each (OperationFits 1 [] []) records

-- ---- a wave stays known

distinct_keeps : (known : List (List ℕ)) (ps : List Piece) (bytes : List ℕ) → is_known known bytes ≡ true → is_known (distinct known ps) bytes ≡ true
unfolding distinct
distinct_keeps known [] bytes e = e
distinct_keeps known (single operation ∷ ps) bytes e = distinct_keeps known ps bytes e
distinct_keeps known (wave target a w ∷ ps) bytes e = distinct_keeps (added known w) ps bytes (added_keeps known w bytes e)

waves_keep : (known : List (List ℕ)) (frames : List (List Operation)) (bytes : List ℕ) → is_known known bytes ≡ true → is_known (waves_of known frames) bytes ≡ true
unfolding waves_of
waves_keep known [] bytes e = e
waves_keep known (frame ∷ frames) bytes e = waves_keep (distinct known (pieces 0 frame)) frames bytes (distinct_keeps known (pieces 0 frame) bytes e)

-- every wave of every frame is known in the end
abbrev pub PieceKnown : List (List ℕ) → Piece → Type 0
PieceKnown waves (single operation) = Unit {0}
PieceKnown waves (wave target a bytes) = is_known waves bytes ≡ true

distinct_knows : (known : List (List ℕ)) (ps : List Piece) → Each (PieceKnown (distinct known ps)) ps
unfolding distinct
distinct_knows known [] = tt
distinct_knows known (single operation ∷ ps) = (tt, distinct_knows known ps)
distinct_knows known (wave target a w ∷ ps) = (distinct_keeps (added known w) ps w (added_has known w), distinct_knows (added known w) ps)

pieces_keep : (waves : List (List ℕ)) (frames : List (List Operation)) (p : Piece) → PieceKnown waves p → PieceKnown (waves_of waves frames) p
pieces_keep waves frames (single operation) k = tt
pieces_keep waves frames (wave target a bytes) k = waves_keep waves frames bytes k

pub all_known : (known : List (List ℕ)) (frames : List (List Operation))
    → Each (λ (frame : List Operation). Each (PieceKnown (waves_of known frames)) (pieces 0 frame)) frames
unfolding waves_of
all_known known [] = tt
all_known known (frame ∷ frames) =
    let next = distinct known (pieces 0 frame) in
    (each_map (PieceKnown next) (PieceKnown (waves_of next frames)) (pieces_keep next frames) (pieces 0 frame) (distinct_knows known (pieces 0 frame)), all_known next frames)

-- ---- the records of a wave

-- so many values are bytes, and written upward they are what these records write
abbrev Run : (count target from : ℕ) → (values : List ℕ) → (written : List WriteRecord) → Type 0
Run count target from values written = (length values ≡ count) × Bytes values × (upward target from values ≡ written)

run_writes : (count target from : ℕ) (records : List Operation) → Records records → runs count target from records ≡ true
    → Run count target from (map value (take count records)) (writes_of_all [] (take count records))
unfolding runs upward writes_with writes_of writes_of_all
run_writes zero target from records fits e = (refl, tt, refl)
run_writes (suc count) target from [] fits e = absurd (false≢true e)
run_writes (suc count) target from (Write t a v ∷ records) fits e = go (run_writes count target (suc from) records fits.1) (eqb t target && eqb a from) refl e
  where
    go : (runs count target (suc from) records ≡ true → Run count target (suc from) (map value (take count records)) (writes_of_all [] (take count records)))
        → (b : Bool) → (eqb t target && eqb a from) ≡ b → elim b as (λ (x : Bool). Bool) [ true ↦ runs count target (suc from) records | false ↦ false ] ≡ true
        → Run (suc count) target from (v ∷ map value (take count records)) (writes_of [] (Write t a v) ++ writes_of_all [] (take count records))
    go more true p e' =
        let m = more e' in
        let both = and_true (eqb t target) (eqb a from) p in
        (ap suc m.0, (fits.0.value_byte, m.1), rw add-one (λ i. write (sym (eqb-true t target both.0) i) (sym (eqb-true a from both.1) i) v ∷ m.2 i))
    go more false p e' = absurd (false≢true e')
run_writes (suc count) target from (Fill t a n v ∷ records) fits e = absurd (omega (arith, fits.0.pooled))
run_writes (suc count) target from (Copy t a p q n ∷ records) fits e = absurd (omega (arith, fits.0.pooled))

-- ---- the pieces of a frame

-- a piece within the limits: the wave of a core, or a record
abbrev pub PieceFits : Piece → Type 0
PieceFits (single operation) = OperationFits 1 [] [] operation
PieceFits (wave target a bytes) = (target < 2) × (a < 0x800) × (a % 256 ≡ 0) × (length bytes ≡ 256) × Bytes bytes

starts : (record' : Operation) (records : List Operation) → starts_wave (record' ∷ records) ≡ true
    → (target_number record' < 2) × (address record' < 0x800) × (address record' % 256 ≡ 0) × (runs 256 (target_number record') (address record') (record' ∷ records) ≡ true)
unfolding starts_wave
starts record' records e =
    let a₁ = and_true _ (runs 256 (target_number record') (address record') (record' ∷ records)) e in
    let a₂ = and_true _ (eqb (address record' % 256) 0) a₁.0 in
    let a₃ = and_true (ltb (target_number record') 2) (ltb (address record') 0x800) a₂.0 in
    (ltb-true (target_number record') 2 a₃.0, ltb-true (address record') 0x800 a₃.1, eqb-true (address record' % 256) 0 a₂.1, a₁.1)

-- the writes of a piece
unfoldable pub piece_writes : Piece → List WriteRecord
piece_writes (single operation) = writes_of [] operation
piece_writes (wave target a bytes) = upward target a bytes

unfoldable pub pieces_writes : List Piece → List WriteRecord
pieces_writes [] = []
pieces_writes (p ∷ ps) = piece_writes p ++ pieces_writes ps

-- the pieces fit, are no more than the records, and write what the records write
pub pieces_are : (skip : ℕ) (records : List Operation) → Records records
    → Each PieceFits (pieces skip records) × (length (pieces skip records) ≤ length records) × (pieces_writes (pieces skip records) ≡ writes_of_all [] (drop skip records))
unfolding pieces pieces_writes piece_writes
pieces_are zero [] fits = (tt, lit≤ tt, unfold writes_of_all in refl)
pieces_are (suc skip) [] fits = (tt, lit≤ tt, unfold writes_of_all in refl)
pieces_are (suc skip) (record' ∷ records) fits =
    let more = pieces_are skip records fits.1 in
    (more.0, omega (arith, more.1), more.2)
pieces_are zero (record' ∷ records) fits = go (pieces_are 0 records fits.1) (pieces_are 255 records fits.1) (starts_wave (record' ∷ records)) refl
  where
    all : List Operation
    all = record' ∷ records

    bytes : List ℕ
    bytes = map value (take 256 (record' ∷ records))

    chosen : Bool → List Piece
    chosen b =
        elim b as (λ (x : Bool). List Piece) [ true ↦ wave (target_number record') (address record') bytes ∷ pieces 255 records | false ↦ single record' ∷ pieces 0 records ]

    go : Each PieceFits (pieces 0 records) × (length (pieces 0 records) ≤ length records) × (pieces_writes (pieces 0 records) ≡ writes_of_all [] records)
        → Each PieceFits (pieces 255 records) × (length (pieces 255 records) ≤ length records) × (pieces_writes (pieces 255 records) ≡ writes_of_all [] (drop 255 records))
        → (b : Bool) → starts_wave (record' ∷ records) ≡ b
        → Each PieceFits (chosen b) × (length (chosen b) ≤ suc (length records)) × (pieces_writes (chosen b) ≡ writes_of_all [] (record' ∷ records))
    go next rest true e =
        let s = starts record' records e in
        let r = run_writes 256 (target_number record') (address record') (record' ∷ records) fits s.3 in
        let joined = sym (writes_append [] (take 256 all) (drop 255 records)) ∙ ap (writes_of_all []) (take-append-drop 256 all) in
        (((s.0, s.1, s.2, r.0, r.1), rest.0), omega (arith, rest.1), (λ i. r.2 i ++ rest.2 i) ∙ joined)
    go next rest false e = ((fits.0, next.0), omega (arith, next.1), unfold writes_of_all in ap (λ (l : List WriteRecord). writes_of [] record' ++ l) next.2)

-- ---- the waves are 256 bytes each

abbrev pub WaveFits : List ℕ → Type 0
WaveFits bytes = (length bytes ≡ 256) × Bytes bytes

distinct_fit : (known : List (List ℕ)) (ps : List Piece) → Each WaveFits known → Each PieceFits ps → Each WaveFits (distinct known ps)
unfolding distinct added
distinct_fit known [] h fits = h
distinct_fit known (single operation ∷ ps) h fits = distinct_fit known ps h fits.1
distinct_fit known (wave target a w ∷ ps) h fits = distinct_fit (added known w) ps (go (is_known known w)) fits.1
  where
    go : (b : Bool) → Each WaveFits (cond b known (known ++ (w ∷ [])))
    go true = h
    go false = each_append WaveFits known (w ∷ []) h ((fits.0.3, fits.0.4), tt)

pub waves_fit : (known : List (List ℕ)) (frames : List (List Operation)) → Each WaveFits known → Each Records frames → Each WaveFits (waves_of known frames)
unfolding waves_of
waves_fit known [] h fits = h
waves_fit known (frame ∷ frames) h fits =
    waves_fit (distinct known (pieces 0 frame)) frames (distinct_fit known (pieces 0 frame) h (pieces_are 0 frame fits.0).0) fits.1
