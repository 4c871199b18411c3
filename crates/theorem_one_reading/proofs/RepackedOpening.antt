-- A repacked opening: the PCM pool, the FILL, the core records and the COPY are within the limits, and make the master's writes.
use Prim.Native.Nat.{ℕ, zero, suc, ◌+◌, ◌-◌, ◌≤◌, ◌<◌}
use mathlib.Core.Path.{◌≡◌, refl, ap, ◌∙◌}
use mathlib.Core.Bool.{Bool, true, false, cond}
use mathlib.Core.List.{List, [], ◌∷◌, ◌++◌, map, append-nil}
use native.Mathlib.Numerals.{add-one}
use native.Mathlib.Omega.{arith}
use borrow.Author.Tests.{eqb-true, ltb-true}
use lib.Dec.{eqb, ltb, lit<, lit≤}
use lib.ListN.{length, take, set, replicate}
use lib.Seq.{take-length}
use Rattle.base_format.specs.declared.operation.Operation.{Operation}
use Rattle.base_format.specs.declared.operation.Operation.TheVariants.{Write, Fill, Copy}
use Rattle.base_format.specs.Compare.{core_writes, played}
use Rattle.base_format.specs.Limits.{Each, Bytes, OperationFits, PoolFits}
use Rattle.base_format.specs.Pool.{Payload, bank_limit, kind_wrong}
use Rattle.base_format.specs.Repack.{value, to_pcm, to_cores, in_order, pcm_pools, wave_pool, pcm_fill, pcm_copy}
use Rattle.base_format.specs.Target.{target_of}
use Rattle.base_format.specs.Writes.{write, target_number, upward, writes_with, writes_of, writes_of_all}
use Rattle.base_format.proofs.Checks.{and_true}
use Rattle.base_format.proofs.Steps.{is_pcm, kind_fine}
use Rattle.theorem_one_reading.proofs.Waves.{Records, WaveFits}
use Rattle.theorem_one_reading.proofs.RepackedFrames.{kept_fits}

-- the PCM bytes, in order: no more than the memory holds
pub pcm_count : (from : ℕ) (records : List Operation) → Records records → in_order from (to_pcm records) ≡ true → from ≤ 1048576
    → from + length (map value (to_pcm records)) ≤ 1048576
unfolding to_pcm in_order target_of
pcm_count from [] fits e start = omega arith
pcm_count from (Write t a v ∷ records) fits e start = go (pcm_count from records fits.1) (pcm_count (suc from) records fits.1) (eqb t 2) refl e
  where
    chosen : Bool → List Operation
    chosen b = cond b (Write t a v ∷ to_pcm records) (to_pcm records)

    go : (in_order from (to_pcm records) ≡ true → from ≤ 1048576 → from + length (map value (to_pcm records)) ≤ 1048576)
        → (in_order (suc from) (to_pcm records) ≡ true → suc from ≤ 1048576 → suc from + length (map value (to_pcm records)) ≤ 1048576)
        → (b : Bool) → eqb t 2 ≡ b → in_order from (chosen b) ≡ true → from + length (map value (chosen b)) ≤ 1048576
    go here next true p o =
        let two : t ≡ 2 = eqb-true t 2 p in
        let both = and_true (eqb a from) (in_order (suc from) (to_pcm records)) o in
        let last : a ≤ 0xFFFFF = rw two at fits.0.within in
        let same : a ≡ from = eqb-true a from both.0 in
        omega (arith, next both.1 (omega arith))
    go here next false p o = here o start
pcm_count from (Fill t a n v ∷ records) fits e start = absurd (omega (arith, fits.0.pooled))
pcm_count from (Copy t a q r n ∷ records) fits e start = absurd (omega (arith, fits.0.pooled))

pub pcm_bytes_lem : (records : List Operation) → Records records → Bytes (map value (to_pcm records))
unfolding to_pcm
pcm_bytes_lem [] fits = tt
pcm_bytes_lem (Write t a v ∷ records) fits = go (pcm_bytes_lem records fits.1) (eqb t 2)
  where
    go : Bytes (map value (to_pcm records)) → (b : Bool) → Bytes (map value (cond b (Write t a v ∷ to_pcm records) (to_pcm records)))
    go more true = (fits.0.value_byte, more)
    go more false = more
pcm_bytes_lem (Fill t a n v ∷ records) fits = absurd (omega (arith, fits.0.pooled))
pcm_bytes_lem (Copy t a q r n ∷ records) fits = absurd (omega (arith, fits.0.pooled))

pub cores_fit : (pools : List Payload) (records : List Operation) → Records records → Each (OperationFits 2 [] pools) (to_cores records)
unfolding to_cores
cores_fit pools [] fits = tt
cores_fit pools (record' ∷ records) fits = go (cores_fit pools records fits.1) (eqb (target_number record') 2)
  where
    go : Each (OperationFits 2 [] pools) (to_cores records) → (b : Bool) → Each (OperationFits 2 [] pools) (cond b (to_cores records) (record' ∷ to_cores records))
    go more true = more
    go more false = (kept_fits pools record' fits.0, more)

-- the FILL and the COPY
pub fill_fits : (pools : List Payload) (n : ℕ) → Each (OperationFits 2 [] pools) (pcm_fill n)
unfolding target_of
fill_fits pools zero = tt
fill_fits pools (suc n) = go (ltb (suc n) 1048576) refl
  where
    go : (b : Bool) → ltb (suc n) 1048576 ≡ b → Each (OperationFits 2 [] pools) (cond b (Fill 2 (suc n) (1048576 - suc n) 0x80 ∷ []) [])
    go true e =
        let less : suc n < 1048576 = ltb-true (suc n) 1048576 e in
        let size = 1048576 - suc n in
        (record { pooled = lit≤ tt; exists = refl; inside = record { some = omega arith; from = omega arith; up_to = omega arith }; value_byte = lit< tt }, tt)
    go false e = tt

pub copy_fits : (pcm : List ℕ) (more : List Payload) → length pcm ≤ 1048576 → Each (OperationFits 2 [] (pcm_pools pcm ++ more)) (pcm_copy (length pcm))
unfolding target_of
copy_fits [] more h = tt
copy_fits (v ∷ vs) more h =
    let n = suc (length vs) in (
      record {
        pooled = lit≤ tt;
        exists = refl;
        inside = record { some = omega arith; from = omega arith; up_to = omega arith };
        known = omega arith;
        takes = record { in_pool = omega arith; right_kind = refl; whole_waves = λ one. absurd (omega arith) };
      },
      tt,
    )

pub pcm_pool_fits : (pcm : List ℕ) → Bytes pcm → length pcm ≤ 1048576 → Each (PoolFits 2) (pcm_pools pcm)
unfolding bank_limit kind_wrong
pcm_pool_fits [] bytes h = tt
pcm_pool_fits (v ∷ vs) bytes h = (record { kind_size = kind_fine 2 2 (suc (length vs)) (is_pcm refl (omega arith) h); pool_bytes = bytes }, tt)

pub wave_pools_fit : (waves : List (List ℕ)) → Each WaveFits waves → Each (PoolFits 2) (map wave_pool waves)
unfolding bank_limit kind_wrong
wave_pools_fit [] fits = tt
wave_pools_fit (w ∷ waves) fits = (record { kind_size = rw fits.0.0; pool_bytes = fits.0.1 }, wave_pools_fit waves fits.1)

-- ---- what the opening writes

-- writes to PCM are no core's
pub pcm_core : (from : ℕ) (values : List ℕ) → core_writes (upward 2 from values) ≡ []
unfolding core_writes upward
pcm_core from [] = refl
pcm_core from (v ∷ values) = pcm_core (from + 1) values

-- the records to cores alone: the same core writes, and PCM memory stays
pub cores_core : (pools : List Payload) (records : List Operation) → Records records → core_writes (writes_of_all pools (to_cores records)) ≡ core_writes (writes_of_all [] records)
unfolding core_writes writes_of_all writes_with writes_of upward to_cores
cores_core pools [] fits = refl
cores_core pools (Write t a v ∷ records) fits = go (cores_core pools records fits.1) (eqb t 2) refl
  where
    go : core_writes (writes_of_all pools (to_cores records)) ≡ core_writes (writes_of_all [] records)
        → (b : Bool) → eqb t 2 ≡ b
        → core_writes (writes_of_all pools (cond b (to_cores records) (Write t a v ∷ to_cores records)))
        ≡ cond (ltb t 2) (write t a v ∷ core_writes (writes_of_all [] records)) (core_writes (writes_of_all [] records))
    go more true e = rw (eqb-true t 2 e) more
    go more false e = rw more
cores_core pools (Fill t a n v ∷ records) fits = absurd (omega (arith, fits.0.pooled))
cores_core pools (Copy t a q r n ∷ records) fits = absurd (omega (arith, fits.0.pooled))

pub cores_played : (pools : List Payload) (memory : List ℕ) (records : List Operation) → Records records → played memory (writes_of_all pools (to_cores records)) ≡ memory
unfolding played writes_of_all writes_with writes_of upward to_cores
cores_played pools memory [] fits = refl
cores_played pools memory (Write t a v ∷ records) fits = go (λ (m : List ℕ). cores_played pools m records fits.1) (eqb t 2) refl
  where
    go : ((m : List ℕ) → played m (writes_of_all pools (to_cores records)) ≡ m) → (b : Bool) → eqb t 2 ≡ b
        → played memory (writes_of_all pools (cond b (to_cores records) (Write t a v ∷ to_cores records))) ≡ memory
    go more true e = more memory
    go more false e = ap (λ (b : Bool). played (cond b (set memory a v) memory) (writes_of_all pools (to_cores records))) e ∙ more memory
cores_played pools memory (Fill t a n v ∷ records) fits = absurd (omega (arith, fits.0.pooled))
cores_played pools memory (Copy t a q r n ∷ records) fits = absurd (omega (arith, fits.0.pooled))

-- the master's PCM writes in order are its PCM bytes written upward
pub pcm_played : (memory : List ℕ) (from : ℕ) (records : List Operation) → Records records → in_order from (to_pcm records) ≡ true
    → played memory (writes_of_all [] records) ≡ played memory (upward 2 from (map value (to_pcm records)))
unfolding played writes_of_all writes_with writes_of upward to_pcm in_order
pcm_played memory from [] fits e = refl
pcm_played memory from (Write t a v ∷ records) fits e = go (λ (m : List ℕ) (f : ℕ). pcm_played m f records fits.1) (eqb t 2) refl e
  where
    go : ((m : List ℕ) (f : ℕ) → in_order f (to_pcm records) ≡ true → played m (writes_of_all [] records) ≡ played m (upward 2 f (map value (to_pcm records))))
        → (b : Bool) → eqb t 2 ≡ b → in_order from (cond b (Write t a v ∷ to_pcm records) (to_pcm records)) ≡ true
        → played (cond b (set memory a v) memory) (writes_of_all [] records) ≡ played memory (upward 2 from (map value (cond b (Write t a v ∷ to_pcm records) (to_pcm records))))
    go more true p o =
        let both = and_true (eqb a from) (in_order (suc from) (to_pcm records)) o in
        rw (eqb-true a from both.0, add-one) (more (set memory from v) (suc from) both.1)
    go more false p o = more memory from o
pcm_played memory from (Fill t a n v ∷ records) fits e = absurd (omega (arith, fits.0.pooled))
pcm_played memory from (Copy t a q r n ∷ records) fits e = absurd (omega (arith, fits.0.pooled))

-- memory that is filled with a value, filled with it again
set_same : (n i v : ℕ) → set (replicate n v) i v ≡ replicate n v
set_same zero i v = refl
set_same (suc n) zero v = refl
set_same (suc n) (suc i) v = ap (λ (l : List ℕ). v ∷ l) (set_same n i v)

pub still : (n k from v : ℕ) → played (replicate n v) (upward 2 from (replicate k v)) ≡ replicate n v
unfolding played upward
still n zero from v = refl
still n (suc k) from v = ap (λ (m : List ℕ). played m (upward 2 (from + 1) (replicate k v))) (set_same n from v) ∙ still n k (from + 1) v

-- the FILL writes what is there, and the COPY the PCM bytes
pub fill_writes : (pools : List Payload) (n : ℕ) → (k : ℕ) × (writes_of_all pools (pcm_fill n) ≡ upward 2 n (replicate k 0x80))
unfolding writes_of_all writes_with writes_of upward
fill_writes pools zero = (0, refl)
fill_writes pools (suc n) = go (ltb (suc n) 1048576)
  where
    go : (b : Bool) → (k : ℕ) × (writes_of_all pools (cond b (Fill 2 (suc n) (1048576 - suc n) 0x80 ∷ []) []) ≡ upward 2 (suc n) (replicate k 0x80))
    go true = (1048576 - suc n, append-nil (upward 2 (suc n) (replicate (1048576 - suc n) 0x80)))
    go false = (0, refl)

pub copy_writes : (pcm : List ℕ) (more : List Payload) → writes_of_all (pcm_pools pcm ++ more) (pcm_copy (length pcm)) ≡ upward 2 0 pcm
unfolding writes_of_all writes_with writes_of
copy_writes [] more = unfold upward in refl
copy_writes (v ∷ vs) more = append-nil (upward 2 0 (take (suc (length vs)) (v ∷ vs))) ∙ ap (upward 2 0) (take-length (v ∷ vs))

-- ---- the whole
