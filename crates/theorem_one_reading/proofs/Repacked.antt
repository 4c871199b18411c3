-- A repacked master is within the limits, and agrees with the master: the comparison passes it.
use Prim.Native.Nat.{ℕ, ◌+◌, ◌*◌, ◌≤◌}
use mathlib.Core.Path.{◌≡◌, refl, sym, ap, ◌∙◌, subst}
use mathlib.Core.Bool.{Bool, true, false, not, ◌&&◌, beq}
use mathlib.Core.Logic.{inl}
use mathlib.Core.List.{List, [], ◌∷◌, ◌++◌, map, append-nil}
use native.Mathlib.Omega.{arith}
use borrow.Author.Tests.{le-ltb, eqb-true, ltb-false, not-false}
use lib.Dec.{eqb, ltb, lit≤}
use lib.ListN.{length, replicate, length-append, length-map}
use Rattle.base_format.specs.declared.operation.Operation.{Operation}
use Rattle.base_format.specs.declared.operation.WriteRecord.{WriteRecord}
use Rattle.base_format.specs.Bytes.{AllBytes, same_bytes}
use Rattle.base_format.specs.Checked.{ok}
use Rattle.base_format.specs.Compare.{same_writes, core_writes, played, image_of, same_frames, agree, compared, agreed}
use Rattle.base_format.specs.Limits.{Each, OperationFits, PoolFits, FrameFits, Limits}
use Rattle.base_format.specs.Pool.{Payload}
use Rattle.base_format.specs.Promises.{RepackedPasses}
use Rattle.base_format.specs.Repack.{value, to_pcm, to_cores, in_order, pieces, waves_of, pcm_pools, wave_pool, pcm_fill, pcm_copy, repacked, repack}
use Rattle.base_format.specs.Stream.{Stream, read}
use Rattle.base_format.specs.Writes.{upward, writes_of_all, opening_writes}
use Rattle.base_format.specs.Written.{payloads_bytes, cards_bytes, written}
use Rattle.base_round_trip.proofs.Each.{each_map, each_append}
use Rattle.base_format.proofs.Checks.{through, passed_test, ok_is}
use Rattle.base_round_trip.proofs.Rewritten.{accepted}
use Rattle.base_format.proofs.Compared.{reads_version}
use Rattle.base_format.proofs.Equal.{bytes_self, writes_self, core_append, played_append}
use Rattle.base_format.proofs.Writes.{writes_append}
use Rattle.base_round_trip.proofs.Written.{written_bytes}
use Rattle.base_round_trip.proofs.Whole.{written_size, round_trip}
use Rattle.theorem_one_reading.proofs.Waves.{Records, PieceKnown, all_known, WaveFits, waves_fit}
use Rattle.theorem_one_reading.proofs.RepackedFrames.{frames_fit, frames_agree_lem}
use Rattle.theorem_one_reading.proofs.RepackedOpening.{pcm_count, pcm_bytes_lem, cores_fit, fill_fits, copy_fits, pcm_pool_fits, wave_pools_fit}
use Rattle.theorem_one_reading.proofs.RepackedOpening.{pcm_core, cores_core, cores_played, pcm_played, still, fill_writes, copy_writes}

waves_long : (front : List Payload) (waves : List (List ℕ)) → Each WaveFits waves → length waves * 256 ≤ length (payloads_bytes (front ++ map wave_pool waves))
unfolding payloads_bytes
waves_long [] [] fits = lit≤ tt
waves_long [] (w ∷ waves) fits = simp length-append (omega (arith, waves_long [] waves fits.1, fits.0.0))
waves_long (p ∷ front) waves fits = simp length-append (omega (arith, waves_long front waves fits))

pcm_one : (pcm : List ℕ) → length (pcm_pools pcm) ≤ 1
pcm_one [] = lit≤ tt
pcm_one (v ∷ vs) = lit≤ tt

agree_by_lem : (r r' : Bool) (a b : List WriteRecord) (m m' : List ℕ) (f : Bool) → r' ≡ r → b ≡ a → m' ≡ m → f ≡ true
    → (beq r r' && same_writes a b && same_bytes m m' && f) ≡ true
agree_by_lem true r' a b m m' f o p q t = rw (o, p, q, writes_self a, bytes_self m) t
agree_by_lem false r' a b m m' f o p q t = rw (o, p, q, writes_self a, bytes_self m) t

module _ (s : Stream) (within : Limits s) (master : s.version ≡ 1) (ordered : in_order 0 (to_pcm s.opening) ≡ true) where
  abbrev pcm : List ℕ
  pcm = map value (to_pcm s.opening)

  abbrev waves : List (List ℕ)
  waves = waves_of [] s.frames

  abbrev pools : List Payload
  pools = pcm_pools pcm ++ map wave_pool waves

  no_cards : s.cards ≡ []
  no_cards = within.cards_below (omega arith)

  no_pools : s.pools ≡ []
  no_pools = within.pools_below (omega arith)

  opening_records : Records s.opening
  opening_records = rw (master, no_cards, no_pools) at within.opening_fits

  frame_records : Each (FrameFits 1 [] []) s.frames
  frame_records = rw (master, no_cards, no_pools) at within.frames_fit

  pcm_small : length pcm ≤ 1048576
  pcm_small = omega (arith, pcm_count 0 s.opening opening_records ordered (lit≤ tt))

  -- the opening's writes: the rest of PCM memory, the cores', the PCM bytes
  opening_writes_lem : (k : ℕ) × (opening_writes (repacked s) ≡ upward 2 (length pcm) (replicate k 0x80) ++ writes_of_all pools (to_cores s.opening) ++ upward 2 0 pcm)
  unfolding repacked
  opening_writes_lem =
      let n = length pcm in
      let cores = to_cores s.opening in
      let fill = fill_writes pools n in
      (fill.0, writes_append pools (pcm_fill n ++ cores) (pcm_copy n) ∙ rw (writes_append pools (pcm_fill n) cores, fill.1, copy_writes pcm (map wave_pool waves)))

  -- the core writes of the opening, and PCM memory behind it
  opening_cores : core_writes (opening_writes (repacked s)) ≡ core_writes (opening_writes s)
  opening_cores =
      let first = upward 2 (length pcm) (replicate opening_writes_lem.0 0x80) in
      let cores = writes_of_all pools (to_cores s.opening) in
      let last = upward 2 0 pcm in
      ap core_writes opening_writes_lem.1
      ∙ core_append (first ++ cores) last
      ∙ rw (core_append first cores, pcm_core (length pcm) (replicate opening_writes_lem.0 0x80), pcm_core 0 pcm, append-nil) (cores_core pools s.opening opening_records)
      ∙ ap (λ (l : List Payload). core_writes (writes_of_all l s.opening)) (sym no_pools)

  image_same : (size : ℕ) → played (replicate size 0x80) (opening_writes (repacked s)) ≡ played (replicate size 0x80) (opening_writes s)
  image_same size =
      let memory : List ℕ = replicate size 0x80 in
      let first = upward 2 (length pcm) (replicate opening_writes_lem.0 0x80) in
      let cores = writes_of_all pools (to_cores s.opening) in
      let last = upward 2 0 pcm in
      let filled = ap (λ (m : List ℕ). played m cores) (still size opening_writes_lem.0 (length pcm) 0x80) in
      let unplayed = played_append memory first cores ∙ filled ∙ cores_played pools memory s.opening opening_records in
      ap (played memory) opening_writes_lem.1
      ∙ played_append memory (first ++ cores) last
      ∙ ap (λ (m : List ℕ). played m last) unplayed
      ∙ sym (pcm_played memory 0 s.opening opening_records ordered)
      ∙ ap (λ (l : List Payload). played memory (writes_of_all l s.opening)) (sym no_pools)

  known : Each (λ (frame : List Operation). Each (PieceKnown waves) (pieces 0 frame)) s.frames
  known = all_known [] s.frames

  waves_fine : Each WaveFits waves
  waves_fine =
      waves_fit [] s.frames tt (each_map (FrameFits 1 [] []) Records (λ (f : List Operation) (h : FrameFits 1 [] [] f). h.operations) s.frames frame_records)

  pool_limit : length (written (repacked s)) ≤ 0xE00000 → length pools ≤ 53971
  unfolding repacked cards_bytes
  pool_limit small =
      let size = written_size (repacked s) (lit≤ tt) (lit≤ tt) refl in
      let count : length pools ≡ length (pcm_pools pcm) + length waves = simp (length-append, length-map) in
      omega (arith, size, waves_long (pcm_pools pcm) waves waves_fine, pcm_one pcm)

  -- the repacked stream is within the limits
  pub repacked_within : length (written (repacked s)) ≤ 0xE00000 → Limits (repacked s)
  unfolding repacked
  repacked_within small =
      let count : length pools ≤ 53971 = pool_limit small in
      let n = length pcm in
      let cores = to_cores s.opening in
      let pcm-fine = pcm_pool_fits pcm (pcm_bytes_lem s.opening opening_records) pcm_small in
      let OpeningFits = OperationFits 2 [] pools in
      let first = each_append OpeningFits (pcm_fill n) cores (fill_fits pools n) (cores_fit pools s.opening opening_records) in
      record {
        first_version = lit≤ tt;
        last_version = lit≤ tt;
        period_range = inl refl;
        period_below = λ less. refl;
        card_count = lit≤ tt;
        cards_below = λ less. refl;
        cards_fit = tt;
        pool_count = omega arith;
        pools_below = λ less. absurd (omega arith);
        pools_fit = each_append (PoolFits 2) (pcm_pools pcm) (map wave_pool waves) pcm-fine (wave_pools_fit waves waves_fine);
        opening_fits = each_append OpeningFits (pcm_fill n ++ cores) (pcm_copy n) first (copy_fits pcm (map wave_pool waves) pcm_small);
        some_frame = rw length-map within.some_frame;
        frames_fit = frames_fit (pcm_pools pcm) waves s.frames frame_records known;
        total_size = small;
      }

  -- and agrees with the master
  pub repacked_agrees : agree s (repacked s) ≡ true
  unfolding agree
  repacked_agrees =
      agree_by_lem s.repeat (repacked s).repeat (core_writes (opening_writes s)) (core_writes (opening_writes (repacked s))) (image_of s) (image_of (repacked s))
      (same_frames s.pools (repacked s).pools s.frames (repacked s).frames) (unfold repacked in refl) opening_cores (image_same 1048576)
      (unfold repacked in rw no_pools (frames_agree_lem (pcm_pools pcm) waves s.frames frame_records known))

-- ---- from the master's file

-- a master that is not refused: its stream, and what repacking makes of it
pub record Master (m result : List ℕ) (s : Stream) : Type 0 where
  pub reads : read m ≡ ok s
  pub version_one : s.version ≡ 1
  pub in_order : in_order 0 (to_pcm s.opening) ≡ true
  pub made : written (repacked s) ≡ result
  pub small : length result ≤ 0xE00000

pub repack_taken : (m result : List ℕ) → repack m ≡ ok result → (s : Stream) × Master m result s
unfolding repack
repack_taken m result e =
    let a₁ = through (read m) _ e in
    let s = a₁.value in
    let a₂ = passed_test 21 0 (not (eqb s.version 1)) a₁.then in
    let a₃ = passed_test 22 0 (not (in_order 0 (to_pcm s.opening))) a₂.1 in
    let a₄ = passed_test 23 0 (ltb 0xE00000 (length (written (repacked s)))) a₃.1 in
    let made : written (repacked s) ≡ result = ok_is a₄.1 in (
      s,
      record {
        reads = a₁.is;
        version_one = eqb-true s.version 1 (not-false (eqb s.version 1) a₂.0);
        in_order = not-false (in_order 0 (to_pcm s.opening)) a₃.0;
        made = made;
        small = subst (λ (l : List ℕ). length l ≤ 0xE00000) made (ltb-false 0xE00000 (length (written (repacked s))) a₄.0);
      },
    )

-- the repacked file is accepted, and reads as the repacked stream
pub repack_reads : (m result : List ℕ) (s : Stream) → AllBytes m → Master m result s → read result ≡ ok (repacked s)
repack_reads m result s bytes master =
    let small : length (written (repacked s)) ≤ 0xE00000 = rw master.made master.small in
    rw master.made at (round_trip (repacked s) (repacked_within s (accepted m s bytes master.reads).0 master.version_one master.in_order small))

pub repack_bytes : (m result : List ℕ) (s : Stream) → AllBytes m → Master m result s → AllBytes result
repack_bytes m result s bytes master =
    let small : length (written (repacked s)) ≤ 0xE00000 = rw master.made master.small in
    rw master.made at (written_bytes (repacked s) (repacked_within s (accepted m s bytes master.reads).0 master.version_one master.in_order small))

-- and the comparison passes
passes : (m result : List ℕ) (s : Stream) (image image' : ℕ) → AllBytes m → Master m result s → 1048576 ≤ image → 1048576 ≤ image' → compared m result image image' ≡ agreed true
unfolding compared
passes m result s image image' bytes master room room' =
    let two : (repacked s).version ≡ 2 = unfold repacked in refl in
    rw (
      reads_version 1 m s master.reads master.version_one,
      reads_version 2 result (repacked s) (repack_reads m result s bytes master) two,
      le-ltb image 1048576 room,
      le-ltb image' 1048576 room',
      repacked_agrees s (accepted m s bytes master.reads).0 master.version_one master.in_order,
    )

pub repack_passes : RepackedPasses
repack_passes m result image image' bytes e =
    let found = repack_taken m result e in (
      λ s reads. repack_reads m result found.0 bytes found.1 ∙ ap (λ (x : Stream). ok (repacked x)) (ok_is (sym found.1.reads ∙ reads)),
      passes m result found.0 image image' bytes found.1,
    )
