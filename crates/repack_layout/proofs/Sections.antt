-- The sections of a repacked file: pools, directory, payloads and opening, by the numbers that the code has of them.
use Prim.Native.Nat.{ℕ, zero, suc, ◌+◌, ◌-◌, ◌≤◌}
use mathlib.Core.Path.{◌≡◌, refl}
use mathlib.Core.List.{List, [], ◌∷◌, ◌++◌, map}
use native.Mathlib.Numerals.{add-one}
use native.Mathlib.Omega.{arith}
use lib.ListN.{length, take, drop}
use lib.Seq.{drop-cons}
use Rattle.base_format.specs.Repack.{pcm_pools, wave_pool, pcm_fill, pcm_copy}
use Rattle.base_format.specs.Written.{directory_bytes, payloads_bytes}
use Rattle.base_format.proofs.Written.{operations_count}
use Rattle.base_master.specs.Places.{wave_at}
use Rattle.bytes_put_tables.specs.Entry.{entry_bytes}
use Rattle.repack_put_directory.specs.Directory.{wave_entries, directory_of}
use Rattle.repack_put_payloads.specs.Payloads.{waves_bytes}
use Rattle.repack_put_opening.specs.Opening.{fill_part, copy_part}
use Rattle.repack_put_payloads.proofs.Payloads.{wave_size_lem}
use Rattle.repack_layout.specs.Layout.{pcm_pool}

-- ---- the PCM bytes

pub pcm_pools_lem : (pcm : List ℕ) → length (pcm_pools pcm) ≡ pcm_pool (length pcm)
pcm_pools_lem [] = refl
pcm_pools_lem (v ∷ pcm) = refl

pub pcm_copies : (pcm : ℕ) → length (pcm_copy pcm) ≡ pcm_pool pcm
pcm_copies zero = refl
pcm_copies (suc n) = refl

-- an operation takes more than one byte
pub fills_few : (pcm : ℕ) → length (pcm_fill pcm) ≤ length (fill_part pcm)
unfolding fill_part
fills_few pcm = operations_count 2 (pcm_fill pcm)

pub copies_few : (pcm : ℕ) → pcm_pool pcm ≤ length (copy_part pcm)
unfolding copy_part
copies_few pcm = omega (arith, operations_count 2 (pcm_copy pcm), pcm_copies pcm)

-- ---- the waves

pub waves_payload : (file places : List ℕ) (wave count : ℕ) → wave + count ≤ length places
    → payloads_bytes (map wave_pool (map (wave_at file) (take count (drop wave places)))) ≡ waves_bytes file places wave count
unfolding payloads_bytes waves_bytes
waves_payload file places wave zero h = refl
waves_payload file places wave (suc count) h =
    rw (drop-cons places wave 0 (omega arith), add-one wave, waves_payload file places (suc wave) count (omega arith))

waves_directory : (file : List ℕ) (id start : ℕ) (places : List ℕ) → directory_bytes id start (map wave_pool (map (wave_at file) places)) ≡ wave_entries id start (length places)
unfolding directory_bytes wave_entries entry_bytes
waves_directory file id start [] = refl
waves_directory file id start (place ∷ places) =
    rw (wave_size_lem file place, add-one id, waves_directory file (suc id) (start + 256) places)

pub directory_of_lem : (file : List ℕ) (start : ℕ) (pcm places : List ℕ) → directory_bytes 0 start (pcm_pools pcm ++ map wave_pool (map (wave_at file) places)) ≡ directory_of (length pcm) (length places) start
unfolding directory_of
directory_of_lem file start [] places = waves_directory file 0 start places
directory_of_lem file start (v ∷ pcm) places = unfold directory_bytes entry_bytes in rw (waves_directory file 1 (start + suc (length pcm)) places)
