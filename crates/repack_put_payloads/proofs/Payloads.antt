-- Laws of the waves' payloads, wave by wave.
use Prim.Native.Nat.{ℕ, zero, suc, ◌+◌, ◌*◌, ◌-◌, ◌<◌}
use mathlib.Core.Path.{◌≡◌, refl, ◌∙◌}
use mathlib.Core.List.{List, [], ◌++◌}
use native.Mathlib.Omega.{arith}
use lib.ListN.{length, get_or, length-append}
use Rattle.base_master.specs.Places.{wave_at}
use Rattle.base_master.proofs.Pieces.{values_count}
use Rattle.repack_put_payloads.specs.Payloads.{waves_bytes}

pub wave_size_lem : (file : List ℕ) (at : ℕ) → length (wave_at file at) ≡ 256
wave_size_lem file at = values_count file 256 at

pub waves_none : (file places : List ℕ) (wave : ℕ) → waves_bytes file places wave 0 ≡ []
unfolding waves_bytes
waves_none file places wave = refl

wave_more : (file places : List ℕ) (wave count : ℕ) → waves_bytes file places wave (suc count) ≡ wave_at file (get_or places wave 0) ++ waves_bytes file places (wave + 1) count
unfolding waves_bytes
wave_more file places wave count = refl

pub waves_size : (file places : List ℕ) (wave count : ℕ) → length (waves_bytes file places wave count) ≡ count * 256
unfolding waves_bytes
waves_size file places wave zero = omega arith
waves_size file places wave (suc count) =
    length-append (wave_at file (get_or places wave 0)) (waves_bytes file places (wave + 1) count)
    ∙ rw (wave_size_lem, waves_size file places (wave + 1) count) (omega arith)

pub waves_next : (file places : List ℕ) (wave count : ℕ) → wave < count
    → waves_bytes file places wave (count - wave) ≡ wave_at file (get_or places wave 0) ++ waves_bytes file places (wave + 1) (count - (wave + 1))
waves_next file places wave count h = go (count - wave) (count - (wave + 1)) (omega arith)
  where
    go : (m n : ℕ) → m ≡ suc n → waves_bytes file places wave m ≡ wave_at file (get_or places wave 0) ++ waves_bytes file places (wave + 1) n
    go m n e = rw e (wave_more file places wave n)
