-- Laws of the hash: the same bytes have the same hash, and so the same bucket.
use Prim.Native.Nat.{ℕ, zero, suc, ◌+◌, ◌*◌, ◌-◌, ◌/◌, ◌<◌}
use mathlib.Core.Path.{◌≡◌, refl, ap}
use mathlib.Core.Bool.{true}
use mathlib.Core.List.{List}
use native.Mathlib.Nat.{not-suc-le-zero, add_assoc, mod-lt}
use native.Mathlib.Omega.{arith}
use lib.Dec.{lit<}
use Rattle.base_format.specs.Bytes.{byte, same_bytes}
use Rattle.base_format.proofs.Equal.{same_bytes_lem}
use Rattle.base_master.specs.Places.{values_at, wave_at}
use Rattle.repack_wave_hash.specs.Hash.{hashed, mixed, bucket_at}

same_hash : (file : List ℕ) (fours a b hash : ℕ) → values_at file (fours * 4) a ≡ values_at file (fours * 4) b → hashed file fours a hash ≡ hashed file fours b hash
unfolding hashed values_at
same_hash file zero a b hash e = refl
same_hash file (suc fours) a b hash e =
    let four : suc fours * 4 ≡ suc (suc (suc (suc (fours * 4)))) = omega arith in
    let e' = simp add_assoc at (rw four at e) in
    let rest : values_at file (fours * 4) (a + 20) ≡ values_at file (fours * 4) (b + 20) = cc in
    cc (same_hash file fours (a + 20) (b + 20) (mixed hash (byte file (a + 4)) (byte file (a + 9)) (byte file (a + 14)) (byte file (a + 19))) rest)

-- four records more
pub hashed_next : (file : List ℕ) (fours at hash : ℕ) → 0 < fours
    → hashed file fours at hash ≡ hashed file (fours - 1) (at + 20) (mixed hash (byte file (at + 4)) (byte file (at + 9)) (byte file (at + 14)) (byte file (at + 19)))
unfolding hashed
hashed_next file zero at hash h = absurd (not-suc-le-zero h)
hashed_next file (suc fours) at hash h =
    let e : suc fours - 1 ≡ fours = omega arith in
    rw e

pub hashed_end : (file : List ℕ) (fours at hash : ℕ) → fours ≡ 0 → hashed file fours at hash ≡ hash
unfolding hashed
hashed_end file fours at hash e = rw e

-- no bytes are left to compare
pub same_end : (file : List ℕ) (left a b : ℕ) → left ≡ 0 → same_bytes (values_at file left a) (values_at file left b) ≡ true
unfolding values_at
same_end file left a b e = rw e

pub same_bucket : (file : List ℕ) (a b : ℕ) → same_bytes (wave_at file a) (wave_at file b) ≡ true → bucket_at file a ≡ bucket_at file b
unfolding bucket_at
same_bucket file a b e = ap (λ (h : ℕ). h / 262144) (same_hash file 64 a b 0 (same_bytes_lem (wave_at file a) (wave_at file b) e))

-- a hash has 32 bits, and a bucket is below 16,384
hash_below : (file : List ℕ) (fours at hash : ℕ) → hash < 4294967296 → hashed file fours at hash < 4294967296
unfolding hashed mixed
hash_below file zero at hash h = h
hash_below file (suc fours) at hash h = hash_below file fours (at + 20) _ (mod-lt _ (lit< tt))

pub bucket_below : (file : List ℕ) (at : ℕ) → bucket_at file at < 16384
unfolding bucket_at
bucket_below file at = omega (arith, hash_below file 64 at 0 (lit< tt))
