-- One step over empty frames.
use Prim.Native.Nat.{ℕ, zero, suc, ◌+◌, ◌-◌, ◌≤◌, ◌<◌}
use mathlib.Core.Path.{◌≡◌, refl}
use mathlib.Core.Bool.{Bool, true, false, not, ◌&&◌, ◌||◌}
use mathlib.Core.List.{List}
use native.Mathlib.Nat.{not-suc-le-zero}
use native.Mathlib.Omega.{arith}
use borrow.Author.Tests.{eq-eqb, ne_eqb, ltb-false, eqb-true}
use lib.Dec.{eqb, ltb}
use lib.ListN.{length}
use Rattle.base_format.specs.Bytes.{be}
use Rattle.check_frames.specs.Skipped.{skipped}

-- the last frame, and one that is cut off or not empty, stay; an empty one is passed
pub skip_step : (file : List ℕ) (left at : ℕ) → 1 < left → ltb (length file) (at + 2) ≡ false → be 2 file at ≡ 0 → skipped file left at ≡ skipped file (left - 1) (at + 2)
unfolding skipped
skip_step file zero at h cut none = absurd (not-suc-le-zero h)
skip_step file (suc n) at h cut none =
    let less : suc n - 1 ≡ n = omega arith in
    rw (less, ne_eqb n 0 (λ e. omega arith), cut, none)

pub skip_stops : (file : List ℕ) (left at : ℕ) → (eqb (left - 1) 0 || ltb (length file) (at + 2) || not (eqb (be 2 file at) 0)) ≡ true → 0 < left → skipped file left at ≡ record { at = at; left = left }
unfolding skipped
skip_stops file zero at stays h = absurd (not-suc-le-zero h)
skip_stops file (suc n) at stays h =
    let less : suc n - 1 ≡ n = omega arith in
    rw (rw less at stays)

pub skip_last : (file : List ℕ) (left at : ℕ) → left ≤ 1 → skipped file left at ≡ record { at = at; left = left }
unfolding skipped
skip_last file zero at h = refl
skip_last file (suc n) at h = rw (eq-eqb n 0 (omega arith))

-- an empty frame's count is there and is 0, and any other stays
there : (cut none : Bool) → (not cut && none) ≡ true → (cut ≡ false) × (none ≡ true)
there true none e = cc
there false true e = (refl, refl)
there false false e = cc

stays : (last cut none : Bool) → (not cut && none) ≡ false → (last || cut || not none) ≡ true
stays true cut none e = refl
stays false true none e = refl
stays false false true e = cc
stays false false false e = refl

-- whether the frame at a place is empty
abbrev pub empty : List ℕ → (at : ℕ) → Bool
empty file at = not (ltb (length file) (at + 2)) && eqb (be 2 file at) 0

pub empty_there : (file : List ℕ) (at : ℕ) → empty file at ≡ true → at + 2 ≤ length file
empty_there file at e = ltb-false (length file) (at + 2) (there (ltb (length file) (at + 2)) (eqb (be 2 file at) 0) e).0

pub empty_passed : (file : List ℕ) (left at : ℕ) → 1 < left → empty file at ≡ true → skipped file left at ≡ skipped file (left - 1) (at + 2)
empty_passed file left at h e =
    let both = there (ltb (length file) (at + 2)) (eqb (be 2 file at) 0) e in
    skip_step file left at h both.0 (eqb-true _ _ both.1)

pub full_stays : (file : List ℕ) (left at : ℕ) → 0 < left → empty file at ≡ false → skipped file left at ≡ record { at = at; left = left }
full_stays file left at h e = skip_stops file left at (stays (eqb (left - 1) 0) (ltb (length file) (at + 2)) (eqb (be 2 file at) 0) e) h
