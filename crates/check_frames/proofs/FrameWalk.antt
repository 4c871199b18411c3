-- Walking over the frames: what is still to do decides.
use Prim.Native.Nat.{ℕ, zero, suc, ◌+◌, ◌-◌, ◌<◌}
use mathlib.Core.Path.{◌≡◌, refl, sym, ap}
use mathlib.Core.Bool.{Bool, true, false, ◌||◌, or_assoc, or-false}
use mathlib.Core.List.{List, ◌∷◌}
use native.Mathlib.Nat.{not-suc-le-zero}
use native.Mathlib.Omega.{arith}
use lib.Dec.{ltb}
use lib.ListN.{length}
use Rattle.base_format.specs.declared.operation.Operation.{Operation}
use Rattle.base_format.specs.Bytes.{be}
use Rattle.base_format.specs.Checked.{Checked, ok, refused, refuse, mapped, ◌>>=◌, ◌>>◌}
use Rattle.base_format.specs.Operation.{Setting}
use Rattle.base_format.specs.Stream.{operations_from, frames_from}
use Rattle.base_format.specs.Writes.{any_si22, any_frame_si22}
use Rattle.check_items.specs.Walk.{walked}
use Rattle.check_frames.specs.Frames.{frames_said}

-- one frame, then the others
pub frames_step : (setting : Setting) (file : List ℕ) (left at : ℕ) (si22 : Bool) → 0 < left
    → frames_said setting file left at si22
    ≡ (refuse 14 at (ltb (length file) (at + 2)) >> (walked setting file (length file) (be 2 file at) (at + 2) >>= λ (frame : ℕ × Bool). frames_said setting file (left - 1) frame.0 (si22 || frame.1)))
unfolding frames_from any_frame_si22
frames_step setting file zero at si22 h = absurd (not-suc-le-zero h)
frames_step setting file (suc left) at si22 h =
    let less : suc left - 1 ≡ left = omega arith in
    rw less (go (ltb (length file) (at + 2)) (operations_from setting file (length file) (be 2 file at) (at + 2)))
  where
    last : (frame : List Operation × ℕ) (rest : Checked (List (List Operation) × ℕ))
        → mapped {B = ℕ × Bool} (λ (found : List (List Operation) × ℕ). (found.1, si22 || any_frame_si22 found.0)) (rest >>= λ found. ok (frame.0 ∷ found.0, found.1))
        ≡ mapped {B = ℕ × Bool} (λ (found : List (List Operation) × ℕ). (found.1, si22 || any_si22 frame.0 || any_frame_si22 found.0)) rest
    last frame (ok found) = ap (λ (b : Bool). ok (found.1, b)) (sym (or_assoc si22 (any_si22 frame.0) (any_frame_si22 found.0)))
    last frame (refused number place) = refl

    go : (cut : Bool) (frame : Checked (List Operation × ℕ))
        → mapped {B = ℕ × Bool} (λ (found : List (List Operation) × ℕ). (found.1, si22 || any_frame_si22 found.0))
        (refuse 14 at cut >> (frame >>= λ f. frames_from setting file left f.1 >>= λ found. ok (f.0 ∷ found.0, found.1)))
        ≡ (refuse 14 at cut >> (mapped {B = ℕ × Bool} (λ (f : List Operation × ℕ). (f.1, any_si22 f.0)) frame >>= λ (f : ℕ × Bool). frames_said setting file left f.0 (si22 || f.1)))
    go true frame = refl
    go false (ok frame) = last frame (frames_from setting file left frame.1)
    go false (refused number place) = refl

-- behind the last frame
pub frames_end_lem : (setting : Setting) (file : List ℕ) (at : ℕ) (si22 : Bool) → frames_said setting file 0 at si22 ≡ ok (at, si22)
unfolding frames_from any_frame_si22
frames_end_lem setting file at si22 = rw or-false
