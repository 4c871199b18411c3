-- The number that the library makes of four bytes, of which the first are 0, is the number in the last.
use Prim.Native.Nat.{ℕ, zero, suc, ◌+◌, ◌-◌, ◌^◌, ◌≤◌, ◌<◌}
use mathlib.Core.Path.{◌≡◌, refl, ◌∙◌}
use mathlib.Core.List.{List, [], ◌∷◌}
use native.Mathlib.Omega.{arith}
use borrow.Rule.Slice.PartMut.{put_mid}
use lib.ListN.{length}
use Rattle.std.specs.Int.{w32, from_be_bytes}
use Rattle.base_format.specs.Bytes.{AllBytes, be, part}
use Rattle.base_format.proofs.Bytes.{be_part, part_length, be_below}

in_last : (width : ℕ) (bytes : List ℕ) → width ≤ 4 → length bytes ≡ width → from_be_bytes w32 (put_mid (4 - width) (4 - (4 - width)) (0 ∷ 0 ∷ 0 ∷ 0 ∷ []) bytes) ≡ be width bytes 0
unfolding be
in_last zero [] h e = refl
in_last zero (a ∷ bytes) h e = absurd (omega (arith, e))
in_last (suc zero) [] h e = absurd (omega (arith, e))
in_last (suc zero) (a ∷ b ∷ bytes) h e = absurd (omega (arith, e))
in_last (suc (suc zero)) [] h e = absurd (omega (arith, e))
in_last (suc (suc zero)) (a ∷ []) h e = absurd (omega (arith, e))
in_last (suc (suc zero)) (a ∷ b ∷ c ∷ bytes) h e = absurd (omega (arith, e))
in_last (suc (suc (suc zero))) [] h e = absurd (omega (arith, e))
in_last (suc (suc (suc zero))) (a ∷ []) h e = absurd (omega (arith, e))
in_last (suc (suc (suc zero))) (a ∷ b ∷ []) h e = absurd (omega (arith, e))
in_last (suc (suc (suc zero))) (a ∷ b ∷ c ∷ d ∷ bytes) h e = absurd (omega (arith, e))
in_last (suc (suc (suc (suc zero)))) [] h e = absurd (omega (arith, e))
in_last (suc (suc (suc (suc zero)))) (a ∷ []) h e = absurd (omega (arith, e))
in_last (suc (suc (suc (suc zero)))) (a ∷ b ∷ []) h e = absurd (omega (arith, e))
in_last (suc (suc (suc (suc zero)))) (a ∷ b ∷ c ∷ []) h e = absurd (omega (arith, e))
in_last (suc (suc (suc (suc zero)))) (a ∷ b ∷ c ∷ d ∷ x ∷ bytes) h e = absurd (omega (arith, e))
in_last (suc (suc (suc (suc (suc width))))) bytes h e = absurd (omega (arith, h))
in_last (suc zero) (a ∷ []) h e = omega arith
in_last (suc (suc zero)) (a ∷ b ∷ []) h e = omega arith
in_last (suc (suc (suc zero))) (a ∷ b ∷ c ∷ []) h e = omega arith
in_last (suc (suc (suc (suc zero)))) (a ∷ b ∷ c ∷ d ∷ []) h e = omega arith

pub loaded : (width at r : ℕ) (file copied : List ℕ) → AllBytes file → width ≤ 4 → at + width ≤ length file → copied ≡ part file at (at + width - at)
    → r ≡ from_be_bytes w32 (put_mid (4 - width) (4 - (4 - width)) (0 ∷ 0 ∷ 0 ∷ 0 ∷ []) copied) → (r ≡ be width file at) × (r < 256 ^ width)
loaded width at r file copied bytes h room e is =
    let size : at + width - at ≡ width = omega arith in
    let whole : copied ≡ part file at width = e ∙ rw size in
    let long = part_length file at width room in
    let same = be_part width file at width 0 (omega arith) in
    let there : at + 0 ≡ at = omega arith in
    let r' : r ≡ be width file at = is ∙ rw whole (in_last width (part file at width) h long) ∙ same ∙ rw there in
    (r', rw r' (be_below width file at bytes))
