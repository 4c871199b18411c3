-- The ranges of the targets that need no card, stored one by one.
use Prim.Native.Nat.{ℕ}
use mathlib.Core.Path.{◌≡◌, refl}
use mathlib.Core.Bool.{Bool, true, false, cond}
use mathlib.Core.List.{List, []}
use lib.Dec.{eqb, leb, ltb}
use lib.ListN.{replicate}
use Rattle.base_targets.specs.declared.Target.{Target}
use Rattle.base_targets.specs.declared.Target.TheVariants.{Core, Pcm, Bank, Si22, Missing}
use Rattle.base_format.specs.Target.{slot_target, target_of}
use Rattle.check_fast_limits.specs.Limits.{bulk_end, tabled}
use Rattle.play_fast_ranges.specs.Ranges.{write_top, starts_by, ends_by, starts_with, ends_with}
use Rattle.play_fast_ranges.proofs.Stored.{starts_same, ends_same}

-- the targets without a card, by what is known of the version
abbrev fixed : (three four : Bool) → ℕ → Target
fixed three four n =
    cond (ltb n 2) Core
    (cond (eqb n 2) Pcm
    (cond three (cond (eqb n 3) Bank Missing)
    (cond four (cond (leb n 10) Missing (cond (eqb n 11) Si22 Missing)) Missing)))

fixed_is : (version : ℕ) (three four : Bool) → eqb version 3 ≡ three → eqb version 4 ≡ four → (n : ℕ) → fixed three four n ≡ target_of version [] n
unfolding target_of slot_target
fixed_is version three four e f n = rw (e, f)

-- the arrays with the cores and PCM memory
abbrev pub starts_3 : List ℕ
starts_3 = starts_with (starts_with (starts_with (replicate 32 0) 0 Core) 1 Core) 2 Pcm

abbrev pub ends_3 : List ℕ
ends_3 = ends_with (ends_with (ends_with (replicate 32 0) 0 Core) 1 Core) 2 Pcm

-- the arrays are those of a version's targets without cards
abbrev Plain : (version : ℕ) → (starts ends : List ℕ) → Type 0
Plain version starts ends = (starts ≡ starts_by (target_of version [])) × (ends ≡ ends_by (target_of version []))

pub plain_bank : (version : ℕ) → eqb version 3 ≡ true → Plain version (starts_with starts_3 3 Bank) (ends_with ends_3 3 Bank)
unfolding starts_by ends_by tabled write_top bulk_end
plain_bank version e =
    let same = fixed_is version true (eqb version 4) e refl in
    (starts_same (fixed true (eqb version 4)) _ same, ends_same (fixed true (eqb version 4)) _ same)

pub plain_si22 : (version : ℕ) → eqb version 3 ≡ false → eqb version 4 ≡ true → Plain version (starts_with starts_3 11 Si22) (ends_with ends_3 11 Si22)
unfolding starts_by ends_by tabled write_top bulk_end
plain_si22 version e f =
    let same = fixed_is version false true e f in
    (starts_same (fixed false true) _ same, ends_same (fixed false true) _ same)

pub plain_else : (version : ℕ) → eqb version 3 ≡ false → eqb version 4 ≡ false → Plain version starts_3 ends_3
unfolding starts_by ends_by tabled write_top bulk_end
plain_else version e f =
    let same = fixed_is version false false e f in
    (starts_same (fixed false false) _ same, ends_same (fixed false false) _ same)
