-- What is within the limits fits the fields of a file.
use Prim.Native.Nat.{ℕ, ◌+◌, ◌^◌, ◌≤◌, ◌<◌}
use mathlib.Core.Path.{◌≡◌, refl}
use mathlib.Core.Bool.{Bool, true, false, cond}
use mathlib.Core.List.{List, [], ◌∷◌}
use native.Mathlib.Omega.{arith}
use borrow.Author.Tests.{ne_eqb, leb-true}
use lib.Dec.{eqb, leb, ltb, lit<, lit≤}
use Rattle.base_format.specs.declared.card.CardRequirement.{CardRequirement}
use Rattle.base_targets.specs.declared.Target.{Target}
use Rattle.base_targets.specs.declared.Target.TheVariants.{Core, Pcm, Bank, Slot, Si22, Missing}
use Rattle.base_format.specs.Limits.{CardsFit}
use Rattle.base_format.specs.Operation.{address_width}
use Rattle.base_format.specs.Pool.{kind_wrong}
use Rattle.base_format.specs.Target.{slot_of, slot_target, target_of, write_limit, bulk_start, bulk_length}
use Rattle.base_format.proofs.Steps.{KindIs, is_wave, is_pcm, is_bank, kind_is, bank_limit_lem}

-- no address that a target takes reaches a number
abbrev Below : (end : ℕ) → Target → Type 0
Below end what = (write_limit what < end) × (bulk_start what + bulk_length what ≤ end)

slot_below : (least : ℕ) (cards : List CardRequirement) → CardsFit least cards → (slot : ℕ) → Below 0x2000000 (slot_target cards slot)
unfolding slot_target
slot_below least [] fits slot = (lit< tt, lit≤ tt)
slot_below least (card ∷ cards) fits slot = go (slot_below (card.slot + 1) cards fits.1 slot) (eqb card.slot slot)
  where
    go : Below 0x2000000 (slot_target cards slot) → (b : Bool) → Below 0x2000000 (cond b (Slot card.bulk_start card.bulk_length) (slot_target cards slot))
    go more true = (lit< tt, fits.0.bulk_range)
    go more false = more

pub addresses_below : (version : ℕ) (cards : List CardRequirement) → CardsFit 0 cards → (target : ℕ) → Below 0x2000000 (target_of version cards target)
unfolding target_of
addresses_below version cards fits target = go (ltb target 2) (eqb target 2) (eqb version 3) (eqb target 3) (eqb version 4) (leb target 10) (eqb target 11)
  where
    go : (core pcm three bank four slot synth : Bool)
        → Below 0x2000000 (cond core Core (cond pcm Pcm (cond three (cond bank Bank Missing) (cond four (cond slot (slot_target cards (slot_of target)) (cond synth Si22 Missing)) Missing))))
    go true pcm three bank four slot synth = (lit< tt, lit≤ tt)
    go false true three bank four slot synth = (lit< tt, lit≤ tt)
    go false false true true four slot synth = (lit< tt, lit≤ tt)
    go false false true false four slot synth = (lit< tt, lit≤ tt)
    go false false false bank true true synth = slot_below 0 cards fits (slot_of target)
    go false false false bank true false true = (lit< tt, lit≤ tt)
    go false false false bank true false false = (lit< tt, lit≤ tt)
    go false false false bank false slot synth = (lit< tt, lit≤ tt)

-- versions 1 and 2 have no targets but the cores and PCM
pub narrow_below : (version : ℕ) (cards : List CardRequirement) → version ≤ 2 → (target : ℕ) → Below (256 ^ 3) (target_of version cards target)
unfolding target_of
narrow_below version cards h target = rw (ne_eqb version 3 (λ e. omega arith), ne_eqb version 4 (λ e. omega arith)) (go (ltb target 2) (eqb target 2))
  where
    go : (core pcm : Bool) → Below (256 ^ 3) (cond core Core (cond pcm Pcm Missing))
    go true pcm = (lit< tt, lit≤ tt)
    go false true = (lit< tt, lit≤ tt)
    go false false = (lit< tt, lit≤ tt)

-- addresses fit their 3 or 4 bytes
pub addresses_fit : (version : ℕ) (cards : List CardRequirement) → CardsFit 0 cards → (target : ℕ) → Below (256 ^ address_width version) (target_of version cards target)
unfolding address_width
addresses_fit version cards fits target = go (leb version 2) refl
  where
    go : (b : Bool) → leb version 2 ≡ b → Below (256 ^ cond b 3 4) (target_of version cards target)
    go true e = narrow_below version cards (leb-true version 2 e) target
    go false e = let below = addresses_below version cards fits target in (omega (arith, below.0), omega (arith, below.1))

-- no pool is longer than 0x2000000
pub kind_long : (version kind size : ℕ) → kind_wrong version kind size ≡ false → size ≤ 0x2000000
kind_long version kind size e = go (kind_is version kind size e)
  where
    go : KindIs version kind size → size ≤ 0x2000000
    go (is_wave k same) = omega arith
    go (is_pcm k low high) = omega arith
    go (is_bank k low high) = omega (arith, bank_limit_lem version)
