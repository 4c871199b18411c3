-- How a choice by the opcode is made: which of the three numbers it is, and that choosing a place chooses what stands there.
use Prim.Native.Nat.{ℕ, ◌≤◌, ◌<◌}
use mathlib.Core.Bool.{Bool, true, false, cond}
use mathlib.Core.Path.{◌≡◌, refl}
use native.Mathlib.Omega.{arith}
use borrow.Author.Tests.{eq-eqb, ne_eqb, eqb-false}
use lib.Dec.{eqb}
use Rattle.bytes_operation.specs.Decoded.{by_opcode}

module _ (opcode : ℕ) where
  pub is_copy : (write fill copy : ℕ) → 2 ≤ opcode → by_opcode opcode write fill copy ≡ copy
  is_copy write fill copy h = rw (ne_eqb opcode 0 (λ z. omega (arith, z)), ne_eqb opcode 1 (λ z. omega (arith, z)))

  pub no_copy : (copy : ℕ) → opcode < 2 → by_opcode opcode 0 0 copy ≡ 0
  no_copy copy h = go (eqb opcode 0) refl
    where
      go : (b : Bool) → eqb opcode 0 ≡ b → cond b 0 (cond (eqb opcode 1) 0 copy) ≡ 0
      go true e = refl
      go false e = rw (eq-eqb opcode 1 (omega (arith, eqb-false opcode 0 e)))

  -- what stands at a place that is chosen
  pub length_chosen : (f : ℕ → ℕ) (write fill copy : ℕ) → (opcode ≡ 0 → ⊥) → by_opcode opcode write (f fill) (f copy) ≡ f (cond (eqb opcode 1) fill copy)
  length_chosen f write fill copy other = rw (ne_eqb opcode 0 other) (go (eqb opcode 1))
    where
      go : (b : Bool) → cond b (f fill) (f copy) ≡ f (cond b fill copy)
      go true = refl
      go false = refl

  pub value_chosen : (f : ℕ → ℕ) (write fill copy : ℕ) → opcode ≤ 1 → by_opcode opcode (f write) (f fill) copy ≡ f (cond (eqb opcode 0) write fill)
  value_chosen f write fill copy low = go (eqb opcode 0) refl
    where
      go : (b : Bool) → eqb opcode 0 ≡ b → cond b (f write) (cond (eqb opcode 1) (f fill) copy) ≡ f (cond b write fill)
      go true e = refl
      go false e = rw (eq-eqb opcode 1 (omega (arith, eqb-false opcode 0 e)))
