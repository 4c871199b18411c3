-- What an accepted header says: its fields stand in front of the file, and its numbers are within the limits.
use Prim.Native.Nat.{ℕ, zero, suc, ◌≤◌, ◌<◌}
use mathlib.Core.Path.{◌≡◌, refl}
use mathlib.Core.Logic.{◌⊎◌, inl, inr}
use mathlib.Core.Bool.{Bool, true, false, cond, not, ◌||◌, ◌&&◌}
use mathlib.Core.List.{List, [], ◌∷◌}
use native.Mathlib.Omega.{arith}
use borrow.Author.Tests.{eqb-true, eqb-false, ltb-false, not-false}
use lib.Dec.{eqb, ltb, lit≤}
use lib.ListN.{length}
use Rattle.base_format.specs.declared.header.Header.{Header}
use Rattle.base_format.specs.Bytes.{Field, byte, be, u32}
use Rattle.base_format.specs.Header.{header_size, plain_header, pooled_header, header_of, reserved_wrong, period_wrong, period_of, card_count}
use Rattle.base_format.specs.Written.{pooled_fields, header_fields}
use Rattle.base_format.proofs.Accepted.{HeaderPassed}
use Rattle.base_format.proofs.Checks.{or_false}
use Rattle.base_field_laws.proofs.Places.{Holds}

-- what an accepted header says
pub record Says (file : List ℕ) (h : Header) : Type 0 where
  pub room : header_size h.version ≤ length file
  pub low : 1 ≤ h.version
  pub high : h.version ≤ 4
  pub fields : Holds file 0 0 (header_fields h)
  pub period_range : (h.frame_period ≡ 0) ⊎ ((48000 ≤ h.frame_period) × (h.frame_period ≤ 48000000))
  pub period_below : h.version < 4 → h.frame_period ≡ 0
  pub card_count : h.card_count ≤ 8
  pub cards_below : h.version < 4 → h.card_count ≡ 0
  pub pools_below : h.version < 2 → h.pool_count ≡ 0

period_taken : (period : ℕ) → period_wrong period ≡ false → (period ≡ 0) ⊎ ((48000 ≤ period) × (period ≤ 48000000))
unfolding period_wrong
period_taken period = go (eqb period 0) refl
  where
    go : (b : Bool) → eqb period 0 ≡ b → (not b && (ltb period 48000 || ltb 48000000 period)) ≡ false → (period ≡ 0) ⊎ ((48000 ≤ period) × (period ≤ 48000000))
    go true p e = inl (eqb-true period 0 p)
    go false p e =
        let both = or_false (ltb period 48000) (ltb 48000000 period) e in
        inr (ltb-false period 48000 both.0, ltb-false 48000000 period both.1)

repeat_taken : (n : ℕ) → n ≤ 1 → n ≡ cond (eqb n 1) 1 0
repeat_taken zero h = refl
repeat_taken (suc zero) h = refl
repeat_taken (suc (suc n)) h = absurd (omega arith)

-- version 4's part of the header: card count and period, and the fields behind byte 39
abbrev Late : List ℕ → (v cards period : ℕ) → List Field → Type 0
Late file v cards period fields = (byte file 38 ≡ cards) × Holds file 0 40 fields × (cards ≤ 8) × (v < 4 → period ≡ 0) × (v < 4 → cards ≡ 0)

late_taken : (file : List ℕ) (v : ℕ) → (b : Bool) → eqb v 4 ≡ b → cond b (ltb 8 (byte file 38) || not (eqb (be 4 file 44) 0)) (not (eqb (byte file 38) 0)) ≡ false
    → Late file v (cond b (byte file 38) 0) (cond b (be 4 file 40) 0) (cond b (u32 (cond b (be 4 file 40) 0) ∷ u32 0 ∷ []) [])
late_taken file v true p e =
    let both = or_false (ltb 8 (byte file 38)) (not (eqb (be 4 file 44) 0)) e in
    let four : v ≡ 4 = eqb-true v 4 p in
    (refl, (refl, (eqb-true (be 4 file 44) 0 (not-false (eqb (be 4 file 44) 0) both.1), tt)), ltb-false 8 (byte file 38) both.0, (λ less. absurd (omega arith)), (λ less. absurd (omega arith)))
late_taken file v false p e = (eqb-true (byte file 38) 0 (not-false (eqb (byte file 38) 0) e), tt, lit≤ tt, (λ less. refl), (λ less. refl))

plain_says : (file : List ℕ) → HeaderPassed file → byte file 4 ≡ 1 → Says file (plain_header file)
unfolding header_size plain_header
plain_says file opens one =
    record {
      room = rw one at opens.room;
      low = lit≤ tt;
      high = lit≤ tt;
      fields = (opens.letters_read, (one, (opens.voices, (repeat_taken (byte file 6) opens.repeats, (opens.reserved, (refl, (refl, (refl, tt))))))));
      period_range = inl refl;
      period_below = λ less. refl;
      card_count = lit≤ tt;
      cards_below = λ less. refl;
      pools_below = λ less. refl;
    }

pooled_says : (file : List ℕ) → HeaderPassed file → eqb (byte file 4) 1 ≡ false
    → reserved_wrong (byte file 4) file ≡ false → period_wrong (pooled_header (byte file 4) file).frame_period ≡ false
    → Says file (pooled_header (byte file 4) file)
unfolding pooled_header period_of card_count reserved_wrong
pooled_says file opens other reserved period =
    let v = byte file 4 in
    let size-wrong = not (eqb (be 2 file 36) (header_size v)) in
    let zero-wrong = not (eqb (byte file 39) 0) in
    let a₁ = or_false (size-wrong || zero-wrong) _ reserved in
    let a₂ = or_false size-wrong zero-wrong a₁.0 in
    let late = late_taken file v (eqb v 4) refl a₁.1 in
    let size : be 2 file 36 ≡ header_size v = eqb-true (be 2 file 36) (header_size v) (not-false (eqb (be 2 file 36) (header_size v)) a₂.0) in
    let nought : byte file 39 ≡ 0 = eqb-true (byte file 39) 0 (not-false (eqb (byte file 39) 0) a₂.1) in
    let rest : Holds file 0 12 (pooled_fields (pooled_header v file)) = (refl, (refl, (refl, (refl, (refl, (refl, (size, (late.0, (nought, late.1))))))))) in
    record {
      room = opens.room;
      low = opens.low;
      high = opens.high;
      fields = (opens.letters_read, (refl, (opens.voices, (repeat_taken (byte file 6) opens.repeats, (opens.reserved, (refl, rw other rest))))));
      period_range = period_taken (pooled_header v file).frame_period period;
      period_below = late.3;
      card_count = late.2;
      cards_below = late.4;
      pools_below = λ less. absurd (eqb-false v 1 other (omega (arith, opens.low)));
    }

-- rules 1 to 6
pub header_says : (file : List ℕ) → HeaderPassed file → Says file (header_of file)
unfolding header_of
header_says file opens = go (eqb (byte file 4) 1) refl opens.pooled opens.period
  where
    go : (b : Bool) → eqb (byte file 4) 1 ≡ b
        → (not b && reserved_wrong (byte file 4) file) ≡ false
        → period_wrong (cond b (plain_header file) (pooled_header (byte file 4) file)).frame_period ≡ false
        → Says file (cond b (plain_header file) (pooled_header (byte file 4) file))
    go true p reserved period = plain_says file opens (eqb-true (byte file 4) 1 p)
    go false p reserved period = pooled_says file opens p reserved period
