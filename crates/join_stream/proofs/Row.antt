-- Numbers that are tested in a row, each against the most that it may be: a value is the answer exactly where all are kept, and the number of a
-- refusal exactly where its test is the first that is not.
use Prim.Native.Nat.{ℕ, ◌<◌, ◌≤◌}
use mathlib.Core.Bool.{Bool, true, false, ◌||◌, true≢false}
use mathlib.Core.List.{List, [], ◌∷◌, ◌++◌}
use mathlib.Core.Logic.{◌↔◌}
use mathlib.Core.Path.{◌≡◌, refl, sym, ap, ◌∙◌}
use borrow.Author.Tests.{lt-ltb, le-ltb, ltb-true, ltb-false, eq-eqb}
use lib.Dec.{eqb, ltb}
use Rattle.base_format.specs.Checked.{Checked, ok, refused, refuse, ◌>>◌}
use Rattle.base_format.specs.Limits.{Each}
use Rattle.base_format.proofs.Checks.{refused_not_ok, ok_is, or_false}

-- a test: the number of its refusal, the most that it allows, and what is held against that
pub record Tested : Type 0 where
  pub number : ℕ
  pub most : ℕ
  pub value : ℕ

abbrev pub Kept : Tested → Type 0
Kept test = test.value ≤ test.most

abbrev passes : Tested → Bool
passes test = ltb test.most test.value

-- a number stands among those of some tests
abbrev pub among : ℕ → List Tested → Bool
among number [] = false
among number (test ∷ tests) = eqb test.number number || among number tests

module _ {A : Type 0} (result : A) where
  abbrev pub in_row : List Tested → Checked A
  in_row [] = ok result
  in_row (test ∷ tests) = refuse test.number 0 (ltb test.most test.value) >> in_row tests

  same_number : {n m : ℕ} → ◌≡◌ {A = Checked A} (refused n 0) (refused m 0) → n ≡ m
  same_number e = cc

  -- the first test of a row is kept where the answer is another number, and the rest gives it
  kept_first : (test : Tested) (tests : List Tested) (number : ℕ) → eqb test.number number ≡ false → in_row (test ∷ tests) ≡ refused number 0
      → Kept test × (in_row tests ≡ refused number 0)
  kept_first test tests number other = go (passes test) refl
    where
      go : (b : Bool) → passes test ≡ b → (refuse test.number 0 b >> in_row tests) ≡ refused number 0 → Kept test × (in_row tests ≡ refused number 0)
      go true is e = absurd (true≢false (sym (eq-eqb test.number number (same_number e)) ∙ other))
      go false is e = (ltb-false test.most test.value is, e)

  -- no test has the number, so that it is not the answer
  not_among : (tests : List Tested) (number : ℕ) → among number tests ≡ false → in_row tests ≡ refused number 0 → ⊥
  not_among [] number none e = refused_not_ok (sym e)
  not_among (test ∷ tests) number none e =
      let others = or_false (eqb test.number number) (among number tests) none in
      not_among tests number others.1 (kept_first test tests number others.0 e).1

  -- the number of a test: those before it are kept, and it is not
  pub refused_by_lem : (before : List Tested) (test : Tested) (behind : List Tested) → among test.number before ≡ false → among test.number behind ≡ false
      → (in_row (before ++ test ∷ behind) ≡ refused test.number 0) ↔ (Each Kept before × (test.most < test.value))
  refused_by_lem [] test behind none none' = (there (passes test) refl, λ h. rw (lt-ltb test.most test.value h.1))
    where
      there : (b : Bool) → passes test ≡ b → (refuse test.number 0 b >> in_row behind) ≡ refused test.number 0 → Unit {0} × (test.most < test.value)
      there true is e = (tt, ltb-true test.most test.value is)
      there false is e = absurd (not_among behind test.number none' e)
  refused_by_lem (first ∷ before) test behind none none' =
      let others = or_false (eqb first.number test.number) (among test.number before) none in
      let more = refused_by_lem before test behind others.1 none' in (
        (λ e.
            let kept = kept_first first (before ++ test ∷ behind) test.number others.0 e in
            let rest = more.0 kept.1 in
            ((kept.0, rest.0), rest.1)),
        (λ h. rw (le-ltb first.most first.value h.0.0) (more.1 (h.0.1, h.1))),
      )

  -- the value: all are kept
  pub all_kept : (tests : List Tested) (value : A) → (in_row tests ≡ ok value) ↔ (Each Kept tests × (result ≡ value))
  all_kept [] value = (λ e. (tt, ok_is e), λ h. ap ok h.1)
  all_kept (test ∷ tests) value =
      let more = all_kept tests value in
      (there more.0 (passes test) refl, λ h. rw (le-ltb test.most test.value h.0.0) (more.1 (h.0.1, h.1)))
    where
      there : (in_row tests ≡ ok value → Each Kept tests × (result ≡ value)) → (b : Bool) → passes test ≡ b → (refuse test.number 0 b >> in_row tests) ≡ ok value
          → (Kept test × Each Kept tests) × (result ≡ value)
      there more true is e = absurd (refused_not_ok e)
      there more false is e =
          let rest = more e in
          ((ltb-false test.most test.value is, rest.0), rest.1)
