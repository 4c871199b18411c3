-- Passing over empty frames.
use Prim.Native.Nat.{ℕ, zero, suc, ◌+◌, ◌*◌, ◌-◌, ◌≤◌, ◌<◌}
use mathlib.Core.Bool.{Bool, true, false, cond}
use mathlib.Core.List.{List}
use mathlib.Core.Path.{◌≡◌, refl, ap, subst, ◌∙◌}
use native.Mathlib.Nat.{le_refl}
use native.Mathlib.Omega.{arith}
use borrow.Author.Tests.{lt-ltb, ltb-true, ltb-false}
use lib.Dec.{eqb, ltb}
use Rattle.base_format.specs.Bytes.{be}
use Rattle.base_format.specs.Operation.{address_width}
use Rattle.index_laws.specs.Frames.{walk_limit, items_walked, frame_walked, frames_walked, EmptyFrames, EmptyPassed}
use Rattle.index_laws.proofs.Frames.{items_none, frames_step}

-- two counts that are 0 together
both_empty : (file : List ℕ) (at : ℕ) → be 4 file at ≡ 0 → (be 2 file at ≡ 0) × (be 2 file (at + 2) ≡ 0)
unfolding be
both_empty file at none =
    let third : at + 2 + 0 ≡ at + 2 = omega arith in
    let fourth : at + 2 + 1 ≡ at + 3 = omega arith in
    (omega (arith, none), rw (third, fourth) (omega (arith, none)))

-- an empty frame ends behind its count
empty_frame : (version : ℕ) (file : List ℕ) (at : ℕ) → at < walk_limit file → be 2 file at ≡ 0 → frame_walked version file at ≡ at + 2
unfolding frame_walked
empty_frame version file at less none = rw (lt-ltb at (walk_limit file) less, none) (go (eqb version 1))
  where
    go : (b : Bool) → cond b (at + 2 + 0 * 5) (items_walked (address_width version) file 0 (at + 2)) ≡ at + 2
    go true = omega arith
    go false = items_none (address_width version) file (at + 2)

-- the first of some empty frames, and those behind it
pub first_empty : (file : List ℕ) (n at : ℕ) → EmptyFrames file (suc n) at → (at < walk_limit file) × (be 2 file at ≡ 0)
first_empty file n at empty = let here : at + 0 * 2 ≡ at = omega arith in subst (λ (m : ℕ). (m < walk_limit file) × (be 2 file m ≡ 0)) here (empty 0 (omega arith))

pub rest_empty : (file : List ℕ) (n at : ℕ) → EmptyFrames file (suc n) at → EmptyFrames file n (at + 2)
rest_empty file n at empty k below =
    let next : at + suc k * 2 ≡ at + 2 + k * 2 = omega arith in
    subst (λ (m : ℕ). (m < walk_limit file) × (be 2 file m ≡ 0)) next (empty (suc k) (omega (arith, below)))

one_empty : (version : ℕ) (file : List ℕ) (count at : ℕ) → 0 < count → at < walk_limit file → be 2 file at ≡ 0
    → frames_walked version file count at ≡ frames_walked version file (count - 1) (at + 2)
one_empty version file count at some less none =
    frames_step version file count at some ∙ ap (frames_walked version file (count - 1)) (empty_frame version file at less none)

-- passing over empty frames leads where all ends
pub empty_walked : (version : ℕ) (file : List ℕ) (n count at : ℕ) → n ≤ count → EmptyFrames file n at → frames_walked version file count at ≡ frames_walked version file (count - n) (at + n * 2)
empty_walked version file zero count at most empty =
    let all : count ≡ count - 0 = omega arith in
    let here : at ≡ at + 0 * 2 = omega arith in
    λ i. frames_walked version file (all i) (here i)
empty_walked version file (suc n) count at most empty =
    let first = first_empty file n at empty in
    let left : count - 1 - n ≡ count - suc n = omega arith in
    let next : at + 2 + n * 2 ≡ at + suc n * 2 = omega arith in
    one_empty version file count at (omega arith) first.0 first.1
    ∙ empty_walked version file n (count - 1) (at + 2) (omega arith) (rest_empty file n at empty)
    ∙ (λ i. frames_walked version file (left i) (next i))

-- one empty frame more
one_more : (file : List ℕ) (n start : ℕ) → EmptyFrames file n start → start + n * 2 < walk_limit file → be 2 file (start + n * 2) ≡ 0 → EmptyFrames file (suc n) start
one_more file n start empty less none k below = go (ltb k n) refl
  where
    go : (b : Bool) → ltb k n ≡ b → (start + k * 2 < walk_limit file) × (be 2 file (start + k * 2) ≡ 0)
    go true e = empty k (ltb-true k n e)
    go false e = let same : n ≡ k = omega (arith, below, ltb-false k n e) in subst (λ (m : ℕ). (start + m * 2 < walk_limit file) × (be 2 file (start + m * 2) ≡ 0)) same (less, none)

two_more : (file : List ℕ) (n start at : ℕ) → EmptyFrames file n start → at ≡ start + n * 2 → at + 4 ≤ walk_limit file → be 4 file at ≡ 0 → EmptyFrames file (suc (suc n)) start
two_more file n start at empty here room none =
    let both = both_empty file at none in
    let next : at + 2 ≡ start + suc n * 2 = omega arith in
    one_more file (suc n) start (one_more file n start empty (omega arith) (subst (λ (m : ℕ). be 2 file m ≡ 0) here both.0)) (omega arith) (subst (λ (m : ℕ). be 2 file m ≡ 0) next both.1)

-- nothing is passed yet, and four frames more
pub none_passed : (file : List ℕ) (count start : ℕ) → EmptyPassed file count start count start
none_passed file count start =
    let none : count - count ≡ 0 = omega arith in
    record { most = le_refl count; here = omega arith; empty = λ k below. absurd (omega (arith, below)) }

pub four_passed : (file : List ℕ) (count start left at : ℕ) → EmptyPassed file count start left at → 4 ≤ left → at + 8 ≤ walk_limit file → be 4 file at ≡ 0 → be 4 file (at + 4) ≡ 0
    → EmptyPassed file count start (left - 4) (at + 8)
four_passed file count start left at p some room none none' =
    let n = count - left in
    let next : at + 4 ≡ start + suc (suc n) * 2 = omega (arith, p.here) in
    let all : suc (suc (suc (suc n))) ≡ count - (left - 4) = omega (arith, p.most) in
    let four = two_more file (suc (suc n)) start (at + 4) (two_more file n start at p.empty p.here (omega arith) none) next (omega arith) none' in
    record { most = omega (arith, p.most); here = omega (arith, p.here, p.most); empty = subst (λ (m : ℕ). EmptyFrames file m start) all four }

two_empty : (version : ℕ) (file : List ℕ) (count at : ℕ) → 2 ≤ count → at + 4 ≤ walk_limit file → be 4 file at ≡ 0
    → frames_walked version file count at ≡ frames_walked version file (count - 2) (at + 4)
two_empty version file count at some room none =
    let both = both_empty file at none in
    let left : count - 1 - 1 ≡ count - 2 = omega arith in
    let next : at + 2 + 2 ≡ at + 4 = omega arith in
    one_empty version file count at (omega arith) (omega arith) both.0
    ∙ one_empty version file (count - 1) (at + 2) (omega arith) (omega arith) both.1
    ∙ rw (left, next)

pub four_empty : (version : ℕ) (file : List ℕ) (count at : ℕ) → 4 ≤ count → at + 8 ≤ walk_limit file → be 4 file at ≡ 0 → be 4 file (at + 4) ≡ 0
    → frames_walked version file count at ≡ frames_walked version file (count - 4) (at + 8)
four_empty version file count at some room none none' =
    let left : count - 2 - 2 ≡ count - 4 = omega arith in
    let next : at + 4 + 4 ≡ at + 8 = omega arith in
    two_empty version file count at (omega arith) (omega arith) none
    ∙ two_empty version file (count - 2) (at + 4) (omega arith) (omega arith) none'
    ∙ rw (left, next)
