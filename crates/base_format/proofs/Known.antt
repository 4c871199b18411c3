-- Laws of known waves and their places: one wave more, and what adding a wave keeps.
use Prim.Native.Nat.{ℕ, suc, ◌≤◌, ◌<◌}
use mathlib.Core.Path.{◌≡◌, refl, sym, ap, ◌∙◌}
use mathlib.Core.Bool.{Bool, true, false, cond, ◌||◌, true≢false, false≢true, or-true}
use mathlib.Core.List.{List, [], ◌∷◌, ◌++◌}
use native.Mathlib.Omega.{arith}
use lib.ListN.{length, get_or}
use Rattle.base_format.specs.Bytes.{same_bytes}
use Rattle.base_format.specs.Repack.{is_known, place_of, added}
use Rattle.base_format.proofs.Equal.{same_bytes_lem, bytes_self}

pub known_snoc : (known : List (List ℕ)) (w bytes : List ℕ) → is_known (known ++ (w ∷ [])) bytes ≡ (is_known known bytes || same_bytes w bytes)
unfolding is_known
known_snoc [] w bytes = go (same_bytes w bytes)
  where
    go : (b : Bool) → (b || false) ≡ b
    go true = refl
    go false = refl
known_snoc (x ∷ known) w bytes = go (known_snoc known w bytes) (same_bytes x bytes)
  where
    go : is_known (known ++ (w ∷ [])) bytes ≡ (is_known known bytes || same_bytes w bytes) → (b : Bool)
        → (b || is_known (known ++ (w ∷ [])) bytes) ≡ (b || is_known known bytes || same_bytes w bytes)
    go more true = refl
    go more false = more

-- a wave that is known has a place
pub known_place : (waves : List (List ℕ)) (bytes : List ℕ) → is_known waves bytes ≡ true
    → (place_of waves bytes < length waves) × (get_or waves (place_of waves bytes) [] ≡ bytes)
unfolding is_known place_of
known_place [] bytes e = absurd (false≢true e)
known_place (w ∷ waves) bytes e = go (known_place waves bytes) (same_bytes w bytes) refl e
  where
    go : (is_known waves bytes ≡ true → (place_of waves bytes < length waves) × (get_or waves (place_of waves bytes) [] ≡ bytes)) → (b : Bool)
        → same_bytes w bytes ≡ b → (b || is_known waves bytes) ≡ true
        → (cond b 0 (suc (place_of waves bytes)) < suc (length waves)) × (get_or (w ∷ waves) (cond b 0 (suc (place_of waves bytes))) [] ≡ bytes)
    go more true p k = (omega arith, same_bytes_lem w bytes p)
    go more false p k = (omega (arith, (more k).0), (more k).1)

-- the place of a wave stays, and a new one has the next place
pub place_kept : (known more : List (List ℕ)) (bytes : List ℕ) → is_known known bytes ≡ true → place_of (known ++ more) bytes ≡ place_of known bytes
unfolding is_known place_of
place_kept [] more bytes e = absurd (false≢true e)
place_kept (x ∷ known) more bytes e = go (place_kept known more bytes) (same_bytes x bytes) e
  where
    go : (is_known known bytes ≡ true → place_of (known ++ more) bytes ≡ place_of known bytes) → (b : Bool) → (b || is_known known bytes) ≡ true
        → cond b 0 (suc (place_of (known ++ more) bytes)) ≡ cond b 0 (suc (place_of known bytes))
    go kept true e' = refl
    go kept false e' = ap suc (kept e')

pub place_new : (known : List (List ℕ)) (w bytes : List ℕ) → is_known known bytes ≡ false → same_bytes w bytes ≡ true → place_of (known ++ (w ∷ [])) bytes ≡ length known
unfolding is_known place_of
place_new [] w bytes e same = rw same
place_new (x ∷ known) w bytes e same = go (λ (e' : is_known known bytes ≡ false). place_new known w bytes e' same) (same_bytes x bytes) e
  where
    go : (is_known known bytes ≡ false → place_of (known ++ (w ∷ [])) bytes ≡ length known) → (b : Bool) → (b || is_known known bytes) ≡ false
        → cond b 0 (suc (place_of (known ++ (w ∷ [])) bytes)) ≡ suc (length known)
    go new true e' = absurd (true≢false e')
    go new false e' = ap suc (new e')

-- the place of a wave that is not found
pub place_none : (known : List (List ℕ)) (bytes : List ℕ) → is_known known bytes ≡ false → place_of known bytes ≡ length known
unfolding is_known place_of
place_none [] bytes e = refl
place_none (x ∷ known) bytes e = go (place_none known bytes) (same_bytes x bytes) e
  where
    go : (is_known known bytes ≡ false → place_of known bytes ≡ length known) → (b : Bool) → (b || is_known known bytes) ≡ false
        → cond b 0 (suc (place_of known bytes)) ≡ suc (length known)
    go more true e' = absurd (true≢false e')
    go more false e' = ap suc (more e')

pub place_few : (waves : List (List ℕ)) (bytes : List ℕ) → place_of waves bytes ≤ length waves
unfolding place_of
place_few [] bytes = omega arith
place_few (w ∷ waves) bytes = go (place_few waves bytes) (same_bytes w bytes)
  where
    go : place_of waves bytes ≤ length waves → (b : Bool) → cond b 0 (suc (place_of waves bytes)) ≤ suc (length waves)
    go few true = omega arith
    go few false = omega arith

-- ---- a wave is added

module _ (known : List (List ℕ)) (bytes : List ℕ) where
  -- the wave itself
  pub added_place : place_of (added known bytes) bytes ≡ place_of known bytes
  unfolding added
  added_place = go (is_known known bytes) refl
    where
      go : (b : Bool) → is_known known bytes ≡ b → place_of (cond b known (known ++ (bytes ∷ []))) bytes ≡ place_of known bytes
      go true e = refl
      go false e = place_new known bytes bytes e (bytes_self bytes) ∙ sym (place_none known bytes e)

  pub added_has : is_known (added known bytes) bytes ≡ true
  unfolding added
  added_has = go (is_known known bytes) refl
    where
      go : (b : Bool) → is_known known bytes ≡ b → is_known (cond b known (known ++ (bytes ∷ []))) bytes ≡ true
      go true e = e
      go false e = known_snoc known bytes bytes ∙ rw (bytes_self bytes) (or-true (is_known known bytes))

  -- a wave that was known before
  module _ (other : List ℕ) (before : is_known known other ≡ true) where
    pub added_keeps_place : place_of (added known bytes) other ≡ place_of known other
    unfolding added
    added_keeps_place = go (is_known known bytes)
      where
        go : (b : Bool) → place_of (cond b known (known ++ (bytes ∷ []))) other ≡ place_of known other
        go true = refl
        go false = place_kept known (bytes ∷ []) other before

    pub added_keeps : is_known (added known bytes) other ≡ true
    unfolding added
    added_keeps = go (is_known known bytes)
      where
        go : (b : Bool) → is_known (cond b known (known ++ (bytes ∷ []))) other ≡ true
        go true = before
        go false = known_snoc known bytes other ∙ rw before
