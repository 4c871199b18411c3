-- Laws of arrays of ranges: what a store makes of them.
use Prim.Native.Nat.{ℕ, ◌+◌, ◌-◌, ◌≤◌, ◌<◌}
use mathlib.Core.Path.{◌≡◌, refl, sym, ◌∙◌}
use mathlib.Core.List.{List}
use mathlib.Core.Bool.{Bool, true, false, cond}
use native.Mathlib.Omega.{arith}
use borrow.Author.Tests.{ltb-true, ltb-false, eqb-true, eqb-false, eq-eqb, ne_eqb}
use lib.Dec.{eqb, ltb}
use lib.ListN.{length, get_or, set, length-set}
use lib.Seq.{ext_get_or, get_or-set_same, get_or-set_other}
use Rattle.base_format.specs.declared.card.CardRequirement.{CardRequirement}
use Rattle.base_targets.specs.declared.Target.{Target}
use Rattle.base_format.specs.Target.{bulk_start}
use Rattle.check_fast_limits.specs.Limits.{bulk_end, tabled}
use Rattle.check_fast_limits.proofs.Tabled.{length_tabled, tabled_at}
use Rattle.play_fast_ranges.specs.Ranges.{write_top, starts_by, ends_by, starts_with, ends_with, card_target, starts_card, ends_card}

-- TABLES

-- two functions that agree below the count have the same table
pub tabled_same : (f g : ℕ → ℕ) (count : ℕ) → ((n : ℕ) → n < count → f n ≡ g n) → tabled f count ≡ tabled g count
tabled_same f g count same =
    ext_get_or 0 (tabled f count) (tabled g count) (length_tabled f count ∙ sym (length_tabled g count)) λ i h.
    let below : i < count = omega (arith, length_tabled f count) in
    tabled_at f count i below ∙ same i below ∙ sym (tabled_at g count i below)

-- a store in a table is the table of the changed function
pub set_tabled : (f : ℕ → ℕ) (count k v : ℕ) → k < count → set (tabled f count) k v ≡ tabled (λ n. cond (eqb n k) v (f n)) count
set_tabled f count k v within =
    ext_get_or 0 (set (tabled f count) k v) (tabled changed count) (length-set (tabled f count) k v ∙ length_tabled f count ∙ sym (length_tabled changed count)) λ i h.
    let below : i < count = omega (arith, length-set (tabled f count) k v, length_tabled f count) in
    at i below (eqb i k) refl ∙ sym (tabled_at changed count i below)
  where
    changed : ℕ → ℕ
    changed n = cond (eqb n k) v (f n)

    at : (i : ℕ) → i < count → (b : Bool) → eqb i k ≡ b → get_or (set (tabled f count) k v) i 0 ≡ cond (eqb i k) v (f i)
    at i below true e =
        let same : i ≡ k = eqb-true i k e in
        rw (e, same) (get_or-set_same (tabled f count) k v 0 (omega (arith, length_tabled f count)))
    at i below false e = rw e (get_or-set_other (tabled f count) k i v 0 (eqb-false i k e) ∙ tabled_at f count i below)

-- ARRAYS OF RANGES

pub length_starts : (f : ℕ → Target) → length (starts_by f) ≡ 32
unfolding starts_by
length_starts f = length_tabled _ 32

pub length_ends : (f : ℕ → Target) → length (ends_by f) ≡ 32
unfolding ends_by
length_ends f = length_tabled _ 32

pub starts_same : (f g : ℕ → Target) → ((n : ℕ) → f n ≡ g n) → starts_by f ≡ starts_by g
unfolding starts_by
starts_same f g same = tabled_same _ _ 32 λ n h. rw (same (n - 16))

pub ends_same : (f g : ℕ → Target) → ((n : ℕ) → f n ≡ g n) → ends_by f ≡ ends_by g
unfolding ends_by
ends_same f g same = tabled_same _ _ 32 λ n h. rw (same n, same (n - 16))

-- the targets with another one at a number
abbrev pub put : (ℕ → Target) → (number : ℕ) → Target → ℕ → Target
put f number target n = cond (eqb n number) target (f n)

-- the upper half of a table is by the number
upper : (n number : ℕ) → 16 ≤ n → eqb n (number + 16) ≡ eqb (n - 16) number
upper n number h = go (eqb (n - 16) number) refl
  where
    go : (b : Bool) → eqb (n - 16) number ≡ b → eqb n (number + 16) ≡ b
    go true e = eq-eqb n (number + 16) (omega (arith, eqb-true (n - 16) number e))
    go false e = ne_eqb n (number + 16) λ same. eqb-false (n - 16) number e (omega arith)

-- a choice of targets is a choice of what they have
chosen : (b : Bool) (g : Target → ℕ) (s t : Target) → cond b (g s) (g t) ≡ g (cond b s t)
chosen true g s t = refl
chosen false g s t = refl

pub put_starts : (f : ℕ → Target) (number : ℕ) (target : Target) → number < 16 → starts_with (starts_by f) number target ≡ starts_by (put f number target)
unfolding starts_by
put_starts f number target h =
    set_tabled _ 32 (number + 16) (bulk_start target) (omega arith) ∙ tabled_same _ _ 32 λ n below. half n (ltb n 16) refl
  where
    half : (n : ℕ) → (b : Bool) → ltb n 16 ≡ b → cond (eqb n (number + 16)) (bulk_start target) (cond (ltb n 16) 0 (bulk_start (f (n - 16)))) ≡ cond (ltb n 16) 0 (bulk_start (put f number target (n - 16)))
    half n true e = rw (e, ne_eqb n (number + 16) λ same. omega (arith, ltb-true n 16 e))
    half n false e = rw (e, upper n number (ltb-false n 16 e)) (chosen (eqb (n - 16) number) bulk_start target (f (n - 16)))

pub put_ends : (f : ℕ → Target) (number : ℕ) (target : Target) → number < 16 → ends_with (ends_by f) number target ≡ ends_by (put f number target)
unfolding ends_by
put_ends f number target h =
    rw (set_tabled (λ k. cond (ltb k 16) (write_top (f k)) (bulk_end (f (k - 16)))) 32 number (write_top target) (omega arith))
    (set_tabled _ 32 (number + 16) (bulk_end target) (omega arith) ∙ tabled_same _ _ 32 λ n below. half n (ltb n 16) refl)
  where
    half : (n : ℕ) → (b : Bool) → ltb n 16 ≡ b
        → cond (eqb n (number + 16)) (bulk_end target) (cond (eqb n number) (write_top target) (cond (ltb n 16) (write_top (f n)) (bulk_end (f (n - 16)))))
        ≡ cond (ltb n 16) (write_top (put f number target n)) (bulk_end (put f number target (n - 16)))
    half n true e =
        rw (e, ne_eqb n (number + 16) λ same. omega (arith, ltb-true n 16 e)) (chosen (eqb n number) write_top target (f n))
    half n false e =
        rw (e, upper n number (ltb-false n 16 e), ne_eqb n number λ same. omega (arith, ltb-false n 16 e)) (chosen (eqb (n - 16) number) bulk_end target (f (n - 16)))

-- CARDS

-- the targets with a card's
unfoldable pub with_card : (ℕ → Target) → CardRequirement → ℕ → Target
with_card f card n = cond (ltb 7 card.slot) (f n) (put f (card.slot + 3) (card_target card) n)

-- a table by targets, with a card's stored in it
carded : (by : (ℕ → Target) → List ℕ) (stored : List ℕ) (f : ℕ → Target) (card : CardRequirement) → (card.slot + 3 < 16 → stored ≡ by (put f (card.slot + 3) (card_target card)))
    → cond (ltb 7 card.slot) (by f) stored ≡ by (with_card f card)
unfolding with_card
carded by stored f card is = go (ltb 7 card.slot) refl
  where
    go : (b : Bool) → ltb 7 card.slot ≡ b → cond b (by f) stored ≡ by (λ n. cond b (f n) (put f (card.slot + 3) (card_target card) n))
    go true e = refl
    go false e = is (omega (arith, ltb-false 7 card.slot e))

pub card_starts : (f : ℕ → Target) (card : CardRequirement) → starts_card (starts_by f) card ≡ starts_by (with_card f card)
card_starts f card = carded starts_by _ f card (put_starts f (card.slot + 3) (card_target card))

pub card_ends : (f : ℕ → Target) (card : CardRequirement) → ends_card (ends_by f) card ≡ ends_by (with_card f card)
card_ends f card = carded ends_by _ f card (put_ends f (card.slot + 3) (card_target card))
