-- `join_renumber::renumber_items` meets its contract. The loop's invariant: what is left, done to the buffer as it is now, is the whole.
use borrow.Author.Rules.{rules}
use native.Mathlib.Omega.{arith}
use Prim.Native.Nat.{ℕ, ◌+◌, ◌-◌, ◌<◌, ◌≤◌}
use mathlib.Core.Path.{◌≡◌, refl, sym, ap, ap₂, ◌∙◌}
use mathlib.Core.List.{List}
use lib.ListN.{length}
use Rattle.index_laws.specs.Frames.{walk_limit, items_walked}
use Rattle.index_laws.proofs.Frames as Walked
use Rattle.join_renumber.specs.Renumbered.{items_renumbered}
use Rattle.join_renumber.proofs.Walk.{item_length, items_none, items_still, items_step}
use Rattle.join_renumber.proofs.renumber_items.Statement.{statement}
use Rattle.join_renumber.proofs.renumber_items.Tie as tie

abbrev invariant_loop : tie.invariant-loop-left
invariant_loop file count start before buffer₀ shift limit at₀ left₀ buffer at left =
    (items_renumbered before shift file count start buffer₀ ≡ items_renumbered before shift file left at buffer)
    × (items_walked 3 file count start ≡ items_walked 3 file left at)
    × (length buffer ≡ length buffer₀)

abbrev decreases_loop : tie.decreases-loop-left
decreases_loop file count start before buffer₀ shift limit at₀ left₀ buffer at left = left

renumber_item_requires : tie.Need-renumber_item-requires invariant_loop decreases_loop
renumber_item_requires c κs =
    (omega (arith, c.if-at-limit.true, c.smaller-limit.ensures.2), c.requires.0, c.requires.1, refl)

add_at : tie.Need-overflow_add-at invariant_loop decreases_loop
add_at c =
    omega (arith, c.item_size-at.ensures.1, c.if-at-limit.true, c.smaller-limit.ensures.2)

loop_again : tie.Need-loop-left-preserved invariant_loop decreases_loop
loop_again c =
    let l = c.loop-left in
    let a = c.args in
    let file = a.file.now in
    let some = c.loop-left-test.true in
    let less : l.at < walk_limit file = omega (arith, c.if-at-limit.true, c.smaller-limit.ensures.0) in
    let size = sym c.item_size-at.ensures.0 in
    let puts = c.renumber_item.ensures in (
      l.invariant.0
          ∙ items_step a.before a.shift file l.left l.at l.buffer some less
          ∙ ap₂ (λ (n : ℕ) (b : List ℕ). items_renumbered a.before a.shift file (l.left - 1) (l.at + n) b) size (sym puts),
      l.invariant.1 ∙ Walked.items_step 3 file l.left l.at some less ∙ ap (λ (n : ℕ). items_walked 3 file (l.left - 1) (l.at + n)) size,
      ap length puts ∙ item_length a.before a.shift file l.at l.buffer ∙ l.invariant.2,
    )

returns : tie.Need-returns-else-at-limit invariant_loop decreases_loop
returns c =
    let l = c.loop-left in
    let a = c.args in
    let past : walk_limit a.file.now ≤ l.at = omega (arith, c.if-at-limit.false, c.smaller-limit.ensures.0) in (
      sym (l.invariant.0 ∙ items_still a.before a.shift a.file.now l.left l.at l.buffer past),
      sym (l.invariant.1 ∙ Walked.items_still 3 a.file.now l.left l.at past),
    )

returns_2 : tie.Need-returns invariant_loop decreases_loop
returns_2 c =
    let l = c.loop-left in
    let a = c.args in
    let file = a.file.now in
    let none : l.left ≡ 0 = omega (arith, c.loop-left-test.false) in (
      sym (l.invariant.0 ∙ ap (λ (n : ℕ). items_renumbered a.before a.shift file n l.at l.buffer) none ∙ items_none a.before a.shift file l.at l.buffer),
      sym (l.invariant.1 ∙ ap (λ (n : ℕ). items_walked 3 file n l.at) none ∙ Walked.items_none 3 file l.at),
    )

pub renumber_items_spec : {M : Type 1} → statement M
renumber_items_spec =
    tie.close
    (tie.spec invariant_loop decreases_loop (search rules) (search rules) (λ c. (refl, refl, refl)) (search rules) renumber_item_requires (search rules) add_at (search rules) (search rules) loop_again
    (search rules) returns (search rules) returns_2)
