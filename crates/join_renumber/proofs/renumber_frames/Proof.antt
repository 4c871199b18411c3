-- `join_renumber::renumber_frames` meets its contract. The loop's invariant: what is left, done to the buffer as it is now, is the whole.
use borrow.Author.Rules.{rules}
use native.Mathlib.Omega.{arith}
use Prim.Native.Nat.{ℕ, ◌+◌, ◌-◌, ◌<◌, ◌≤◌}
use mathlib.Core.Path.{◌≡◌, refl, sym, ap, ap₂, ◌∙◌}
use mathlib.Core.List.{List}
use lib.ListN.{length}
use Rattle.base_format.specs.Bytes.{be}
use Rattle.index_laws.specs.Frames.{walk_limit, items_walked}
use Rattle.join_renumber.specs.Renumbered.{items_renumbered, frames_renumbered}
use Rattle.join_renumber.proofs.Walk.{items_length, frames_none, frames_still, frames_step, frames_passed}
use Rattle.join_renumber.proofs.renumber_frames.Statement.{statement}
use Rattle.join_renumber.proofs.renumber_frames.Tie as tie

abbrev invariant_loop : tie.invariant-loop-left
invariant_loop file count start before buffer₀ shift limit at₀ left₀ buffer at left =
    (frames_renumbered before shift file count start buffer₀ ≡ frames_renumbered before shift file left at buffer) × (length buffer ≡ length buffer₀)

abbrev decreases_loop : tie.decreases-loop-left
decreases_loop file count start before buffer₀ shift limit at₀ left₀ buffer at left = left

returns : tie.Need-returns-then-left-eq0 invariant_loop decreases_loop
returns c =
    let l = c.loop-left in
    let a = c.args in
    let next = c.pass_empty_counts-next.result in
    sym (
    l.invariant.0
    ∙ frames_passed a.before a.shift a.file.now l.left l.at next.left next.at l.buffer c.pass_empty_counts-next.ensures
    ∙ ap (λ (n : ℕ). frames_renumbered a.before a.shift a.file.now n next.at l.buffer) c.if-left-eq0.true
    ∙ frames_none a.before a.shift a.file.now next.at l.buffer
    )

returns_2 : tie.Need-returns-then-limit-at invariant_loop decreases_loop
returns_2 c =
    let l = c.loop-left in
    let a = c.args in
    let next = c.pass_empty_counts-next.result in
    let past : walk_limit a.file.now ≤ next.at = omega (arith, c.if-limit-at.true, c.smaller-limit.ensures.0) in
    sym (
    l.invariant.0
    ∙ frames_passed a.before a.shift a.file.now l.left l.at next.left next.at l.buffer c.pass_empty_counts-next.ensures
    ∙ frames_still a.before a.shift a.file.now next.left next.at l.buffer past
    )

add_first : tie.Need-overflow_add-first invariant_loop decreases_loop
add_first c =
    omega (arith, c.if-limit-at.false, c.smaller-limit.ensures.2)

loop_less : tie.Need-loop-left-smaller invariant_loop decreases_loop
loop_less c =
    omega (arith, c.pass_empty_counts-next.ensures.most, c.if-left-eq0.false)

loop_again : tie.Need-loop-left-preserved invariant_loop decreases_loop
loop_again c =
    let l = c.loop-left in
    let a = c.args in
    let file = a.file.now in
    let next = c.pass_empty_counts-next.result in
    let less : next.at < walk_limit file = omega (arith, c.if-limit-at.false, c.smaller-limit.ensures.0) in
    let some : 0 < next.left = omega (arith, c.if-left-eq0.false) in
    let first = next.at + 2 in
    let count = c.read_u16-items.ensures in
    let did = c.renumber_items-at.ensures in
    let puts = did.0 ∙ ap (λ (n : ℕ). items_renumbered a.before a.shift file n first l.buffer) count in
    let ends = did.1 ∙ ap (λ (n : ℕ). items_walked 3 file n first) count in (
      l.invariant.0
          ∙ frames_passed a.before a.shift file l.left l.at next.left next.at l.buffer c.pass_empty_counts-next.ensures
          ∙ frames_step a.before a.shift file next.left next.at l.buffer some less
          ∙ ap₂ (λ (n : ℕ) (b : List ℕ). frames_renumbered a.before a.shift file (next.left - 1) n b) (sym ends) (sym puts),
      ap length puts ∙ items_length a.before a.shift file (be 2 file next.at) first l.buffer ∙ l.invariant.1,
    )

returns_3 : tie.Need-returns invariant_loop decreases_loop
returns_3 c =
    let l = c.loop-left in
    let a = c.args in
    let file = a.file.now in
    let none : l.left ≡ 0 = omega (arith, c.loop-left-test.false) in
    sym (l.invariant.0 ∙ ap (λ (n : ℕ). frames_renumbered a.before a.shift file n l.at l.buffer) none ∙ frames_none a.before a.shift file l.at l.buffer)

pub renumber_frames_spec : {M : Type 1} → statement M
renumber_frames_spec =
    tie.close
    (tie.spec invariant_loop decreases_loop (search rules) (search rules) (λ c. (refl, refl)) (search rules) (search rules) returns (search rules) returns_2 (search rules) add_first (search rules) (search rules)
    (search rules) loop_less loop_again (search rules) returns_3)
