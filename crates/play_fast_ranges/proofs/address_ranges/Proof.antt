-- `play_fast_ranges::address_ranges` meets its contract. The loop's invariant: the arrays hold the ranges with the cards from `i` on; `i` goes down to 0.
use borrow.Author.Rules.{rules}
use native.Mathlib.Omega.{arith}
use Prim.Native.Nat.{ℕ, ◌+◌, ◌-◌, ◌≤◌, min}
use mathlib.Core.Path.{◌≡◌}
use mathlib.Core.Bool.{cond}
use mathlib.Core.List.{[]}
use lib.Dec.{eqb}
use lib.ListN.{take, drop}
use Rattle.base_format.specs.declared.card.CardTable.{CardTable}
use Rattle.base_targets.specs.declared.Target.{Target}
use Rattle.base_format.specs.Card.{cards_of}
use Rattle.base_format.specs.Target.{target_of}
use Rattle.base_format.proofs.Cards.{eight}
use Rattle.play_fast_ranges.specs.Ranges.{usable, starts_by, ends_by}
use Rattle.play_fast_ranges.proofs.Stored.{length_starts, length_ends, starts_same, ends_same, card_starts, card_ends}
use Rattle.play_fast_ranges.proofs.Cards.{with_cards, with_none, with_next, held_usable}
use Rattle.play_fast_ranges.proofs.address_ranges.Statement.{statement}
use Rattle.play_fast_ranges.proofs.address_ranges.Tie as tie

-- how many cards there are
abbrev held : (version : ℕ) → CardTable → ℕ
held version cards = cond (eqb version 4) (min cards.count 8) 0

-- the targets with the cards from `i` on
abbrev stored : (version : ℕ) → CardTable → (i : ℕ) → ℕ → Target
stored version cards i = with_cards (target_of version []) (drop i (take (held version cards) cards.cards))

abbrev invariant_loop : tie.invariant-loop-i
invariant_loop version starts₀ ends₀ cards i₀ starts ends i =
    (i ≤ 8) × (i ≤ held version cards) × (starts ≡ starts_by (stored version cards i)) × (ends ≡ ends_by (stored version cards i))

abbrev decreases_loop : tie.decreases-loop-i
decreases_loop version starts₀ ends₀ cards i₀ starts ends i = i

put_plain_requires : tie.Need-put_plain-requires invariant_loop decreases_loop
put_plain_requires c κs = (c.requires.0, c.requires.1)

loop_holds : tie.Need-loop-i-init invariant_loop decreases_loop
loop_holds c =
    let a = c.args in
    let none = with_none (target_of a.version []) a.cards.cards (held a.version a.cards) in
    (omega arith, omega arith, rw (c.cards_in-i.ensures.0, none) c.put_plain.ensures.0, rw (c.cards_in-i.ensures.0, none) c.put_plain.ensures.1)

put_card_ranges_requires : tie.Need-put_card_ranges-requires invariant_loop decreases_loop
put_card_ranges_requires c κs =
    (rw c.loop-i.invariant.2 (length_starts _), rw c.loop-i.invariant.3 (length_ends _))

loop_again : tie.Need-loop-i-preserved invariant_loop decreases_loop
loop_again c =
    let t = c.args.cards in
    let v = c.args.version in
    let i = c.loop-i.i - 1 in
    let back : i + 1 ≡ c.loop-i.i = omega arith in
    let next = with_next (target_of v []) t.cards (held v t) i (omega arith) (omega (arith, eight t _ c.well_formed.1.0)) in
    let card = c.put_card_ranges.ensures in
    (omega arith, omega arith, rw (card.0, c.loop-i.invariant.2, next, back) (card_starts (stored v t c.loop-i.i) _), rw (card.1, c.loop-i.invariant.3, next, back) (card_ends (stored v t c.loop-i.i) _))

returns : tie.Need-returns invariant_loop decreases_loop
returns c =
    let t = c.args.cards in
    let all : c.loop-i.i ≡ 0 = omega arith in
    let same : (n : ℕ) → stored c.args.version t 0 n ≡ usable c.args.version (cards_of t) n = λ n. held_usable c.args.version t n (eight t _ c.well_formed.1.0) in
    (rw (c.loop-i.invariant.2, all) (starts_same _ _ same), rw (c.loop-i.invariant.3, all) (ends_same _ _ same))

pub address_ranges_spec : {M : Type 1} → statement M
address_ranges_spec =
    tie.close
    (tie.spec invariant_loop decreases_loop put_plain_requires (search rules) loop_holds (search rules) (search rules) (search rules) put_card_ranges_requires (search rules) loop_again returns)
