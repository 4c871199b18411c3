-- The card at `i` comes first of those that are left (`cards_step`); its refusal is the answer, and a card that breaks no rule has its place.
use Rattle.std.proofs.Common.{arith}
use Rattle.base_format.proofs.Answered.{passed_on}
use Rattle.check_cards.proofs.CardWalk.{cards_step, fine_card, seen_next, seen_all}
use Rattle.check_cards.proofs.parse_v4_cards.Goals as goal

pub returns-in_err-refuse : goal.returns-in_err-refuse
returns-in_err-refuse c =
    let s = c.loop-i.invariant in
    rw (passed_on _ _ c.from_residual.ensures.1, s.rest, cards_step c.args.file.now c.args.count c.loop-i.i c.loop-i.least s.seen c.loop-i-test.true, ← c.in_err-refuse.ensures)

pub returns-in_err-refuse-2 : goal.returns-in_err-refuse-2
returns-in_err-refuse-2 c =
    let s = c.loop-i.invariant in
    rw (
      passed_on _ _ c.from_residual-in_err-refuse-2.ensures.1,
      s.rest,
      cards_step c.args.file.now c.args.count c.loop-i.i c.loop-i.least s.seen c.loop-i-test.true,
      ← c.in_ok-refuse.ensures,
      ← c.read_card-card.ensures,
      ← c.card_wrong.ensures,
      ← c.in_err-refuse-2.ensures,
    )

pub bounds-cards-i : goal.bounds-cards-i
bounds-cards-i c =
    omega (arith, fine_card c.args.file.now _ c.loop-i.i c.loop-i.least _ c.loop-i.invariant.rising (rw c.card_wrong.ensures at c.in_ok-refuse-2.ensures))

pub overflow_add-least : goal.overflow_add-least
overflow_add-least c =
    omega (arith, fine_card c.args.file.now _ c.loop-i.i c.loop-i.least _ c.loop-i.invariant.rising (rw c.card_wrong.ensures at c.in_ok-refuse-2.ensures))

pub loop-i-preserved : goal.loop-i-preserved
loop-i-preserved c =
    rw c.read_card-card.ensures (seen_next c.args.file.now c.args.count c.loop-i.cards c.loop-i.least c.loop-i.i c.loop-i-test.true c.loop-i.invariant c.in_ok-refuse.ensures
    (rw (c.card_wrong.ensures, c.read_card-card.ensures) at c.in_ok-refuse-2.ensures))

pub returns : goal.returns
returns c = seen_all c.args.file.now c.args.count c.loop-i.cards c.loop-i.least c.loop-i.i (omega arith) c.loop-i.invariant
