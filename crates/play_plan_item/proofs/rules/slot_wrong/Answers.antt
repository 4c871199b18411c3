-- Each turn passes a card that has not the slot; the slice has as many cards as the table holds.
use Rattle.std.proofs.Common.{arith, sym, take, ◌∙◌}
use borrow.Author.Tests.{eq-eqb, ne_eqb}
use Rattle.base_format.proofs.Cards.{eight, held_cards, past_card}
use Rattle.play_plan_item.proofs.Slots.{wrong_step, wrong_end}
use Rattle.play_plan_item.proofs.rules.slot_wrong.Goals as goal

pub loop-card-init : goal.loop-card-init
loop-card-init c = rw (c.min.ensures, held_cards c.args.table (eight c.args.table _ c.well_formed.0))

pub returns-then-card-slot : goal.returns-then-card-slot
returns-then-card-slot c =
    let items = take c.min.result c.args.table.cards in
    c.one_card_wrong.ensures ∙ sym (c.loop-card.invariant ∙ wrong_step items c.loop-card.card-index c.args.slot past_card (omega arith) ∙ rw (eq-eqb _ _ c.if-card-slot.true))

pub loop-card-preserved : goal.loop-card-preserved
loop-card-preserved c =
    let items = take c.min.result c.args.table.cards in
    c.loop-card.invariant ∙ wrong_step items c.loop-card.card-index c.args.slot past_card (omega arith) ∙ rw (ne_eqb _ _ c.if-card-slot.false)

pub returns : goal.returns
returns c =
    let items = take c.min.result c.args.table.cards in
    sym (c.loop-card.invariant ∙ wrong_end items c.loop-card.card-index c.args.slot (omega arith))
