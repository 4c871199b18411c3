-- Each turn writes one card more behind those that stand (`cards_next`, `put_append`).
use Rattle.std.proofs.Common.{arith, sym, ap, ◌∙◌, ◌≡◌, ◌+◌, ◌*◌, length, get_or, take}
use Rattle.std.proofs.Math.ListN.{length-append}
use Rattle.base_format.specs.Bytes.{bytes_of_all}
use Rattle.base_format.specs.Written.{card_fields, cards_bytes}
use Rattle.base_format.proofs.Cards.{eight, past_card}
use Rattle.bytes_read.specs.Put.{put}
use Rattle.bytes_read.proofs.Sequence.{put_none, put_append}
use Rattle.bytes_put_tables.proofs.Cards.{card_size_lem, cards_none, cards_next}
use Rattle.bytes_put_tables.proofs.put_cards.Goals as goal

pub loop-i-init : goal.loop-i-init
loop-i-init c =
    let a = c.args in
    record { long = rw cards_none; stand = rw cards_none (sym (put_none a.at a.buffer.now (omega arith))) }

pub loop-i-preserved : goal.loop-i-preserved
loop-i-preserved c =
    let l = c.loop-i in
    let a = c.args in
    let e = c.put_card.ensures in
    let card = get_or a.table.cards l.i past_card in
    let bytes = bytes_of_all (card_fields card) in
    let passed = cards_bytes (take l.i a.table.cards) in
    let next = cards_next a.table.cards l.i past_card (omega (arith, eight a.table _ c.well_formed.1.1.0)) in
    let size = card_size_lem card e.1 in
    let place : a.at + l.i * 32 ≡ a.at + length passed = omega (arith, l.invariant.long) in
    record {
      long = ap length next ∙ length-append passed bytes ∙ omega (arith, l.invariant.long, size);
      stand = rw next (e.0 ∙ (λ i. put bytes (place i) (l.invariant.stand i)) ∙ sym (put_append passed bytes a.at a.buffer.now (rw (length-append passed bytes) (omega (arith, l.invariant.long, size)))));
    }

pub returns : goal.returns
returns c =
    let all : c.loop-i.i ≡ c.args.table.count = omega arith in
    rw all at c.loop-i.invariant.stand
