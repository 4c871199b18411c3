-- The cards that are seen stand in the table, and what is still to do decides.
use Rattle.check_cards.proofs.CardWalk.{Seen}
use Rattle.check_cards.proofs.parse_v4_cards.Given as goal

abbrev pub invariant-loop-i : goal.invariant-loop-i
invariant-loop-i l = Seen l.file l.count l.cards l.least l.i
