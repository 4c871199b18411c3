-- The cards before `i` stand, and each has its 32 bytes.
use Rattle.std.proofs.Common.{◌≡◌, ◌*◌, length, take}
use Rattle.base_format.specs.Written.{cards_bytes}
use Rattle.bytes_read.specs.Put.{put}
use Rattle.bytes_put_tables.proofs.put_cards.Given as goal

abbrev pub invariant-loop-i : goal.invariant-loop-i
invariant-loop-i l = record {
  long : length (cards_bytes (take l.i l.table.cards)) ≡ l.i * 32;
  stand : l.buffer ≡ put (cards_bytes (take l.i l.table.cards)) l.at l.fn.buffer;
}
