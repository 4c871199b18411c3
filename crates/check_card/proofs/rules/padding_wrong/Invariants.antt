-- The bytes from `place` on decide, and those before it that are kept in `some`.
use Rattle.std.proofs.Common.{◌≡◌, ◌&&◌, max, drop, nat_eq}
use Rattle.base_format.specs.Bytes.{all_zero}
use Rattle.check_card.proofs.rules.padding_wrong.Given as goal

abbrev pub invariant-loop-place : goal.invariant-loop-place
invariant-loop-place l = all_zero (drop l.id_length l.fn.id) ≡ (nat_eq l.some 0 && all_zero (drop (max l.id_length l.place) l.fn.id))
