-- `join_renumber::renumber_item` meets its contract: only a COPY changes.
use borrow.Author.Rules.{rules}
use native.Mathlib.Omega.{arith}
use Prim.Native.Nat.{ℕ, ◌+◌}
use mathlib.Core.Path.{ap, ◌∙◌}
use Rattle.base_format.specs.Bytes.{bytes_of}
use Rattle.bytes_read.specs.Put.{put}
use Rattle.join_renumber.proofs.Walk.{copy_renumbered, other_stays}
use Rattle.join_renumber.proofs.renumber_item.Statement.{statement}
use Rattle.join_renumber.proofs.renumber_item.Tie as tie

pub renumber_item_spec : {M : Type 1} → statement M
renumber_item_spec =
    tie.close
    (tie.spec (search rules) (search rules) (search rules) (search rules) (search rules) (search rules) (search rules) (search rules)
    (λ c.
    let a = c.args in
    c.put_low_u16.ensures
    ∙ ap (λ (n : ℕ). put (bytes_of 2 (a.before + n)) (a.at + 5 + a.shift) a.buffer.now) c.read_u16-pool.ensures
    ∙ copy_renumbered a.before a.shift a.file.now a.at a.buffer.now (omega arith))
    (λ c. let a = c.args in other_stays a.before a.shift a.file.now a.at a.buffer.now (omega arith)))
