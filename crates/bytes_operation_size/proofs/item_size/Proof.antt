-- `bytes_operation_size::item_size` meets its contract: the opcode decides, and what is above 2 is taken as 2.
use borrow.Author.Rules.{rules}
use native.Mathlib.Omega.{arith}
use Prim.Native.Nat.{ℕ, ◌≤◌, min}
use mathlib.Core.Path.{◌≡◌, sym, ap, ◌∙◌}
use Rattle.base_format.specs.Operation.{size_of}
use Rattle.base_format.proofs.Sizes.{size_most}
use Rattle.bytes_operation_size.proofs.item_size.Statement.{statement}
use Rattle.bytes_operation_size.proofs.item_size.Tie as tie

-- the size of an opcode that the given one counts as
counts_as : (width opcode known r : ℕ) → 3 ≤ width → width ≤ 4 → min opcode 2 ≡ known → r ≡ size_of width known → (r ≡ size_of width (min opcode 2)) × (r ≤ 16)
counts_as width opcode known r low high e is =
    let most = size_most width known low high (omega arith) in
    (is ∙ ap (size_of width) (sym e), omega arith)

returns : tie.Need-returns-then-opcode-eq0
returns c = let s = c in counts_as _ _ 0 _ s.requires.0 s.requires.1 (omega arith) c.operation_size.ensures.0

returns_2 : tie.Need-returns-then-opcode-eq1
returns_2 c = let s = c in counts_as _ _ 1 _ s.requires.0 s.requires.1 (omega arith) c.operation_size-then-opcode-eq1.ensures.0

returns_3 : tie.Need-returns
returns_3 c = let s = c in counts_as _ _ 2 _ s.requires.0 s.requires.1 (omega arith) c.operation_size-2.ensures.0

pub item_size_spec : {M : Type 1} → statement M
item_size_spec = tie.close (tie.spec (search rules) returns (search rules) returns_2 (search rules) returns_3)
