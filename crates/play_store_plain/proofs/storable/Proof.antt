-- `storable` meets its contract: its tests decide the definition's. A WRITE has at most 16 bytes, so that no product or sum wraps.
use borrow.Author.Rules.{rules}
use native.Mathlib.Omega.{arith}
use native.Mathlib.Nat.{mul-le-mul_left}
use mathlib.Core.Path.{sym, ap}
use Prim.Native.Nat.{ℕ, ◌*◌}
use Rattle.play_store_plain.proofs.Writes.{storable_room, storable_file, storable_fit}
use Rattle.play_store_plain.proofs.storable.Statement.{statement}
use Rattle.play_store_plain.proofs.storable.Tie as tie

returns : tie.Need-returns-then-room-count
returns c =
    let a = c.args in
    sym (storable_room a.room a.size a.version a.from a.count c.if-room-count.true)

returns_2 : tie.Need-returns-then-size-from
returns_2 c =
    let a = c.args in
    let p = c.plain_size-step in
    sym (storable_file a.room a.size a.version a.from a.count (omega (arith, c.if-size-from.true, p.ensures)))

mul_if3 : tie.Need-overflow_mul-count
mul_if3 c = omega (arith, mul-le-mul_left c.args.count c.plain_size-step.ensures.1)

add_if3 : tie.Need-overflow_add-count
add_if3 c = omega (arith, mul-le-mul_left c.args.count c.plain_size-step.ensures.1)

sub_if3 : tie.Need-overflow_sub-count
sub_if3 c = omega (arith, c.plain_size-step.ensures.1)

returns_3 : tie.Need-returns-then-size-from-2
returns_3 c =
    let a = c.args in
    let p = c.plain_size-step in
    sym (storable_file a.room a.size a.version a.from a.count (omega (arith, c.if-size-from-2.true, p.ensures, ap (λ (k : ℕ). a.count * k) p.ensures.0)))

returns_4 : tie.Need-returns
returns_4 c =
    let a = c.args in
    let p = c.plain_size-step in
    sym (storable_fit a.room a.size a.version a.from a.count c.if-room-count.false (omega (arith, c.if-size-from-2.false, c.if-size-from.false, p.ensures, ap (λ (k : ℕ). a.count * k) p.ensures.0)))

pub storable_spec : {M : Type 1} → statement M
storable_spec = tie.close (tie.spec returns (search rules) returns_2 mul_if3 add_if3 sub_if3 returns_3 returns_4)
