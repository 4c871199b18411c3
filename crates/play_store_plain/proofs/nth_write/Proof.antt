-- `play_store_plain::nth_write` meets its contract: the window begins with the WRITE of the index, and the reader's numbers are its write's.
use borrow.Author.Rules.{rules}
use borrow.Author.Tests.{eq-eqb, ne_eqb}
use native.Mathlib.Omega.{arith}
use mathlib.Core.Path.{◌≡◌, ap}
use Prim.Native.Nat.{ℕ, ◌*◌, ◌+◌}
use Rattle.bytes_operation.specs.Decoded.{decoded_operation, decoded_item}
use Rattle.play_fast_plain.specs.Plain.{plain_size, plain_value, plain_write}
use Rattle.play_store_plain.proofs.nth_write.Statement.{statement}
use Rattle.play_store_plain.proofs.nth_write.Tie as tie

mul_window : tie.Need-overflow_mul-index
mul_window c = omega (arith, c.requires, ap (λ (k : ℕ). c.args.index * k) c.plain_size.ensures.0)

add_window : tie.Need-overflow_add-from
add_window c = omega (arith, c.requires, ap (λ (k : ℕ). c.args.index * k) c.plain_size.ensures.0)

window_requires : tie.Need-window-bytes-requires
window_requires c κs = omega (arith, c.requires, ap (λ (k : ℕ). c.args.index * k) c.plain_size.ensures.0)

-- the window's place, by the size of a plain WRITE
placed : (w : tie.After-window-bytes)
    → w.args.from + w.args.index * plain_size w.args.version
    ≡ w.args.from + w.args.index * w.plain_size.result
placed w =
    let a = w.args in
    omega (arith, ap (λ (k : ℕ). a.index * k) w.plain_size.ensures.0)

returns : tie.Need-returns-then-version-eq1
unfolding plain_write plain_value decoded_item
returns c =
    let w = c.before.before in
    rw (placed w, eq-eqb _ _ c.if-version-eq1.true, c.decode_record-record.ensures, w.window-bytes.ensures)

returns_2 : tie.Need-returns
unfolding plain_write plain_value decoded_item decoded_operation
returns_2 c =
    let w = c.before.before.before.before.before in
    rw (
      placed w,
      ne_eqb _ _ c.if-version-eq1.false,
      c.write_value_in.ensures,
      c.address_in.ensures,
      c.target_in.ensures,
      c.address_width-width.ensures.0,
      w.window-bytes.ensures,
    )

pub nth_write_spec : {M : Type 1} → statement M
nth_write_spec = tie.close (tie.spec (search rules) mul_window add_window window_requires (search rules) returns (search rules) (search rules) (search rules) (search rules) returns_2)
