-- With 256 records left the tests decide.
use Prim.Native.Nat.{◌+◌, ◌-◌}
use mathlib.Core.Path.{◌≡◌, sym, ◌∙◌}
use native.Mathlib.Nat.{add-zero}
use native.Mathlib.Omega.{arith}
use borrow.Author.Rules.{rules}
use borrow.Author.Tests.{eq-eqb, ne_eqb, lt-ltb, le-ltb}
use lib.ListN.{drop, length-drop}
use lib.Seq.{length-take-le}
use Rattle.base_format.specs.Bytes.{part}
use Rattle.base_master.specs.Places.{records_at}
use Rattle.repack_wave_run.proofs.Heads.{records_part}
use Rattle.base_master.proofs.Pieces.{starts_short, starts_is}
use Rattle.repack_wave_run.proofs.starts_wave.Statement.{statement}
use Rattle.repack_wave_run.proofs.starts_wave.Tie as tie

returns_2 : tie.Need-returns-then-target-ge2
returns_2 c =
    let a = c.args in
    rw (starts_is a.file.now a.left a.at (omega arith), le-ltb _ _ c.if-target-ge2.true)

returns_4 : tie.Need-returns-then-address-ne0
returns_4 c =
    let a = c.args in
    rw (starts_is a.file.now a.left a.at (omega arith), ← c.read_address-address.ensures, lt-ltb _ _ c.if-target-ge2.false, lt-ltb c.read_address-address.result 2048 (omega arith), ne_eqb _ _ c.if-address-ne0.true)

runs_on_requires : tie.Need-runs_on-requires
runs_on_requires c κs =
    let a = c.args in
    let size : a.at + 1280 - a.at ≡ 1280 = omega arith in
    (rw size (length-take-le 1280 (drop a.at a.file.now) (rw length-drop (omega arith))), c.if-target-ge2.false, omega arith)

returns_5 : tie.Need-returns
returns_5 c =
    let a = c.args in
    let size : a.at + 1280 - a.at ≡ 1280 = omega arith in
    let here : records_at (part a.file.now a.at 1280) 256 0 ≡ records_at a.file.now 256 a.at = records_part a.file.now a.at 1280 256 0 (omega arith) ∙ rw add-zero in
    rw (
      starts_is a.file.now a.left a.at (omega arith),
      ← c.read_address-address.ensures,
      lt-ltb _ _ c.if-target-ge2.false,
      lt-ltb c.read_address-address.result 2048 (omega arith),
      eq-eqb _ _ c.if-address-ne0.false,
      ← here,
    ) (rw size at c.runs_on.ensures)

pub starts_wave_spec : {M : Type 1} → statement M
starts_wave_spec =
    tie.close
    (tie.spec (λ c. sym (starts_short c.args.file.now c.args.left c.args.at (omega arith))) (search rules) returns_2 (search rules) (search rules)
    (λ c.
    let a = c.args in
    rw (starts_is a.file.now a.left a.at (omega arith), ← c.read_address-address.ensures, lt-ltb _ _ c.if-target-ge2.false, le-ltb c.read_address-address.result 2048 (omega arith)))
    returns_4 (search rules) (search rules) (search rules) (search rules) runs_on_requires returns_5)
