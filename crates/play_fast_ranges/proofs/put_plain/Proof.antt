-- `play_fast_ranges::put_plain` meets its contract: in arrays of 0 its stores give the ranges of `target_of` without cards, by the version.
use native.Mathlib.Omega.{arith}
use borrow.Author.Tests.{eq-eqb, ne_eqb}
use Rattle.play_fast_ranges.proofs.Plain.{plain_bank, plain_si22, plain_else}
use Rattle.play_fast_ranges.proofs.put_plain.Statement.{statement}
use Rattle.play_fast_ranges.proofs.put_plain.Tie as tie

put_target_requires : tie.Need-put_target-requires
put_target_requires c κs = (omega arith, rw c.requires.0, rw c.requires.1)

put_target_requires_2 : tie.Need-put_target-requires-2
put_target_requires_2 c κs =
    (omega arith, simp (c.put_target.ensures.0, c.requires.0), simp (c.put_target.ensures.1, c.requires.1))

put_target_requires_3 : tie.Need-put_target-requires-3
put_target_requires_3 c κs =
    (omega arith, simp (c.put_target-2.ensures.0, c.put_target.ensures.0, c.requires.0), simp (c.put_target-2.ensures.1, c.put_target.ensures.1, c.requires.1))

put_target_requires_4 : tie.Need-put_target-requires-then-version-eq3
put_target_requires_4 c κs =
    (omega arith, simp (c.put_target-3.ensures.0, c.put_target-2.ensures.0, c.put_target.ensures.0, c.requires.0), simp (c.put_target-3.ensures.1, c.put_target-2.ensures.1, c.put_target.ensures.1, c.requires.1))

returns : tie.Need-returns-then-version-eq3
returns c =
    let is = plain_bank c.args.version (eq-eqb _ _ c.if-version-eq3.true) in (
      rw (c.put_target-then-version-eq3.ensures.0, c.put_target-3.ensures.0, c.put_target-2.ensures.0, c.put_target.ensures.0, c.requires.0) is.0,
      rw (c.put_target-then-version-eq3.ensures.1, c.put_target-3.ensures.1, c.put_target-2.ensures.1, c.put_target.ensures.1, c.requires.1) is.1,
    )

put_target_requires_5 : tie.Need-put_target-requires-then-version-eq4
put_target_requires_5 c κs =
    (omega arith, simp (c.put_target-3.ensures.0, c.put_target-2.ensures.0, c.put_target.ensures.0, c.requires.0), simp (c.put_target-3.ensures.1, c.put_target-2.ensures.1, c.put_target.ensures.1, c.requires.1))

returns_2 : tie.Need-returns-then-version-eq4
returns_2 c =
    let is = plain_si22 c.args.version (ne_eqb _ _ c.if-version-eq3.false) (eq-eqb _ _ c.if-version-eq4.true) in (
      rw (c.put_target-then-version-eq4.ensures.0, c.put_target-3.ensures.0, c.put_target-2.ensures.0, c.put_target.ensures.0, c.requires.0) is.0,
      rw (c.put_target-then-version-eq4.ensures.1, c.put_target-3.ensures.1, c.put_target-2.ensures.1, c.put_target.ensures.1, c.requires.1) is.1,
    )

returns_3 : tie.Need-returns-else-version-eq4
returns_3 c =
    let is = plain_else c.args.version (ne_eqb _ _ c.if-version-eq3.false) (ne_eqb _ _ c.if-version-eq4.false) in
    (rw (c.put_target-3.ensures.0, c.put_target-2.ensures.0, c.put_target.ensures.0, c.requires.0) is.0, rw (c.put_target-3.ensures.1, c.put_target-2.ensures.1, c.put_target.ensures.1, c.requires.1) is.1)

pub put_plain_spec : {M : Type 1} → statement M
put_plain_spec = tie.close (tie.spec put_target_requires put_target_requires_2 put_target_requires_3 put_target_requires_4 returns put_target_requires_5 returns_2 returns_3)
