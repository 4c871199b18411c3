-- A turn copies one byte more; behind the last one all are copied.
use Rattle.std.proofs.Common.{◌≡◌, ◌+◌, ◌<◌, ◌≤◌, length, List, ℕ, [], ◌∷◌, ◌++◌, refl, sym, ap, ◌∙◌, arith}
use Rattle.std.proofs.Math.ListN.{take, get_or, length-set}
use Rattle.std.proofs.Math.Seq.{take_all, take-suc, take-suc-set}
use native.Mathlib.Numerals.{add-one}
use Rattle.bytes_copy.proofs.copy_all.Goals as goal

pub loop-i-preserved : goal.loop-i-preserved
loop-i-preserved c =
    let l = c.loop-i in
    let from = c.args.from.now in
    let value = get_or from l.i 0 in
    let less : l.i < length from = omega arith in (
      rw add-one (
          take-suc-set l.to l.i value (omega (arith, less, l.invariant.1))
          ∙ ap (λ (bytes : List ℕ). bytes ++ (value ∷ [])) l.invariant.0
          ∙ sym (take-suc from l.i 0 less)
          ),
      length-set l.to l.i value ∙ l.invariant.1,
    )

pub returns : goal.returns
returns c =
    let l = c.loop-i in
    let from = c.args.from.now in
    let all : length from ≤ l.i = omega arith in
    sym (take_all l.i l.to (omega (arith, l.invariant.1))) ∙ l.invariant.0 ∙ take_all l.i from all
