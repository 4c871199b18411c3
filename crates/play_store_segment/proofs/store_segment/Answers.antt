-- What is stored fits, each turn stores the next record, and behind the last the whole segment stands.
use Rattle.std.proofs.Common.{arith, sym, ◌∙◌, ap, ◌≡◌, ◌<◌, ℕ, ◌+◌, length, cond, subst}
use Rattle.base_format.specs.Bytes.{byte}
use Rattle.play_store_segment.specs.declared.Segment.{Segment}
use Rattle.play_store_segment.specs.Segment.{fitting}
use Rattle.play_store_segment.proofs.Segments.{Fitting, fitting_fits, value_at, record_next, stored_is}
use Rattle.play_store_segment.proofs.store_segment.Goals as goal
use Rattle.play_store_segment.proofs.store_segment.Goals.{then-segment, else-segment}

-- what is stored fits, while there is more to do
fits : (room at size n i : ℕ) (segment : Segment) → n ≡ fitting room at size segment → i < n → Fitting room at size segment n
fits room at size n i segment is less = subst (Fitting room at size segment) (sym is) (fitting_fits room at size segment (omega (arith, is, less)))

pub overflow_add-value : goal.overflow_add-value
overflow_add-value c = let f = fits _ _ _ _ _ _ c.fitting-count.ensures c.loop-i-test.true in omega (arith, f.bytes c.if-segment.true)

pub bounds-file-segment : goal.bounds-file-segment
bounds-file-segment c = let f = fits _ _ _ _ _ _ c.fitting-count.ensures c.loop-i-test.true in omega (arith, f.bytes c.if-segment.true)

pub overflow_cast-run : goal.overflow_cast-run
overflow_cast-run c = let f = fits _ _ _ _ _ _ c.fitting-count.ensures c.loop-i-test.true in omega (arith, f.addresses)

pub overflow_add-run : goal.overflow_add-run
overflow_add-run c = let f = fits _ _ _ _ _ _ c.fitting-count.ensures c.loop-i-test.true in omega (arith, f.addresses)

pub overflow_add-at : goal.overflow_add-at
overflow_add-at c = let f = fits _ _ _ _ _ _ c.fitting-count.ensures c.loop-i-test.true in omega (arith, f.inside)

pub offset_bounds-run-at : goal.offset_bounds-run-at
offset_bounds-run-at c = let f = fits _ _ _ _ _ _ c.fitting-count.ensures c.loop-i-test.true in omega (arith, f.inside)

pub bounds-run-at : goal.bounds-run-at
bounds-run-at c = let f = fits _ _ _ _ _ _ c.fitting-count.ensures c.loop-i-test.true in omega (arith, f.inside)

pub loop-i-preserved : goal.loop-i-preserved
loop-i-preserved c =
    let a = c.args in
    let less : c.loop-i.i < fitting (length a.run.now) a.at (length a.file.now) a.segment = omega (arith, c.fitting-count.ensures) in
    let value : c.if-segment.value ≡ value_at a.file.now a.segment c.loop-i.i = elim c.if-segment.branch [
      | then-segment w ↦ w.value-is ∙ sym (ap (λ b. cond b (byte a.file.now (a.segment.from + c.loop-i.i)) a.segment.value) w.if-segment.true)
      | else-segment w ↦ w.value-is ∙ sym (ap (λ b. cond b (byte a.file.now (a.segment.from + c.loop-i.i)) a.segment.value) w.if-segment.false)
    ] in
    rw (value, c.loop-i.invariant) (record_next a.file.now a.segment a.at a.run.now c.loop-i.i less)

pub returns : goal.returns
returns c =
    let a = c.args in
    let all : c.loop-i.i ≡ fitting (length a.run.now) a.at (length a.file.now) a.segment = omega (arith, c.fitting-count.ensures) in
    c.loop-i.invariant ∙ rw all (stored_is a.file.now a.segment a.at a.run.now)
