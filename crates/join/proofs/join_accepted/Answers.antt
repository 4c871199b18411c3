-- `join::join_accepted` meets its contract: each test that is not passed is the answer, in the order of the definition; else the result is written.
use borrow.Author.Rules.{rules}
use native.Mathlib.Omega.{arith}
use Rattle.join.proofs.Answers.{headers_room, by_29, by_30, by_23, by_24, writable, writes}
use Rattle.join.proofs.join_accepted.Goals as goal

pub returns-then-operations-gt-FRAME_MOST : goal.returns-then-operations-gt-FRAME_MOST
returns-then-operations-gt-FRAME_MOST c =
    let a = c.args in
    by_29 a.first.now a.second.now a.header a.second_header c.requires (λ i. (c.shared_slice_known-1.given i).fits) (λ i. (c.shared_slice_known-2-1.given i).fits) _
    c.read_u16-frame.ensures a.buffer.now c.if-operations-gt-FRAME_MOST.true c.refused.ensures

pub returns-then-pools-gt-POOLS_MOST : goal.returns-then-pools-gt-POOLS_MOST
returns-then-pools-gt-POOLS_MOST c =
    let a = c.args in
    by_30 a.first.now a.second.now a.header a.second_header c.requires (λ i. (c.shared_slice_known-1.given i).fits) (λ i. (c.shared_slice_known-2-1.given i).fits) _
    c.read_u16-frame.ensures a.buffer.now c.if-operations-gt-FRAME_MOST.false c.if-pools-gt-POOLS_MOST.true c.refused-then-pools-gt-POOLS_MOST.ensures

pub overflow_sub-size : goal.overflow_sub-size
overflow_sub-size c =
    let a = c.args in
    omega (
      arith,
      headers_room a.first.now a.second.now a.header a.second_header c.requires (λ i. (c.shared_slice_known-1.given i).fits) (λ i. (c.shared_slice_known-2-1.given i).fits) _
          c.read_u16-frame.ensures a.buffer.now,
    )

pub returns-then-size : goal.returns-then-size
returns-then-size c =
    let a = c.args in
    by_23 a.first.now a.second.now a.header a.second_header c.requires (λ i. (c.shared_slice_known-1.given i).fits) (λ i. (c.shared_slice_known-2-1.given i).fits) _
    c.read_u16-frame.ensures a.buffer.now c.if-operations-gt-FRAME_MOST.false c.if-pools-gt-POOLS_MOST.false c.if-size.true c.refused-then-size.ensures

pub returns-then-buffer-size : goal.returns-then-buffer-size
returns-then-buffer-size c =
    let a = c.args in
    by_24 a.first.now a.second.now a.header a.second_header c.requires (λ i. (c.shared_slice_known-1.given i).fits) (λ i. (c.shared_slice_known-2-1.given i).fits) _
    c.read_u16-frame.ensures a.buffer.now
    c.if-operations-gt-FRAME_MOST.false c.if-pools-gt-POOLS_MOST.false c.if-size.false c.if-buffer-size.true c.refused-then-buffer-size.ensures

pub write_joined-requires : goal.write_joined-requires
write_joined-requires c =
    let a = c.args in
    writable a.first.now a.second.now a.header a.second_header c.requires (λ i. (c.shared_slice_known-1.given i).fits) (λ i. (c.shared_slice_known-2-1.given i).fits) _
    c.read_u16-frame.ensures a.buffer.now c.if-operations-gt-FRAME_MOST.false c.if-pools-gt-POOLS_MOST.false c.if-size.false c.if-buffer-size.false

pub returns : goal.returns
returns c =
    let a = c.args in
    writes a.first.now a.second.now a.header a.second_header c.requires (λ i. (c.shared_slice_known-1.given i).fits) (λ i. (c.shared_slice_known-2-1.given i).fits) _
    c.read_u16-frame.ensures a.buffer.now
    c.if-operations-gt-FRAME_MOST.false c.if-pools-gt-POOLS_MOST.false c.if-size.false c.if-buffer-size.false c.write_joined.ensures
