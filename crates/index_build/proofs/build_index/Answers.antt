-- A refused file is refused alike, and an accepted one's index is built.
use Rattle.std.proofs.Common.{arith, ap, ◌∙◌, length}
use Rattle.base_format.specs.declared.header.Header.{Header}
use Rattle.base_format.proofs.Accepted.{accepted}
use Rattle.base_format.proofs.Answered.{passed_on}
use Rattle.check_file.proofs.Answers.{accepted_as_lem, refused_as_lem}
use Rattle.index_build.specs.Answer.{built_into}
use Rattle.index_build.proofs.Answers.{refuses, same_into, not_read, built_into_lem}
use Rattle.index_build.proofs.build_index.Goals as goal

pub returns-in_err-checked : goal.returns-in_err-checked
returns-in_err-checked c =
    let a = c.args in
    let found = refused_as_lem a.file.now _ c.in_err-checked.ensures in
    rw (passed_on _ _ c.from_residual.ensures.1) (refuses a.buffer.now _ _ (not_read a.file.now (length a.buffer.now) _ _ found))

pub build_accepted-requires : goal.build_accepted-requires
build_accepted-requires c =
    let a = c.args in
    let found = accepted_as_lem a.file.now c.in_ok-checked.ensures in
    let acc = (accepted a.file.now found.stream found.reads).0 in
    omega (arith, ap (λ (h : Header). h.frame_start) found.header_is, acc.first_within, acc.size, acc.small)

pub returns : goal.returns
returns c =
    let a = c.args in
    let found = accepted_as_lem a.file.now c.in_ok-checked.ensures in
    let room = length a.buffer.now in
    let own = ap (λ (h : Header). built_into h a.file.now room) found.header_is in
    same_into _ a.buffer.now _ (own ∙ built_into_lem a.file.now found.stream found.reads room) c.build_accepted.ensures
