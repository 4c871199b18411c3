-- The file's check answers, and for an accepted file the version of its header.
use Rattle.base_format.proofs.Answered.{passed_on, refused_first}
use Rattle.check_file.proofs.Answers.{accepted_as_lem, refused_as_lem}
use Rattle.check_version.proofs.Answers.{version_accepted, version_none}
use Rattle.check_version.proofs.check_version.Goals as goal

pub returns-in_err-checked : goal.returns-in_err-checked
returns-in_err-checked c =
    rw (passed_on _ _ c.from_residual.ensures.1, version_none c.args.version c.args.file.now _ _ (refused_as_lem c.args.file.now _ c.in_err-checked.ensures))

pub returns-in_err-refuse : goal.returns-in_err-refuse
returns-in_err-refuse c =
    let a = accepted_as_lem c.args.file.now c.in_ok-checked.ensures in
    rw (passed_on _ _ c.from_residual-in_err-refuse.ensures.1, version_accepted c.args.version c.args.file.now a.stream a.reads, ← a.header_is)
    (refused_first _ _ c.in_err-refuse.ensures)

pub returns : goal.returns
returns c =
    let a = accepted_as_lem c.args.file.now c.in_ok-checked.ensures in
    rw (version_accepted c.args.version c.args.file.now a.stream a.reads, ← a.header_is, ← c.in_ok-refuse.ensures)
