-- The header of an accepted file is that of `header_of`, and a refusal is that of `read`.
use Rattle.std.proofs.Common.{ap}
use Rattle.base_format.specs.declared.header.Header.{Header}
use Rattle.base_format.specs.Checked.{ok}
use Rattle.base_format.proofs.Answered.{passed_on}
use Rattle.check_file.proofs.Answers.{accepted_as_lem, refused_as_lem}
use Rattle.check_pool_entry.specs.Entry.{entry_of}
use Rattle.check_pool_lookup.proofs.find_pool.Goals as goal

pub returns-in_err-checked : goal.returns-in_err-checked
returns-in_err-checked c = rw (passed_on _ _ c.from_residual.ensures.1, refused_as_lem c.args.file.now _ c.in_err-checked.ensures)

pub returns : goal.returns
returns c =
    let s = c.args in
    let a = accepted_as_lem s.file.now c.in_ok-checked.ensures in
    rw (a.reads, c.entry_of.ensures) (ap (λ (h : Header). ok (entry_of s.file.now h s.id)) a.header_is)
