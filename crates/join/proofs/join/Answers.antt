-- The first file that is refused is the answer and leaves the buffer, else the answer is that for two headers.
use Rattle.std.proofs.Common.{◌≡◌, sym, length}
use Rattle.base_format.specs.Rule.{number_of}
use Rattle.join_stream.specs.Join.{in_first, in_second}
use Rattle.join.proofs.Answers.{told_ok, told_err, passed_error, refuses, first_refused, second_refused}
use Rattle.join.specs.declared.JoinError.TheVariants.{First, Second}
use Rattle.join.proofs.join.Goals as goal

pub returns-in_err-header : goal.returns-in_err-header
returns-in_err-header c =
    let a = c.args in
    let t = told_err _ c.check_version.result c.map_err.result c.in_err-header.field-0.0 c.check_version.ensures c.map_err.ensures.cases c.in_err-header.was in
    let is = passed_error c.from_residual.result c.in_err-header.field-0.0 (First t.0) c.from_residual.ensures.1 t.2 in
    refuses a.first.now a.second.now a.buffer.now _ in_first (number_of t.0.rule) t.0.place (first_refused a.first.now a.second.now (length a.buffer.now) _ _ t.1) is

pub returns-in_err-second_header : goal.returns-in_err-second_header
returns-in_err-second_header c =
    let a = c.args in
    let first = told_ok _ c.check_version.result c.map_err.result c.in_ok-header.header c.check_version.ensures c.map_err.ensures.cases c.in_ok-header.was in
    let t = told_err _ c.check_version-2.result c.map_err-2.result c.in_err-second_header.field-0.0 c.check_version-2.ensures c.map_err-2.ensures.cases c.in_err-second_header.was in
    let is = passed_error c.from_residual-in_err-second_header.result c.in_err-second_header.field-0.0 (Second t.0) c.from_residual-in_err-second_header.ensures.1 t.2 in
    refuses a.first.now a.second.now a.buffer.now _ in_second (number_of t.0.rule) t.0.place (second_refused a.first.now a.second.now (length a.buffer.now) _ _ _ first t.1) is

pub join_accepted-requires : goal.join_accepted-requires
join_accepted-requires c = (
  told_ok _ c.check_version.result c.map_err.result c.in_ok-header.header c.check_version.ensures c.map_err.ensures.cases c.in_ok-header.was,
  told_ok _ c.check_version-2.result c.map_err-2.result c.in_ok-second_header.second_header c.check_version-2.ensures c.map_err-2.ensures.cases c.in_ok-second_header.was,
)
