-- The first file that is refused is the answer and leaves the images, else the answer is that for two headers.
use Rattle.std.proofs.Common.{◌≡◌, sym, length}
use Rattle.base_format.specs.Rule.{number_of}
use Rattle.check_version.proofs.Answers.{has}
use Rattle.compare.proofs.Answers.{told_ok, told_err, passed_error, refused_with, master_refused, other_refused}
use Rattle.compare.specs.declared.whole.CompareError.TheVariants.{Master, Other}
use Rattle.compare.proofs.whole.compare.Goals as goal

pub returns-in_err-header : goal.returns-in_err-header
returns-in_err-header c =
    let a = c.args in
    let image = length a.master_image.now in
    let image' = length a.other_image.now in
    let t = told_err _ c.check_version.result c.map_err.result c.in_err-header.field-0.0 c.check_version.ensures c.map_err.ensures.cases c.in_err-header.was in
    let is = passed_error c.from_residual.result c.in_err-header.field-0.0 (Master t.0) c.from_residual.ensures.1 t.2 in
    refused_with a.master.now a.other.now a.master_image.now a.other_image.now _ 1 (number_of t.0.rule) t.0.place is (master_refused a.master.now a.other.now image image' _ _ t.1)

pub returns-in_err-other_header : goal.returns-in_err-other_header
returns-in_err-other_header c =
    let a = c.args in
    let image = length a.master_image.now in
    let image' = length a.other_image.now in
    let m = has 1 a.master.now _ (told_ok _ c.check_version.result c.map_err.result c.in_ok-header.header c.check_version.ensures c.map_err.ensures.cases c.in_ok-header.was) in
    let t = told_err _ c.check_version-2.result c.map_err-2.result c.in_err-other_header.field-0.0 c.check_version-2.ensures c.map_err-2.ensures.cases c.in_err-other_header.was in
    let is = passed_error c.from_residual-in_err-other_header.result c.in_err-other_header.field-0.0 (Other t.0) c.from_residual-in_err-other_header.ensures.1 t.2 in
    refused_with a.master.now a.other.now a.master_image.now a.other_image.now _ 2 (number_of t.0.rule) t.0.place is (other_refused a.master.now a.other.now image image' _ m _ _ t.1)

pub compare_headers-requires : goal.compare_headers-requires
compare_headers-requires c = (
  told_ok _ c.check_version.result c.map_err.result c.in_ok-header.header c.check_version.ensures c.map_err.ensures.cases c.in_ok-header.was,
  told_ok _ c.check_version-2.result c.map_err-2.result c.in_ok-other_header.other_header c.check_version-2.ensures c.map_err-2.ensures.cases c.in_ok-other_header.was,
)
