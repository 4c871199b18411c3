-- `compare::whole::compare_headers` meets its contract: an image that is too short is refused and both stay, else the images are drawn in
-- front of what is lent beyond them.
use borrow.Author.Rules.{rules}
use native.Mathlib.Omega.{arith}
use mathlib.Core.Path.{refl, sym, ap}
use lib.ListN.{take}
use lib.Seq.{length-take-le}
use Rattle.base_format.specs.declared.rule.Refusal.{Refusal}
use Rattle.base_format.specs.Compare.{refused_file}
use Rattle.base_format.specs.Rule.{number_of}
use Rattle.compare.proofs.Answers.{fits, with_short_master, with_short_other, with_images}
use Rattle.compare.proofs.whole.compare_headers.Goals as goal

pub returns-then-master_image-size : goal.returns-then-master_image-size
returns-then-master_image-size c =
    let a = c.args in
    let is = ap (λ (x : Refusal). refused_file 1 (number_of x.rule) x.place) c.too_short.ensures in
    with_short_master a.master.now a.other.now a.header a.other_header c.requires a.master_image.now a.other_image.now
    (omega (arith, c.if-master_image-size.true, c.image_size-size.ensures)) _ is

pub returns-then-other_image-size : goal.returns-then-other_image-size
returns-then-other_image-size c =
    let a = c.args in
    let is = ap (λ (x : Refusal). refused_file 2 (number_of x.rule) x.place) c.too_short-then-other_image-size.ensures in
    with_short_other a.master.now a.other.now a.header a.other_header c.requires a.master_image.now a.other_image.now
    (omega (arith, c.if-master_image-size.false, c.image_size-size.ensures)) (omega (arith, c.if-other_image-size.true, c.image_size-size.ensures)) _ is

pub slice_bounds-compare_accepted-end-2 : goal.slice_bounds-compare_accepted-end-2
slice_bounds-compare_accepted-end-2 c =
    let a = c.args in
    sym (length-take-le c.image_size-size.result a.master_image.now c.if-master_image-size.false)

pub slice_bounds-compare_accepted-end-4 : goal.slice_bounds-compare_accepted-end-4
slice_bounds-compare_accepted-end-4 c =
    let a = c.args in
    sym (length-take-le c.image_size-size.result a.other_image.now c.if-other_image-size.false)

pub compare_accepted-requires : goal.compare_accepted-requires
compare_accepted-requires c =
    let a = c.args in
    fits a.master.now a.other.now a.header a.other_header c.requires

pub returns : goal.returns
returns c =
    let a = c.args in
    let n = c.image_size-size.result in
    let is = c.image_size-size.ensures in
    let image = a.master_image.now in
    let image' = a.other_image.now in
    let long = length-take-le n image c.if-master_image-size.false in
    let long' = length-take-le n image' c.if-other_image-size.false in
    with_images a.master.now a.other.now a.header a.other_header c.requires image image' (omega (arith, c.if-master_image-size.false, is)) (omega (arith, c.if-other_image-size.false, is))
    n (take n image) (take n image') _ _ _ is long long' c.compare_accepted.ensures _ refl
