-- Before each turn `value` has less than four bytes (`be_within`), and the turn adds one (`be_next`).
use Rattle.std.proofs.Common.{◌≡◌, rules, refl, arith}
use Rattle.base_format.specs.Bytes.{be}
use Rattle.base_format.proofs.Bytes.{be_next, be_within, be_below}
use Rattle.bytes_load.proofs.load_each.Goals as goal

pub loop-i-init : goal.loop-i-init
unfolding be
loop-i-init g c = refl

pub overflow_mul-value : goal.overflow_mul-value
overflow_mul-value g c = search (rules, be_within 3 {width = c.loop-i.i} c.args.file.now c.args.at (λ i. (c.type_inv.file i).fits) (omega arith))

pub overflow_add-value-in-loop-i : goal.overflow_add-value-in-loop-i
overflow_add-value-in-loop-i g c = omega (arith, be_within 3 {width = c.loop-i.i} c.args.file.now c.args.at (λ i. (c.type_inv.file i).fits) (omega arith))

pub loop-i-preserved : goal.loop-i-preserved
loop-i-preserved g c = omega (arith, be_next c.loop-i.i c.args.file.now c.args.at)

pub returns : goal.returns
returns g c =
    let a = c.args in
    let all : g.row.WIDTH ≡ c.loop-i.i = omega arith in
    let is : c.loop-i.value ≡ be g.row.WIDTH a.file.now a.at = rw all c.loop-i.invariant in
    (is, rw is (be_below g.row.WIDTH a.file.now a.at (λ i. (c.type_inv.file i).fits)))
