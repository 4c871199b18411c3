-- The fronts of both memories are as long as the room, and agree behind what is made.
use Rattle.std.proofs.Common.{rules, arith, ◌≡◌, ◌≤◌, length, replicate, drop, sym, ap, ◌∙◌}
use Rattle.test_vectors.proofs.Fronts.{front, fronts}
use Rattle.test_vectors.proofs.made.lend.Goals as goal

pub returns : goal.returns
returns c =
    let a = c.args in
    let most = length a.expected.items in
    let bytes = c.in_ok-bytes.bytes.items in
    let lent : bytes ≡ replicate most 0xA5 = search rules in
    let same : drop a.made a.expected.items ≡ drop a.made bytes = search rules in
    let few : a.room ≤ most = omega arith in
    let fit : a.made ≤ a.room = omega arith in
    (c.truncate.ensures.items ∙ front most a.room bytes lent few, ap (drop a.made) c.truncate-2.ensures.items ∙ fronts most a.room a.made bytes a.expected.items lent same few fit)
