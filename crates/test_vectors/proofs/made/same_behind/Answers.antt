-- The library's comparison of the two parts is one of what lies behind the place.
use Rattle.std.proofs.Common.{IsTrue, subst, rules}
use Rattle.test_vectors.proofs.Fronts.{equal_behind}
use Rattle.test_vectors.proofs.made.same_behind.Goals as goal

pub returns : goal.returns
returns c = λ same. equal_behind c.args.a.now c.args.b.now c.args.at (subst IsTrue c.eq.ensures same)
