-- It is the answer of `find_pool` as numbers; they name the pool's kind and payload.
use Rattle.std.proofs.Common.{ap, ◌∙◌}
use Rattle.base_format.specs.Bytes.{part}
use Rattle.sgub_answers.specs.declared.pool.SgubPool.{SgubPool}
use Rattle.sgub_answers.specs.Surface.{pool_on}
use Rattle.sgub_answers.proofs.Pools.{payload_told, kind_told}
use Rattle.sgub.proofs.sgub_pool.Goals as goal

pub returns : goal.returns
returns c =
    let a = c.args in
    let file = a.file.now in
    let is = c.pool_of.ensures ∙ ap pool_on c.find_pool.ensures in (
      is,
      ap (λ (r : SgubPool). r.kind) is ∙ kind_told file a.id,
      ap (λ (r : SgubPool). part file r.offset r.size) is ∙ payload_told file a.id,
    )
