-- The version and the order of the PCM records decide.
use Rattle.std.proofs.Common.{sym, arith}
use Rattle.base_format.specs.declared.rule.Rule.TheVariants.{OtherVersion, PcmOrder}
use Rattle.repack_ordered.proofs.Answers.{refuses, lies}
use Rattle.repack.proofs.Stages.{other_version, out_of_order}
use Rattle.repack.proofs.song.repack_accepted.Goals as goal

pub returns-then-header-ne-MASTER_VERSION : goal.returns-then-header-ne-MASTER_VERSION
returns-then-header-ne-MASTER_VERSION c =
    refuses c.args.file.now c.args.buffer.now (record { rule = OtherVersion; place = 0 }) (other_version c.requires _ (omega arith))

pub pcm_run-requires : goal.pcm_run-requires
pcm_run-requires c = (lies c.requires (omega arith)).opening_fits

pub returns-in-None : goal.returns-in-None
returns-in-None c =
    refuses c.args.file.now c.args.buffer.now (record { rule = PcmOrder; place = 0 }) (out_of_order c.requires (omega arith) _ (sym c.in-None.ensures))
