-- What was measured is the size of the result: the two limits decide, and else it is written.
use native.Mathlib.Omega.{arith}
use lib.ListN.{replicate}
use Rattle.base_format.specs.declared.rule.Rule.TheVariants.{ResultSize, LentSize}
use Rattle.repack_wave_table.proofs.Table.{no_waves}
use Rattle.repack_measure.proofs.Noted.{none_noted}
use Rattle.repack_ordered.proofs.Answers.{refuses, writes, here, known_of, long_result, short_room, the_result}
use Rattle.repack_layout.proofs.Made.{pcm_few, total_is}
use Rattle.repack_ordered.proofs.repack_measured.Goals as goal

pub overflow_mul-start : goal.overflow_mul-start
overflow_mul-start c = omega (arith, (here c.requires).opening_fits)

pub overflow_add-start : goal.overflow_add-start
overflow_add-start c = omega (arith, (here c.requires).opening_fits)

pub measure_frames-found-requires : goal.measure_frames-found-requires
measure_frames-found-requires c =
    let lies = here c.requires in
    (no_waves c.args.file.now, none_noted c.args.file.now (replicate 11468 0), lies.frames_fit, lies.small)

pub lay_out-layout-requires : goal.lay_out-layout-requires
lay_out-layout-requires c =
    let known = known_of c.requires c.measure_frames-found.ensures.0 in
    (pcm_few known, omega (arith, known.opening_fits, known.small), known.measured.few, known.measured.small)

pub returns-then-layout : goal.returns-then-layout
returns-then-layout c =
    let total = total_is (known_of c.requires c.measure_frames-found.ensures.0) c.lay_out-layout.ensures in
    refuses c.args.file.now c.args.buffer.now (record { rule = ResultSize; place = 0 }) (long_result c.requires _ (omega (arith, total, c.if-layout.true)))

pub returns-then-buffer-layout : goal.returns-then-buffer-layout
returns-then-buffer-layout c =
    let total = total_is (known_of c.requires c.measure_frames-found.ensures.0) c.lay_out-layout.ensures in
    refuses c.args.file.now c.args.buffer.now (record { rule = LentSize; place = 0 }) (short_room c.requires _ (omega (arith, total, c.if-layout.false)) (omega (arith, total, c.if-buffer-layout.true)))

pub write_master-requires : goal.write_master-requires
write_master-requires c =
    (known_of c.requires c.measure_frames-found.ensures.0, c.lay_out-layout.ensures, c.if-layout.false, c.if-buffer-layout.false)

pub returns : goal.returns
returns c =
    let total = total_is (known_of c.requires c.measure_frames-found.ensures.0) c.lay_out-layout.ensures in
    writes c.args.file.now c.args.buffer.now _ _ _ (the_result c.requires _ (omega (arith, total, c.if-layout.false)) (omega (arith, total, c.if-buffer-layout.false))) total c.if-buffer-layout.false c.write_master.ensures
