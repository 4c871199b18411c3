-- The loop's invariant: the pieces still to write, behind those that stand, are the whole.
use Prim.Native.Nat.{ℕ, ◌+◌, ◌-◌, ◌*◌, ◌≤◌, ◌<◌}
use mathlib.Core.Path.{◌≡◌, refl, sym, ap, ◌∙◌}
use mathlib.Core.Bool.{true, false}
use Rattle.repack_put_frames.proofs.put_pieces.Lts.{then-noted_place-from, else-noted_place-from}
use native.Mathlib.Omega.{arith}
use borrow.Author.Rules.{rules}
use lib.ListN.{length, get_or}
use Rattle.base_format.specs.Bytes.{byte, be}
use Rattle.base_format.specs.declared.operation.Operation.TheVariants.{Copy}
use Rattle.base_format.specs.Operation.{size_of}
use Rattle.base_format.specs.Repack.{starts_wave}
use Rattle.base_format.specs.Written.{item_bytes}
use Rattle.base_master.specs.Places.{record_of, records_at}
use Rattle.base_master.specs.Result.{piece_count}
use Rattle.base_master.specs.Uses.{uses_at, Marked, pieces_by}
use Rattle.base_master.proofs.Counted.{pieces_few}
use Rattle.base_master.proofs.Numbered.{by_none, by_wave, by_single, by_wave_size, by_single_size}
use Rattle.base_master.proofs.Pieces.{wave_long}
use Rattle.base_master.proofs.Result.{pieces_none, pieces_wave, pieces_single, write_size, copy_size}
use Rattle.base_master.proofs.Uses.{uses_none, uses_wave, uses_single, marked_starts, unmarked_starts, behind_wave, behind_single}
use Rattle.bytes_put_fields.proofs.Writing.{Writing, starts, wrote, ends}
use Rattle.repack_put_frames.proofs.put_pieces.Statement.{statement}
use Rattle.repack_put_frames.proofs.put_pieces.Tie as tie

abbrev invariant_loop : tie.invariant-loop-left
invariant_loop file start count base spots numbers used buffer₀ at write copy from₀ left₀ place₀ pieces₀ uses₀ buffer from left place pieces uses =
    (from + left * 5 ≡ start + count * 5)
    × (start ≤ from)
    × (piece_count file count start ≡ pieces + piece_count file left from)
    × (used + length (uses_at file count start) ≡ uses + length (uses_at file left from))
    × Marked file spots uses left from
    × Writing (pieces_by numbers base used file count start) at buffer₀ (pieces_by numbers base uses file left from) place buffer

abbrev decreases_loop : tie.decreases-loop-left
decreases_loop file start count base spots numbers used buffer₀ at write copy from₀ left₀ place₀ pieces₀ uses₀ buffer from left place pieces uses = left

-- the noted place tells whether a wave starts
starts_here : (c : tie.Then-noted_place-from invariant_loop decreases_loop)
    → starts_wave (records_at c.args.file.now c.loop-left.left c.loop-left.from) ≡ true
starts_here c = let l = c.loop-left in marked_starts l.invariant.4 c.loop-left-test.true (omega arith) (sym c.noted_place.ensures ∙ c.if-noted_place-from.true)

starts_not : (c : tie.Else-noted_place-from invariant_loop decreases_loop)
    → starts_wave (records_at c.args.file.now c.loop-left.left c.loop-left.from) ≡ false
starts_not c = unmarked_starts c.loop-left.invariant.4 (λ e. c.if-noted_place-from.false (c.noted_place.ensures ∙ e))

long : (c : tie.Then-noted_place-from invariant_loop decreases_loop) → 256 ≤ c.loop-left.left
long c = let l = c.loop-left in wave_long c.args.file.now l.left l.from (starts_here c)

-- what a wave and a record take of the buffer
wave_room : (c : tie.Then-noted_place-from invariant_loop decreases_loop) → c.loop-left.place + size_of 3 2 ≤ length c.loop-left.buffer
wave_room c =
    let l = c.loop-left in
    let a = c.args in
    omega (arith, by_wave_size a.numbers.now a.base a.file.now l.uses l.left l.from (starts_here c), l.invariant.5.fits)

record_room : (c : tie.Else-noted_place-from invariant_loop decreases_loop) → c.loop-left.place + size_of 3 0 ≤ length c.loop-left.buffer
record_room c =
    let l = c.loop-left in
    let a = c.args in
    omega (arith, by_single_size a.numbers.now a.base a.file.now l.uses l.left l.from c.loop-left-test.true (starts_not c), l.invariant.5.fits)

-- the wave is one of those that are noted
use_few : (c : tie.Then-noted_place-from invariant_loop decreases_loop) → c.loop-left.uses < 11468
use_few c =
    let l = c.loop-left in
    omega (arith, l.invariant.4.few, ap length (uses_wave c.args.file.now l.left l.from (starts_here c)))

loop_holds : tie.Need-loop-left-init invariant_loop decreases_loop
loop_holds c =
    let a = c.args in
    let p = c.requires in
    (refl, omega arith, omega arith, refl, p.1, starts (pieces_by a.numbers.now a.base a.used a.file.now a.count a.start) a.at a.buffer.now p.5)

mul_noted_place : tie.Need-offset_bounds-spots-uses invariant_loop decreases_loop
mul_noted_place c = omega (arith, c.loop-left.invariant.4.few)

element_copy_out_noted_place : tie.Need-bounds-spots-uses invariant_loop decreases_loop
element_copy_out_noted_place c = omega (arith, c.loop-left.invariant.4.few)

mul_pool : tie.Need-offset_bounds-numbers-uses invariant_loop decreases_loop
mul_pool c = omega (arith, use_few c)

element_copy_out_pool : tie.Need-bounds-numbers-uses invariant_loop decreases_loop
element_copy_out_pool c = use_few c.before

cast_pool : tie.Need-overflow_cast-pool invariant_loop decreases_loop
cast_pool c = omega (arith, c.requires.0.small c.loop-left.uses)

add_pool : tie.Need-overflow_add-pool invariant_loop decreases_loop
add_pool c = omega (arith, c.requires.0.small c.loop-left.uses)

cast_put_wave_copy : tie.Need-overflow_cast-pool-then-noted_place-from invariant_loop decreases_loop
cast_put_wave_copy c = omega (arith, c.requires.0.small c.loop-left.uses)

put_wave_copy_requires : tie.Need-put_wave_copy-requires invariant_loop decreases_loop
put_wave_copy_requires c κs =
    let more = long c.before.before.before in
    (omega arith, wave_room c.before.before.before)

add_uses : tie.Need-overflow_add-uses invariant_loop decreases_loop
add_uses c = omega (arith, use_few c.before.before.before.before.before.before)

add_from : tie.Need-overflow_add-from invariant_loop decreases_loop
add_from c = omega (arith, long c.before.before.before.before.before.before)

sub_left : tie.Need-overflow_sub-left invariant_loop decreases_loop
sub_left c = long c.before.before.before.before.before.before

add_place : tie.Need-overflow_add-place invariant_loop decreases_loop
add_place c = omega (arith, wave_room c.before.before.before.before.before.before)

put_record_requires : tie.Need-put_record-requires invariant_loop decreases_loop
put_record_requires c κs = (omega arith, record_room c.before)

add_from_2 : tie.Need-overflow_add-from-else-noted_place-from invariant_loop decreases_loop
add_from_2 c = omega arith

sub_left_2 : tie.Need-overflow_sub-left-else-noted_place-from invariant_loop decreases_loop
sub_left_2 c = omega arith

add_place_2 : tie.Need-overflow_add-place-else-noted_place-from invariant_loop decreases_loop
add_place_2 c = omega (arith, record_room c.before.before.before.before)

add_pieces : tie.Need-overflow_add-pieces invariant_loop decreases_loop
add_pieces c =
    let a = c.args in
    omega (arith, c.loop-left.invariant.2, pieces_few a.file.now a.count a.start)

loop_less : tie.Need-loop-left-smaller invariant_loop decreases_loop
loop_less c =
    let l = c.loop-left in
    elim c.if-noted_place-from.branch [
      | then-noted_place-from w ↦ rw w.left-is (omega (arith, long (record { before = c.before; if-noted_place-from = w.if-noted_place-from })))
      | else-noted_place-from w ↦ rw w.left-is (omega arith)
    ]

loop_again : tie.Need-loop-left-preserved invariant_loop decreases_loop
loop_again c =
    let l = c.loop-left in
    let copy = c.operation_size-copy in
    let write = c.operation_size-write in
    let a = c.args in
    let file = a.file.now in
    let numbers = a.numbers.now in
    elim c.if-noted_place-from.branch [
      | then-noted_place-from w ↦
          let here : tie.Then-noted_place-from invariant_loop decreases_loop = record { before = c.before; if-noted_place-from = w.if-noted_place-from } in
          let wave = starts_here here in
          let records = long here in
          rw (w.from-is, w.left-is, w.uses-is) (
            omega arith,
            omega arith,
            omega (arith, l.invariant.2, pieces_wave file l.left l.from wave),
            omega (arith, l.invariant.3, ap length (uses_wave file l.left l.from wave)),
            behind_wave l.invariant.4 wave,
            wrote
                l.invariant.5
                (item_bytes 2 (Copy (byte file l.from) (be 3 file (l.from + 1)) (a.base + get_or numbers l.uses 0) 0 256))
                (pieces_by numbers a.base (l.uses + 1) file (l.left - 256) (l.from + 1280))
                copy.result
                (by_wave numbers a.base file l.uses l.left l.from wave)
                (copy_size _ _ _ _ _ ∙ sym copy.ensures.0)
                w.place-is
                (w.buffer-is ∙ w.put_wave_copy.ensures),
          )
      | else-noted_place-from w ↦
          let single = starts_not (record { before = c.before; if-noted_place-from = w.if-noted_place-from }) in
          let some = c.loop-left-test.true in
          rw (w.from-is, w.left-is, w.uses-is) (
            omega arith,
            omega arith,
            omega (arith, l.invariant.2, pieces_single file l.left l.from some single),
            omega (arith, l.invariant.3, ap length (uses_single file l.left l.from some single)),
            behind_single l.invariant.4 some single,
            wrote
                l.invariant.5
                (item_bytes 2 (record_of file l.from))
                (pieces_by numbers a.base l.uses file (l.left - 1) (l.from + 5))
                write.result
                (by_single numbers a.base file l.uses l.left l.from some single)
                (write_size _ _ _ ∙ sym write.ensures.0)
                w.place-is
                (w.buffer-is ∙ w.put_record.ensures),
          )
    ]

returns : tie.Need-returns invariant_loop decreases_loop
returns c =
    let l = c.loop-left in
    let a = c.args in
    let file = a.file.now in
    let none : l.left ≡ 0 = omega arith in
    let done = ends l.invariant.5 (rw none (by_none a.numbers.now a.base file l.uses l.from)) in (
      done.0,
      omega (arith, l.invariant.2, ap (λ (n : ℕ). piece_count file n l.from) none, pieces_none file l.from),
      done.1,
      omega (arith, l.invariant.3, ap (λ (n : ℕ). length (uses_at file n l.from)) none, ap length (uses_none file l.from)),
    )

pub put_pieces_spec : {M : Type 1} → statement M
put_pieces_spec =
    tie.close
    (tie.spec invariant_loop decreases_loop (search rules) (search rules) loop_holds mul_noted_place element_copy_out_noted_place (search rules) mul_pool element_copy_out_pool cast_pool add_pool cast_put_wave_copy
    put_wave_copy_requires add_uses add_from sub_left add_place put_record_requires add_from_2 sub_left_2 add_place_2 add_pieces loop_less loop_again (search rules) returns)
