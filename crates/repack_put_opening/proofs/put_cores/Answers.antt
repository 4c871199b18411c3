-- Each record to a core is written as one WRITE; the others are passed over.
use Prim.Native.Nat.{ℕ, ◌+◌, ◌-◌, ◌*◌, ◌<◌}
use mathlib.Core.List.{List, ◌++◌}
use mathlib.Core.Path.{◌≡◌, sym, ap, ◌∙◌}
use Rattle.repack_put_opening.proofs.put_cores.Goals.{then-file-from-ne2, else-file-from-ne2}
use native.Mathlib.Omega.{arith}
use lib.ListN.{length, length-append}
use Rattle.base_format.specs.Bytes.{byte}
use Rattle.base_format.specs.Operation.{size_of}
use Rattle.base_format.specs.Written.{item_bytes}
use Rattle.base_master.specs.Places.{record_of}
use Rattle.base_master.specs.Result.{core_bytes}
use Rattle.base_master.proofs.Result.{core_item, core_skip, opening_none, write_size}
use Rattle.bytes_put_fields.proofs.Writing.{starts, wrote, told, ends}
use Rattle.repack_put_opening.proofs.put_cores.Goals as goal

-- the records behind the next one
module _ (file : List ℕ) (count i : ℕ) (more : i < count) where
  rest : core_bytes file (count - i - 1) (20 + i * 5 + 5) ≡ core_bytes file (count - (i + 1)) (20 + (i + 1) * 5)
  rest =
      let fewer : count - i - 1 ≡ count - (i + 1) = omega arith in
      let place : 20 + i * 5 + 5 ≡ 20 + (i + 1) * 5 = omega arith in
      rw (fewer, place)

  pub item : (byte file (20 + i * 5) ≡ 2 → ⊥) → core_bytes file (count - i) (20 + i * 5) ≡ item_bytes 2 (record_of file (20 + i * 5)) ++ core_bytes file (count - (i + 1)) (20 + (i + 1) * 5)
  item core = core_item file (count - i) (20 + i * 5) (omega arith) core ∙ ap (λ (l : List ℕ). item_bytes 2 (record_of file (20 + i * 5)) ++ l) rest

  pub skip : byte file (20 + i * 5) ≡ 2 → core_bytes file (count - i) (20 + i * 5) ≡ core_bytes file (count - (i + 1)) (20 + (i + 1) * 5)
  skip pcm = core_skip file (count - i) (20 + i * 5) (omega arith) pcm ∙ rest

  pub size : (byte file (20 + i * 5) ≡ 2 → ⊥) → length (core_bytes file (count - i) (20 + i * 5)) ≡ size_of 3 0 + length (core_bytes file (count - (i + 1)) (20 + (i + 1) * 5))
  size core =
      ap length (item core)
      ∙ length-append (item_bytes 2 (record_of file (20 + i * 5))) (core_bytes file (count - (i + 1)) (20 + (i + 1) * 5))
      ∙ rw write_size

pub loop-i-init : goal.loop-i-init
loop-i-init c =
    let all : c.args.count - 0 ≡ c.args.count = omega arith in
    rw all (starts (core_bytes c.args.file.now c.args.count 20) c.args.at c.args.buffer.now c.requires.1)

pub put_record-requires : goal.put_record-requires
put_record-requires c =
    let l = c.loop-i in
    (omega arith, omega (arith, size c.args.file.now c.args.count l.i c.loop-i-test.true c.if-file-from-ne2.true, l.invariant.fits))

pub overflow_add-place : goal.overflow_add-place
overflow_add-place c =
    let l = c.loop-i in
    omega (arith, size c.args.file.now c.args.count l.i c.loop-i-test.true c.if-file-from-ne2.true, l.invariant.fits, c.operation_size-write.ensures.0)

pub loop-i-preserved : goal.loop-i-preserved
loop-i-preserved c =
    let l = c.loop-i in
    let file = c.args.file.now in
    let write = c.operation_size-write in
    let from = 20 + l.i * 5 in
    let rest = core_bytes file (c.args.count - (l.i + 1)) (20 + (l.i + 1) * 5) in
    elim c.if-file-from-ne2.branch [
      | then-file-from-ne2 w ↦
          wrote l.invariant (item_bytes 2 (record_of file from)) rest write.result (item file c.args.count l.i c.loop-i-test.true w.if-file-from-ne2.true) (write_size _ _ _ ∙ sym write.ensures.0) w.place-is
          (w.buffer-is ∙ w.put_record.ensures)
      | else-file-from-ne2 w ↦ told l.invariant rest (skip file c.args.count l.i c.loop-i-test.true w.if-file-from-ne2.false) w.place-is w.buffer-is
    ]

pub returns : goal.returns
returns c =
    let l = c.loop-i in
    let none : c.args.count - l.i ≡ 0 = omega arith in
    ends l.invariant (rw none (opening_none c.args.file.now (20 + l.i * 5)).1)
