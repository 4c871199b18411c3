-- The three parts of the opening, one behind the other.
use Prim.Native.Nat.{ℕ, ◌+◌}
use mathlib.Core.Path.{◌≡◌, refl, sym, ap, ◌∙◌}
use mathlib.Core.List.{List, [], ◌++◌, append-nil}
use native.Mathlib.Omega.{arith}
use lib.ListN.{length, length-append}
use Rattle.base_master.specs.Result.{core_bytes}
use Rattle.repack_put_opening.specs.Opening.{fill_part, copy_part, opening_part}
use Rattle.repack_put_opening.proofs.Opening.{opening_is}
use Rattle.bytes_put_fields.proofs.Writing.{starts, wrote, ends}
use Rattle.repack_put_opening.proofs.put_opening.Goals as goal

size : (file : List ℕ) (count pcm : ℕ) → length (opening_part file count pcm) ≡ length (fill_part pcm) + (length (core_bytes file count 20) + length (copy_part pcm))
size file count pcm =
    ap length (opening_is file count pcm)
    ∙ length-append (fill_part pcm) (core_bytes file count 20 ++ copy_part pcm)
    ∙ ap (λ (n : ℕ). length (fill_part pcm) + n) (length-append (core_bytes file count 20) (copy_part pcm))

pub overflow_add-cores : goal.overflow_add-cores
overflow_add-cores c =
    let a = c.args in
    omega (arith, c.requires.1, size a.file.now a.count a.pcm, c.fill_size.ensures.0)

pub put_pcm_fill-requires : goal.put_pcm_fill-requires
put_pcm_fill-requires c =
    let a = c.args in
    omega (arith, c.requires.1, size a.file.now a.count a.pcm)

pub put_cores-copy-requires : goal.put_cores-copy-requires
put_cores-copy-requires c =
    let a = c.args in
    (c.requires.0, omega (arith, c.requires.1, size a.file.now a.count a.pcm, c.fill_size.ensures.0))

pub put_pcm_copy-requires : goal.put_pcm_copy-requires
put_pcm_copy-requires c =
    let a = c.args in
    (omega (arith, c.requires.1, size a.file.now a.count a.pcm, c.fill_size.ensures.0, c.put_cores-copy.ensures.1), c.requires.2)

pub returns : goal.returns
returns c =
    let a = c.args in
    let cores = core_bytes a.file.now a.count 20 in
    let copy = copy_part a.pcm in
    let w = starts (opening_part a.file.now a.count a.pcm) a.at a.buffer.now c.requires.1 in
    let w' = wrote w (fill_part a.pcm) (cores ++ copy) (length (fill_part a.pcm)) (opening_is a.file.now a.count a.pcm) refl (ap (λ (n : ℕ). a.at + n) c.fill_size.ensures.0) c.put_pcm_fill.ensures in
    let w'' = wrote w' cores copy (length cores) refl refl c.put_cores-copy.ensures.1 c.put_cores-copy.ensures.0 in
    let done = wrote w'' copy [] (length copy) (sym (append-nil copy)) refl refl c.put_pcm_copy.ensures in
    (ends done refl).0
