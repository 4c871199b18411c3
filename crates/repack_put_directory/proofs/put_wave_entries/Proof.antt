-- The loop's invariant: the entries still to write, behind those that stand, are the whole.
use Prim.Native.Nat.{◌+◌, ◌-◌, ◌*◌}
use mathlib.Core.Path.{◌≡◌, refl}
use native.Mathlib.Omega.{arith}
use borrow.Author.Rules.{rules}
use Rattle.bytes_put_tables.specs.Entry.{entry_bytes}
use Rattle.bytes_put_tables.proofs.Entry.{entry_size_lem}
use Rattle.repack_put_directory.specs.Directory.{wave_entries}
use Rattle.repack_put_directory.proofs.Directory.{entries_none, entries_next, entries_size}
use Rattle.bytes_put_fields.proofs.Writing.{Writing, starts, wrote, ends}
use Rattle.repack_put_directory.proofs.put_wave_entries.Statement.{statement}
use Rattle.repack_put_directory.proofs.put_wave_entries.Tie as tie

abbrev invariant_loop : tie.invariant-loop-left
invariant_loop buffer₀ at id count start place₀ wave₀ offset₀ left₀ buffer place wave offset left =
    (wave + left ≡ id + count) × (offset + left * 256 ≡ start + count * 256) × Writing (wave_entries id start count) at buffer₀ (wave_entries wave offset left) place buffer

abbrev decreases_loop : tie.decreases-loop-left
decreases_loop buffer₀ at id count start place₀ wave₀ offset₀ left₀ buffer place wave offset left = left

loop_holds : tie.Need-loop-left-init invariant_loop decreases_loop
loop_holds c =
    let a = c.args in
    (refl, refl, starts (wave_entries a.id a.start a.count) a.at a.buffer.now (rw (entries_size a.id a.start a.count) (omega arith)))

put_entry_requires : tie.Need-put_entry-requires invariant_loop decreases_loop
put_entry_requires c κs =
    let l = c.loop-left in
    omega (arith, l.invariant.2.fits, entries_size l.wave l.offset l.left)

add_place : tie.Need-overflow_add-place invariant_loop decreases_loop
add_place c =
    let l = c.loop-left in
    omega (arith, l.invariant.2.fits, entries_size l.wave l.offset l.left)

loop_again : tie.Need-loop-left-preserved invariant_loop decreases_loop
loop_again c =
    let l = c.loop-left in (
      omega arith,
      omega arith,
      wrote l.invariant.2 (entry_bytes l.wave 1 256 l.offset) (wave_entries (l.wave + 1) (l.offset + 256) (l.left - 1)) 16
          (entries_next l.wave l.offset l.left c.loop-left-test.true) (entry_size_lem l.wave 1 256 l.offset) refl c.put_entry.ensures,
    )

returns : tie.Need-returns invariant_loop decreases_loop
returns c =
    let l = c.loop-left in
    let none : l.left ≡ 0 = omega arith in
    (ends l.invariant.2 (rw (none, entries_none))).0

pub put_wave_entries_spec : {M : Type 1} → statement M
put_wave_entries_spec =
    tie.close
    (tie.spec invariant_loop decreases_loop loop_holds (search rules) (search rules) (search rules) put_entry_requires add_place (search rules) (search rules) (search rules) (search rules) loop_again
    (search rules) returns)
