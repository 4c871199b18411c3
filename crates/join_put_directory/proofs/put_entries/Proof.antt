-- `join_put_directory::put_entries` meets its contract. The loop's invariant: the entries still to write, behind those that stand, are the whole.
use borrow.Author.Rules.{rules}
use native.Mathlib.Omega.{arith}
use Prim.Native.Nat.{◌+◌, ◌-◌, ◌≤◌}
use mathlib.Core.Path.{◌≡◌, refl, ap, ◌∙◌}
use Rattle.base_format.specs.declared.pool.Pool.{Pool}
use Rattle.base_format.specs.Pool.{pool_at}
use Rattle.bytes_read.specs.Put.{put}
use Rattle.bytes_put_fields.proofs.Writing.{Writing, starts, wrote, ends}
use Rattle.bytes_put_tables.specs.Entry.{entry_bytes}
use Rattle.join_put_directory.specs.Entries.{entry_moved, entries_moved}
use Rattle.join_put_directory.proofs.Entries.{entry_long, entries_long, entries_none, entries_next}
use Rattle.join_put_directory.proofs.put_entries.Statement.{statement}
use Rattle.join_put_directory.proofs.put_entries.Tie as tie

abbrev invariant_loop : tie.invariant-loop-entry
invariant_loop file count buffer₀ at id moved directory place₀ entry₀ buffer place entry =
    (entry ≤ count) × Writing (entries_moved file id moved 0 count) at buffer₀ (entries_moved file id moved entry (count - entry)) place buffer

abbrev decreases_loop : tie.decreases-loop-entry
decreases_loop file count buffer₀ at id moved directory place₀ entry₀ buffer place entry = count - entry

loop_holds : tie.Need-loop-entry-init invariant_loop decreases_loop
loop_holds c =
    let a = c.args in
    let all : a.count - 0 ≡ a.count = omega arith in
    let whole = entries_moved a.file.now a.id a.moved 0 a.count in
    let long = entries_long a.file.now a.id a.moved 0 a.count in
    (omega arith, rw all (starts whole a.at a.buffer.now (omega (arith, long, c.requires.fits))))

add_number : tie.Need-overflow_add-number invariant_loop decreases_loop
add_number c =
    omega (arith, c.requires.ids, c.loop-entry-test.true)

cast_put_entry : tie.Need-overflow_cast-number invariant_loop decreases_loop
cast_put_entry c =
    omega (arith, c.requires.ids, c.loop-entry-test.true)

add_put_entry : tie.Need-overflow_add-pool invariant_loop decreases_loop
add_put_entry c =
    let read : c.read_pool-pool.result.offset ≡ (pool_at c.args.file.now 40 c.loop-entry.entry).offset = ap (λ (p : Pool). p.offset) c.read_pool-pool.ensures in
    omega (arith, read, c.requires.offsets c.loop-entry.entry c.loop-entry-test.true)

put_entry_requires : tie.Need-put_entry-requires invariant_loop decreases_loop
put_entry_requires c κs =
    let l = c.loop-entry in
    let a = c.args in
    omega (arith, l.invariant.1.fits, entries_long a.file.now a.id a.moved l.entry (a.count - l.entry), c.loop-entry-test.true)

add_place : tie.Need-overflow_add-place invariant_loop decreases_loop
add_place c =
    let l = c.loop-entry in
    let a = c.args in
    omega (arith, l.invariant.1.fits, entries_long a.file.now a.id a.moved l.entry (a.count - l.entry), c.loop-entry-test.true)

loop_again : tie.Need-loop-entry-preserved invariant_loop decreases_loop
loop_again c =
    let l = c.loop-entry in
    let a = c.args in
    let file = a.file.now in
    let less = c.loop-entry-test.true in
    let read = c.read_pool-pool.ensures in
    let puts = c.put_entry.ensures ∙ ap (λ (p : Pool). put (entry_bytes (a.id + l.entry) p.kind p.size (p.offset + a.moved)) l.place l.buffer) read in
    let rest = entries_moved file a.id a.moved (l.entry + 1) (a.count - (l.entry + 1)) in
    let next = entries_next file a.id a.moved l.entry a.count less in
    (omega (arith, less), wrote l.invariant.1 (entry_moved file a.id a.moved l.entry) rest 16 next (entry_long file a.id a.moved l.entry) refl puts)

returns : tie.Need-returns invariant_loop decreases_loop
returns c =
    let l = c.loop-entry in
    let a = c.args in
    let none : a.count - l.entry ≡ 0 = omega (arith, c.loop-entry-test.false) in
    (ends l.invariant.1 (rw none (entries_none a.file.now a.id a.moved l.entry))).0

pub put_entries_spec : {M : Type 1} → statement M
put_entries_spec =
    tie.close
    (tie.spec invariant_loop decreases_loop (search rules) loop_holds (search rules) add_number cast_put_entry add_put_entry put_entry_requires add_place (search rules) (search rules) loop_again (search rules)
    returns)
