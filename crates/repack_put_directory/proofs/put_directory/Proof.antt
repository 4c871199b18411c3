-- The PCM pool's entry, if there is one, stands in front of the waves'.
use Prim.Native.Nat.{◌+◌}
use mathlib.Core.Path.{sym}
use native.Mathlib.Omega.{arith}
use borrow.Author.Rules.{rules}
use Rattle.bytes_put_tables.specs.Entry.{entry_bytes}
use Rattle.bytes_put_tables.proofs.Entry.{entry_size_lem}
use Rattle.repack_put_directory.specs.Directory.{wave_entries}
use Rattle.bytes_read.proofs.Sequence.{put_next}
use Rattle.repack_put_directory.proofs.Directory.{directory_plain, directory_pcm, directory_some, directory_none}
use Rattle.repack_put_directory.proofs.put_directory.Statement.{statement}
use Rattle.repack_put_directory.proofs.put_directory.Tie as tie

put_wave_entries_requires : tie.Need-put_wave_entries-requires
put_wave_entries_requires c κs =
    let a = c.args in
    let size = directory_none a.pcm a.waves a.start c.if-pcm-eq0.true in
    (omega arith, omega arith, omega arith)

returns : tie.Need-returns-then-pcm-eq0
returns c =
    let a = c.args in
    rw (directory_plain a.pcm a.waves a.start c.if-pcm-eq0.true) c.put_wave_entries.ensures

put_entry_requires : tie.Need-put_entry-requires
put_entry_requires c κs =
    let a = c.args in
    omega (arith, directory_some a.pcm a.waves a.start c.if-pcm-eq0.false)

put_wave_entries_requires_2 : tie.Need-put_wave_entries-requires-2
put_wave_entries_requires_2 c κs =
    let a = c.args in
    let whole = directory_some a.pcm a.waves a.start c.if-pcm-eq0.false in
    (omega arith, omega arith, omega arith)

returns_2 : tie.Need-returns
returns_2 c =
    let a = c.args in
    let whole = directory_some a.pcm a.waves a.start c.if-pcm-eq0.false in
    let is = directory_pcm a.pcm a.waves a.start c.if-pcm-eq0.false in
    rw (c.put_wave_entries-2.ensures, c.put_entry.ensures, is)
    (sym (put_next (entry_bytes 0 2 a.pcm a.start) (wave_entries 1 (a.start + a.pcm) a.waves) 40 16 a.buffer.now (entry_size_lem 0 2 a.pcm a.start) (rw is at c.requires.0)))

pub put_directory_spec : {M : Type 1} → statement M
put_directory_spec =
    tie.close
    (tie.spec put_wave_entries_requires (search rules) returns (search rules) (search rules) put_entry_requires (search rules) (search rules) put_wave_entries_requires_2 (search rules)
    returns_2)
