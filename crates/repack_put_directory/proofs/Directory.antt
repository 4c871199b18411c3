-- Laws of the directory: sizes, and the entries step by step.
use Prim.Native.Nat.{ℕ, zero, suc, ◌+◌, ◌*◌, ◌-◌, ◌<◌}
use mathlib.Core.Path.{◌≡◌, refl, ap, ◌∙◌}
use mathlib.Core.List.{[], ◌++◌}
use native.Mathlib.Nat.{not-suc-le-zero}
use native.Mathlib.Omega.{arith}
use lib.ListN.{length, length-append}
use Rattle.bytes_put_tables.specs.Entry.{entry_bytes}
use Rattle.bytes_put_tables.proofs.Entry.{entry_size_lem}
use Rattle.repack_put_directory.specs.Directory.{wave_entries, directory_of}

pub entries_none : (id start : ℕ) → wave_entries id start 0 ≡ []
unfolding wave_entries
entries_none id start = refl

pub entries_next : (id start count : ℕ) → 0 < count → wave_entries id start count ≡ entry_bytes id 1 256 start ++ wave_entries (id + 1) (start + 256) (count - 1)
unfolding wave_entries
entries_next id start zero h = absurd (not-suc-le-zero h)
entries_next id start (suc count) h =
    let e : suc count - 1 ≡ count = omega arith in
    rw e

pub entries_size : (id start count : ℕ) → length (wave_entries id start count) ≡ count * 16
unfolding wave_entries
entries_size id start zero = omega arith
entries_size id start (suc count) =
    length-append (entry_bytes id 1 256 start) (wave_entries (id + 1) (start + 256) count)
    ∙ rw (entry_size_lem, entries_size (id + 1) (start + 256) count) (omega arith)

pub directory_plain : (pcm waves start : ℕ) → pcm ≡ 0 → directory_of pcm waves start ≡ wave_entries 0 start waves
unfolding directory_of
directory_plain pcm waves start e = rw e

pub directory_pcm : (pcm waves start : ℕ) → (pcm ≡ 0 → ⊥) → directory_of pcm waves start ≡ entry_bytes 0 2 pcm start ++ wave_entries 1 (start + pcm) waves
unfolding directory_of
directory_pcm zero waves start ne = absurd (ne refl)
directory_pcm (suc n) waves start ne = refl

pub directory_some : (pcm waves start : ℕ) → (pcm ≡ 0 → ⊥) → length (directory_of pcm waves start) ≡ 16 + waves * 16
directory_some pcm waves start some =
    ap length (directory_pcm pcm waves start some)
    ∙ length-append (entry_bytes 0 2 pcm start) (wave_entries 1 (start + pcm) waves)
    ∙ rw (entry_size_lem, entries_size)

pub directory_none : (pcm waves start : ℕ) → pcm ≡ 0 → length (directory_of pcm waves start) ≡ waves * 16
directory_none pcm waves start none = ap length (directory_plain pcm waves start none) ∙ entries_size 0 start waves
