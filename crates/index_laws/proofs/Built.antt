-- The index as the code builds it, by any header: how long it is, and its entries one after the other.
use Prim.Native.Nat.{ℕ, zero, suc, ◌+◌, ◌*◌, ◌-◌, ◌<◌}
use mathlib.Core.List.{List, [], ◌++◌, append-nil}
use mathlib.Core.Path.{◌≡◌, refl, sym, ap, ◌∙◌}
use native.Mathlib.Omega.{arith}
use lib.ListN.{length}
use Rattle.base_format.specs.declared.header.Header.{Header}
use Rattle.base_format.specs.Bytes.{Field, bytes_of, bytes_of_all}
use Rattle.base_format.specs.Index.{entries_for}
use Rattle.base_format.proofs.Fields.{fields_size, fields_size_lem}
use Rattle.index_laws.specs.Built.{entries_walk, built_fields, built_trailer}
use Rattle.index_laws.specs.Frames.{frames_walked}

-- 4 bytes for each entry
walk_long : (version : ℕ) (file : List ℕ) (count at : ℕ) (rest : List Field) → fields_size (entries_walk version file count at ++ rest) ≡ count * 4 + fields_size rest
unfolding entries_walk
walk_long version file zero at rest = omega arith
walk_long version file (suc count) at rest = omega (arith, walk_long version file count (frames_walked version file 64 at) rest)

-- and 12
pub built_long : (header : Header) (file : List ℕ) → length (bytes_of_all (built_fields header file)) ≡ entries_for header.frame_count * 4 + 12
built_long header file =
    let entries = entries_for header.frame_count in
    fields_size_lem (built_fields header file) ∙ walk_long header.version file entries header.frame_start (built_trailer entries header.total_size)

-- its entries alone
pub entries_long : (version : ℕ) (file : List ℕ) (count at : ℕ) → length (bytes_of_all (entries_walk version file count at)) ≡ count * 4
entries_long version file count at =
    let all = walk_long version file count at [] in
    fields_size_lem (entries_walk version file count at) ∙ ap fields_size (sym (append-nil (entries_walk version file count at))) ∙ omega arith

pub entries_next : (version : ℕ) (file : List ℕ) (count at : ℕ) → 0 < count
    → bytes_of_all (entries_walk version file count at) ≡ bytes_of 4 at ++ bytes_of_all (entries_walk version file (count - 1) (frames_walked version file 64 at))
unfolding entries_walk bytes_of_all
entries_next version file zero at some = absurd (omega arith)
entries_next version file (suc count) at some = let left : suc count - 1 ≡ count = omega arith in rw left

pub entries_none : (version : ℕ) (file : List ℕ) (at : ℕ) → bytes_of_all (entries_walk version file 0 at) ≡ []
unfolding entries_walk bytes_of_all
entries_none version file at = refl
