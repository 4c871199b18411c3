-- Laws of the writes of successive plain WRITEs: how many they are, and each of them.
use Prim.Native.Nat.{ℕ, zero, suc, ◌+◌, ◌*◌, ◌<◌}
use mathlib.Core.List.{List}
use mathlib.Core.Path.{◌≡◌, refl, ap, ◌∙◌}
use native.Mathlib.Nat.{suc-mul}
use native.Mathlib.Omega.{arith}
use lib.ListN.{length, get_or}
use Rattle.base_format.specs.declared.operation.WriteRecord.{WriteRecord}
use Rattle.play_fast_plain.specs.Plain.{plain_size, plain_write, plain_writes}

pub writes_long : (version : ℕ) (file : List ℕ) (n from : ℕ) → length (plain_writes version file n from) ≡ n
unfolding plain_writes
writes_long version file zero from = refl
writes_long version file (suc n) from = ap suc (writes_long version file n (from + plain_size version))

pub write_at_lem : (version : ℕ) (file : List ℕ) (n from i : ℕ) (d : WriteRecord) → i < n → get_or (plain_writes version file n from) i d ≡ plain_write version file (from + i * plain_size version)
unfolding plain_writes
write_at_lem version file zero from i d less = absurd (omega (arith, less))
write_at_lem version file (suc n) from zero d less = ap (plain_write version file) (omega arith)
write_at_lem version file (suc n) from (suc i) d less =
    write_at_lem version file n (from + plain_size version) i d (omega (arith, less)) ∙ ap (plain_write version file) (omega (arith, suc-mul i (plain_size version)))
