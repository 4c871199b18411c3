-- Laws of the parts of the opening.
use Prim.Native.Nat.{ℕ, zero, suc, ◌-◌, ◌≤◌, ◌<◌}
use mathlib.Core.Path.{◌≡◌, refl, ap, ◌∙◌}
use mathlib.Core.List.{List, [], ◌++◌, append-nil}
use borrow.Author.Tests.{lt-ltb, le-ltb}
use lib.Dec.{lit≤}
use lib.ListN.{length}
use Rattle.base_format.specs.declared.operation.Operation.TheVariants.{Fill, Copy}
use Rattle.base_format.specs.Checked.{ok}
use Rattle.base_format.specs.Operation.{size_of}
use Rattle.base_format.specs.Written.{item_bytes, operations_bytes}
use Rattle.base_master.specs.Places.{records_at}
use Rattle.base_master.specs.Result.{pcm_from, core_bytes}
use Rattle.base_master.proofs.Result.{pcm_none}
use Rattle.bytes_put_operation.proofs.Operations.{operation_long, item_two}
use Rattle.repack_put_opening.specs.Opening.{fill_part, copy_part, opening_part}

-- no record is left
pub pcm_end : (file : List ℕ) (from count at : ℕ) → count ≡ 0 → pcm_from from (records_at file count at) ≡ ok from
pcm_end file from count at e = rw (e, pcm_none)

pub no_fill : (pcm : ℕ) → pcm ≡ 0 → fill_part pcm ≡ []
unfolding fill_part operations_bytes
no_fill pcm e = rw e

pub full_fill : (pcm : ℕ) → 1048576 ≤ pcm → fill_part pcm ≡ []
unfolding fill_part operations_bytes
full_fill zero h = refl
full_fill (suc n) h = rw (le-ltb (suc n) 1048576 h)

pub some_fill : (pcm : ℕ) → (pcm ≡ 0 → ⊥) → pcm < 1048576 → fill_part pcm ≡ item_bytes 2 (Fill 2 pcm (1048576 - pcm) 0x80)
unfolding fill_part operations_bytes
some_fill zero ne h = absurd (ne refl)
some_fill (suc n) ne h = rw (lt-ltb (suc n) 1048576 h, append-nil)

pub no_copy : (pcm : ℕ) → pcm ≡ 0 → copy_part pcm ≡ []
unfolding copy_part operations_bytes
no_copy pcm e = rw e

pub some_copy : (pcm : ℕ) → (pcm ≡ 0 → ⊥) → copy_part pcm ≡ item_bytes 2 (Copy 2 0 0 0 pcm)
unfolding copy_part operations_bytes
some_copy zero ne = absurd (ne refl)
some_copy (suc n) ne = rw append-nil

pub opening_is : (file : List ℕ) (count pcm : ℕ) → opening_part file count pcm ≡ fill_part pcm ++ (core_bytes file count 20 ++ copy_part pcm)
unfolding opening_part
opening_is file count pcm = refl

-- the sizes by the table of lengths
pub fill_long : (pcm : ℕ) → (pcm ≡ 0 → ⊥) → pcm < 1048576 → length (fill_part pcm) ≡ size_of 3 1
fill_long pcm ne h = ap length (some_fill pcm ne h ∙ item_two (Fill 2 pcm (1048576 - pcm) 0x80)) ∙ operation_long 3 (Fill 2 pcm (1048576 - pcm) 0x80) (lit≤ tt) (lit≤ tt)

pub copy_long : (pcm : ℕ) → (pcm ≡ 0 → ⊥) → length (copy_part pcm) ≡ size_of 3 2
copy_long pcm ne = ap length (some_copy pcm ne ∙ item_two (Copy 2 0 0 0 pcm)) ∙ operation_long 3 (Copy 2 0 0 0 pcm) (lit≤ tt) (lit≤ tt)
