-- Laws of the entries that are stored: how many they are, each of them, and the run after some turns of the loop.
use Prim.Native.Nat.{ℕ, zero, suc, ◌+◌, ◌≤◌, ◌<◌, min}
use mathlib.Core.List.{List}
use mathlib.Core.Path.{◌≡◌, refl, sym, ap, ◌∙◌}
use native.Mathlib.Nat.{zero-add}
use native.Mathlib.Omega.{arith}
use lib.ListN.{length, get_or, set}
use Rattle.base_format.specs.Pool.{pool_at}
use Rattle.base_format.proofs.Lent as front
use Rattle.sgub_pool_list.specs.declared.SgubPoolEntry.{SgubPoolEntry}
use Rattle.sgub_pool_list.specs.Entries.{listed_entry, entries_from, entries_stored}

-- EACH OF THEM

pub entries_long : (file : List ℕ) (directory n id : ℕ) → length (entries_from file directory n id) ≡ n
unfolding entries_from
entries_long file directory zero id = refl
entries_long file directory (suc n) id = ap suc (entries_long file directory n (suc id))

pub entry_at : (file : List ℕ) (directory n id i : ℕ) (d : SgubPoolEntry) → i < n → get_or (entries_from file directory n id) i d ≡ listed_entry (pool_at file directory (id + i))
unfolding entries_from
entry_at file directory zero id i d less = absurd (omega (arith, less))
entry_at file directory (suc n) id zero d less = ap (λ (k : ℕ). listed_entry (pool_at file directory k)) (omega arith)
entry_at file directory (suc n) id (suc i) d less =
    entry_at file directory n (suc id) i d (omega (arith, less)) ∙ ap (λ (k : ℕ). listed_entry (pool_at file directory k)) (omega arith)

-- THE RUN AFTER SOME TURNS

module _ (file : List ℕ) (directory count : ℕ) (run : List SgubPoolEntry) where
  abbrev n : ℕ
  n = min (length run) count

  abbrev entries : List SgubPoolEntry
  entries = entries_from file directory n 0

  fits : length entries ≤ length run
  fits = omega (arith, entries_long file directory n 0)

  abbrev pub pasted : (i : ℕ) → List SgubPoolEntry
  pasted i = front.pasted entries run i

  pub pasted_long : (i : ℕ) → i ≤ n → length (pasted i) ≡ length run
  pasted_long i few = front.pasted_long entries run fits i (rw (entries_long file directory n 0) few)

  pub pasted_next : (i : ℕ) → i < n → set (pasted i) i (listed_entry (pool_at file directory i)) ≡ pasted (i + 1)
  pasted_next i less =
      front.pasted_next entries run fits i (listed_entry (pool_at file directory i)) (rw (entries_long file directory n 0) less)
      (entry_at file directory n 0 i (listed_entry (pool_at file directory i)) less ∙ ap (λ (k : ℕ). listed_entry (pool_at file directory k)) (zero-add i))

  pub stored_is : pasted n ≡ entries_stored file directory count run
  unfolding entries_stored
  stored_is = front.pasted_all entries run fits n (sym (entries_long file directory n 0))

  -- the run keeps its length
  pub stored_long : length (entries_stored file directory count run) ≡ length run
  unfolding entries_stored
  stored_long = front.stored_long entries run fits
