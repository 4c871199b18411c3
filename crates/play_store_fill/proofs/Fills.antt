-- Laws of the run after some turns of the loop: it begins with so many records, and the place is that of the last one.
use Prim.Native.Nat.{ℕ, ◌+◌, ◌≤◌, ◌<◌, min}
use mathlib.Core.List.{List}
use mathlib.Core.Path.{◌≡◌, refl, sym, ap, ◌∙◌}
use native.Mathlib.Numerals.{add-one}
use native.Mathlib.Omega.{arith}
use lib.ListN.{length, set}
use Rattle.base_format.specs.declared.operation.WriteRecord.{WriteRecord}
use Rattle.play_fast_fill_records.specs.declared.FillPlace.{FillPlace}
use Rattle.play_fast_fill_records.specs.Records.{fill_place, next_fill, record_of, fill_records, place_after}
use Rattle.play_fast_fill_records.proofs.Records.{records_long, record_at_lem}
use Rattle.base_format.proofs.Lent as front
use Rattle.play_store_fill.specs.Stored.{fills_stored}

module _ (file : List ℕ) (version from made : ℕ) where
  -- the place after i turns
  abbrev pub placed : (i : ℕ) → FillPlace
  placed i = place_after file version i (fill_place from made)

  pub placed_none : fill_place from made ≡ placed 0
  unfolding place_after
  placed_none = refl

  pub placed_next : (i : ℕ) → next_fill file version (placed i) ≡ placed (i + 1)
  unfolding place_after
  placed_next i = rw (add-one i)

  module _ (count : ℕ) (run : List WriteRecord) where
    abbrev n : ℕ
    n = min (length run) count

    abbrev records : List WriteRecord
    records = fill_records file version n (fill_place from made)

    fits : length records ≤ length run
    fits = omega (arith, records_long file version n (fill_place from made))

    -- the run after i turns
    abbrev pub pasted : (i : ℕ) → List WriteRecord
    pasted i = front.pasted records run i

    pub pasted_long : (i : ℕ) → i ≤ n → length (pasted i) ≡ length run
    pasted_long i few = front.pasted_long records run fits i (rw (records_long file version n (fill_place from made)) few)

    pub pasted_next : (i : ℕ) → i < n → set (pasted i) i (record_of (placed (i + 1))) ≡ pasted (i + 1)
    pasted_next i less =
        front.pasted_next records run fits i (record_of (placed (i + 1))) (rw (records_long file version n (fill_place from made)) less)
        (record_at_lem file version n (fill_place from made) i (record_of (placed (i + 1))) less ∙ ap record_of (placed_next i))

    pub stored_is : pasted n ≡ fills_stored file version from made count run
    unfolding fills_stored
    stored_is = front.pasted_all records run fits n (sym (records_long file version n (fill_place from made)))

    -- the run keeps its length
    pub stored_long : length (fills_stored file version from made count run) ≡ length run
    unfolding fills_stored
    stored_long = front.stored_long records run fits
