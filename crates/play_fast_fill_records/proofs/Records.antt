-- Laws of the records of WRITEs and FILLs: how many they are, each of them, and how they go on behind some of them.
use Rattle.std.proofs.Common.{◌≡◌, ℕ, zero, suc, ◌+◌, ◌<◌, List, ◌∷◌, ◌++◌, length, get_or, refl, ap, ◌∙◌, suc-add, zero-add, arith}
use Rattle.base_format.specs.declared.operation.WriteRecord.{WriteRecord}
use Rattle.play_fast_fill_records.specs.declared.FillPlace.{FillPlace}
use Rattle.play_fast_fill_records.specs.Records.{next_fill, record_of, fill_records, place_after}

module _ (file : List ℕ) (version : ℕ) where
  pub records_long : (n : ℕ) (p : FillPlace) → length (fill_records file version n p) ≡ n
  unfolding fill_records
  records_long zero p = refl
  records_long (suc n) p = ap suc (records_long n (next_fill file version p))

  -- the first step may be taken first or last
  pub after_next : (n : ℕ) (p : FillPlace) → place_after file version n (next_fill file version p) ≡ next_fill file version (place_after file version n p)
  unfolding place_after
  after_next zero p = refl
  after_next (suc n) p = ap (next_fill file version) (after_next n p)

  pub record_at_lem : (n : ℕ) (p : FillPlace) (i : ℕ) (d : WriteRecord) → i < n → get_or (fill_records file version n p) i d ≡ record_of (next_fill file version (place_after file version i p))
  unfolding fill_records place_after
  record_at_lem zero p i d less = absurd (omega (arith, less))
  record_at_lem (suc n) p zero d less = refl
  record_at_lem (suc n) p (suc i) d less = record_at_lem n (next_fill file version p) i d (omega (arith, less)) ∙ ap (λ (q : FillPlace). record_of (next_fill file version q)) (after_next i p)

  -- some of them, and then the others
  pub records_join : (m n : ℕ) (p : FillPlace) → fill_records file version (m + n) p ≡ fill_records file version m p ++ fill_records file version n (place_after file version m p)
  unfolding fill_records place_after
  records_join zero n p = rw (zero-add n)
  records_join (suc m) n p =
      rw (suc-add m n) (ap (λ (l : List WriteRecord). record_of (next_fill file version p) ∷ l)
      (records_join m n (next_fill file version p) ∙ ap (λ (q : FillPlace). fill_records file version m (next_fill file version p) ++ fill_records file version n q) (after_next m p)))
