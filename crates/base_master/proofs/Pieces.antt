-- The pieces of a frame, record by record at their places.
use Prim.Native.Nat.{ℕ, zero, suc, ◌+◌, ◌*◌, ◌-◌, ◌%◌, ◌≤◌, ◌<◌}
use mathlib.Core.Path.{◌≡◌, refl, sym, ap, ◌∙◌}
use mathlib.Core.Bool.{Bool, true, false, ◌&&◌, false≢true}
use mathlib.Core.List.{List, [], ◌∷◌, map}
use native.Mathlib.Nat.{le_of_suc-le-suc, not-suc-le-zero}
use native.Mathlib.Numerals.{add-one}
use native.Mathlib.Omega.{arith}
use borrow.Author.Tests.{eq-eqb}
use lib.Dec.{eqb, ltb}
use lib.ListN.{length, take, drop}
use Rattle.base_format.specs.declared.operation.Operation.{Operation}
use Rattle.base_format.specs.Bytes.{byte, be, same_bytes}
use Rattle.base_format.specs.Repack.{Piece, wave, single, value, runs, starts_wave, pieces}
use Rattle.base_format.proofs.Checks.{and_true}
use Rattle.base_master.specs.Places.{record_of, records_at, values_at, wave_at}

-- what steps over one of so many records, of 5 bytes each, steps over as many as are asked for
pub skip_all : {A : Type 0} (f : (skip count at : ℕ) → A)
    → ((skip at place : ℕ) → f (suc skip) 0 at ≡ f 0 0 place)
    → ((skip count at : ℕ) → f (suc skip) (suc count) at ≡ f skip count (at + 5))
    → (skip count at : ℕ) → f skip count at ≡ f 0 (count - skip) (at + skip * 5)
skip_all f none one zero count at =
    let e : count - 0 ≡ count = omega arith in
    let e' : at + 0 * 5 ≡ at = omega arith in
    rw (e, e')
skip_all f none one (suc skip) zero at =
    let e : 0 - suc skip ≡ 0 = omega arith in
    rw e (none skip at _)
skip_all f none one (suc skip) (suc count) at =
    let e : suc count - suc skip ≡ count - skip = omega arith in
    let e' : at + suc skip * 5 ≡ at + 5 + skip * 5 = omega arith in
    rw (e, e') (one skip count at ∙ skip_all f none one skip count (at + 5))

module _ (file : List ℕ) where
  -- one record and the rest
  pub records_next : (count at : ℕ) → 0 < count → records_at file count at ≡ record_of file at ∷ records_at file (count - 1) (at + 5)
  unfolding records_at
  records_next zero at h = absurd (not-suc-le-zero h)
  records_next (suc count) at h =
      let e : suc count - 1 ≡ count = omega arith in
      rw e

  pub values_next : (count at : ℕ) → 0 < count → values_at file count at ≡ byte file (at + 4) ∷ values_at file (count - 1) (at + 5)
  unfolding values_at
  values_next zero at h = absurd (not-suc-le-zero h)
  values_next (suc count) at h =
      let e : suc count - 1 ≡ count = omega arith in
      rw e

  pub values_none : (at : ℕ) → values_at file 0 at ≡ []
  unfolding values_at
  values_none at = refl

  -- two runs of values, compared from the left
  pub same_next : (count a b : ℕ) → 0 < count
      → same_bytes (values_at file count a) (values_at file count b) ≡ (eqb (byte file (a + 4)) (byte file (b + 4)) && same_bytes (values_at file (count - 1) (a + 5)) (values_at file (count - 1) (b + 5)))
  same_next count a b h = rw (values_next count a h, values_next count b h)

  pub records_count : (count at : ℕ) → length (records_at file count at) ≡ count
  unfolding records_at
  records_count zero at = refl
  records_count (suc count) at = ap suc (records_count count (at + 5))

  pub values_count : (count at : ℕ) → length (values_at file count at) ≡ count
  unfolding values_at
  values_count zero at = refl
  values_count (suc count) at = ap suc (values_count count (at + 5))

  -- the first records, and those behind them
  values_taken : (n count at : ℕ) → n ≤ count → map value (take n (records_at file count at)) ≡ values_at file n at
  unfolding records_at values_at
  values_taken zero count at h = refl
  values_taken (suc n) zero at h = absurd (not-suc-le-zero h)
  values_taken (suc n) (suc count) at h = ap (λ (l : List ℕ). byte file (at + 4) ∷ l) (values_taken n count (at + 5) (le_of_suc-le-suc h))

  records_dropped : (n count at : ℕ) → drop n (records_at file count at) ≡ records_at file (count - n) (at + n * 5)
  unfolding records_at
  records_dropped = skip_all (λ (n count at : ℕ). drop n (records_at file count at)) (λ n at place. refl) (λ n count at. refl)

  -- a run of records: the code looks at as many as the run has
  pub runs_within : (n count target from at : ℕ) → n ≤ count → runs n target from (records_at file count at) ≡ runs n target from (records_at file n at)
  unfolding runs records_at
  runs_within zero count target from at h = refl
  runs_within (suc n) zero target from at h = absurd (not-suc-le-zero h)
  runs_within (suc n) (suc count) target from at h =
      let next = runs_within n count target (suc from) (at + 5) (le_of_suc-le-suc h) in
      ap (λ (r : Bool). elim (eqb (byte file at) target && eqb (be 3 file (at + 1)) from) as (λ (b : Bool). Bool) [ true ↦ r | false ↦ false ]) next

  runs_long : (n count target from at : ℕ) → runs n target from (records_at file count at) ≡ true → n ≤ count
  unfolding runs records_at
  runs_long zero count target from at e = omega arith
  runs_long (suc n) zero target from at e = absurd (false≢true e)
  runs_long (suc n) (suc count) target from at e = go (runs_long n count target (suc from) (at + 5)) (eqb (byte file at) target && eqb (be 3 file (at + 1)) from) e
    where
      go : (runs n target (suc from) (records_at file count (at + 5)) ≡ true → n ≤ count) → (b : Bool)
          → elim b as (λ (x : Bool). Bool) [ true ↦ runs n target (suc from) (records_at file count (at + 5)) | false ↦ false ] ≡ true → suc n ≤ suc count
      go more true e' = omega (arith, more e')
      go more false e' = absurd (false≢true e')

  -- a run goes on behind a record that belongs to it
  abbrev onward : (n target from at : ℕ) → Bool → Bool
  onward n target from at b = elim b as (λ (x : Bool). Bool) [ true ↦ runs n target (suc from) (records_at file n (at + 5)) | false ↦ false ]

  -- one record of a run and the rest
  pub runs_next : (n target from at : ℕ) → 0 < n → byte file at ≡ target → be 3 file (at + 1) ≡ from
      → runs n target from (records_at file n at) ≡ runs (n - 1) target (from + 1) (records_at file (n - 1) (at + 5))
  unfolding runs records_at
  runs_next zero target from at h t a = absurd (not-suc-le-zero h)
  runs_next (suc n) target from at h t a =
      let e : suc n - 1 ≡ n = omega arith in
      let test : (eqb (byte file at) target && eqb (be 3 file (at + 1)) from) ≡ true = rw (eq-eqb (byte file at) target t, eq-eqb (be 3 file (at + 1)) from a) in
      rw (e, add-one from) (ap (onward n target from at) test)

  pub runs_not : (n target from at : ℕ) → 0 < n → (eqb (byte file at) target && eqb (be 3 file (at + 1)) from) ≡ false
      → runs n target from (records_at file n at) ≡ false
  unfolding runs records_at
  runs_not zero target from at h e = absurd (not-suc-le-zero h)
  runs_not (suc n) target from at h e = ap (onward n target from at) e

  pub runs_none : (target from at : ℕ) → runs 0 target from (records_at file 0 at) ≡ true
  unfolding runs
  runs_none target from at = refl

  -- what starts a wave
  abbrev pub aligned : (at : ℕ) → Bool
  aligned at = ltb (byte file at) 2 && ltb (be 3 file (at + 1)) 0x800 && eqb (be 3 file (at + 1) % 256) 0

  starts_tests : (count at : ℕ) → 0 < count
      → starts_wave (records_at file count at) ≡ (aligned at && runs 256 (byte file at) (be 3 file (at + 1)) (records_at file count at))
  unfolding starts_wave records_at
  starts_tests zero at h = absurd (not-suc-le-zero h)
  starts_tests (suc count) at h = refl

  pub wave_long : (count at : ℕ) → starts_wave (records_at file count at) ≡ true → 256 ≤ count
  wave_long zero at e = absurd (false≢true (unfold starts_wave records_at in e))
  wave_long (suc count) at e =
      let tests = sym (starts_tests (suc count) at (omega arith)) ∙ e in
      let run = (and_true (aligned at) (runs 256 (byte file at) (be 3 file (at + 1)) (records_at file (suc count) at)) tests).1 in
      runs_long 256 (suc count) (byte file at) (be 3 file (at + 1)) at run

  pub starts_short : (count at : ℕ) → count < 256 → starts_wave (records_at file count at) ≡ false
  starts_short count at h = go (starts_wave (records_at file count at)) refl
    where
      go : (b : Bool) → starts_wave (records_at file count at) ≡ b → b ≡ false
      go true e = absurd (omega (arith, wave_long count at e))
      go false e = refl

  -- with 256 records left the tests decide
  pub starts_is : (count at : ℕ) → 256 ≤ count → starts_wave (records_at file count at) ≡ (aligned at && runs 256 (byte file at) (be 3 file (at + 1)) (records_at file 256 at))
  starts_is count at h =
      starts_tests count at (omega arith) ∙ ap (λ (r : Bool). aligned at && r) (runs_within 256 count (byte file at) (be 3 file (at + 1)) at h)

  -- `skip` records belong to the wave before
  pieces_skip : (skip : ℕ) (records : List Operation) → pieces skip records ≡ pieces 0 (drop skip records)
  unfolding pieces
  pieces_skip zero records = refl
  pieces_skip (suc skip) [] = refl
  pieces_skip (suc skip) (record' ∷ records) = pieces_skip skip records

  -- the pieces from a record on
  abbrev chosen : (count at : ℕ) → Bool → List Piece
  chosen count at b =
      elim b as (λ (x : Bool). List Piece) [
        | true ↦ wave (byte file at) (be 3 file (at + 1)) (map value (take 256 (records_at file (suc count) at))) ∷ pieces 255 (records_at file count (at + 5))
        | false ↦ single (record_of file at) ∷ pieces 0 (records_at file count (at + 5))
      ]

  choose : (count at : ℕ) (b : Bool) → starts_wave (records_at file (suc count) at) ≡ b → pieces 0 (records_at file (suc count) at) ≡ chosen count at b
  unfolding pieces records_at
  choose count at b e = ap (chosen count at) e

  -- the pieces from a place on: a wave and the pieces behind it, or a record and the pieces behind it
  pub wave_next : (count at : ℕ) → starts_wave (records_at file count at) ≡ true
      → pieces 0 (records_at file count at) ≡ wave (byte file at) (be 3 file (at + 1)) (wave_at file at) ∷ pieces 0 (records_at file (count - 256) (at + 1280))
  wave_next zero at e = absurd (false≢true (unfold starts_wave records_at in e))
  wave_next (suc count) at e =
      let long = wave_long (suc count) at e in
      let left : suc count - 256 ≡ count - 255 = omega arith in
      let place : at + 5 + 255 * 5 ≡ at + 1280 = omega arith in
      let behind : pieces 0 (drop 255 (records_at file count (at + 5))) ≡ pieces 0 (records_at file (suc count - 256) (at + 1280)) = rw (records_dropped 255 count (at + 5), left, place) in
      let rest = pieces_skip 255 (records_at file count (at + 5)) ∙ behind in
      choose count at true e ∙ (λ i. wave (byte file at) (be 3 file (at + 1)) (values_taken 256 (suc count) at long i) ∷ rest i)

  pub single_next : (count at : ℕ) → 0 < count → starts_wave (records_at file count at) ≡ false
      → pieces 0 (records_at file count at) ≡ single (record_of file at) ∷ pieces 0 (records_at file (count - 1) (at + 5))
  single_next zero at h e = absurd (not-suc-le-zero h)
  single_next (suc count) at h e =
      let left : suc count - 1 ≡ count = omega arith in
      rw left (choose count at false e)
