-- Laws of a segment: what fits, how many records it stores, and each of them.
use Prim.Native.Nat.{ℕ, zero, suc, ◌+◌, ◌≤◌, ◌<◌}
use mathlib.Core.Bool.{Bool, true, false, cond, ◌&&◌, ◌||◌, false≢true}
use mathlib.Core.List.{List, [], ◌∷◌}
use mathlib.Core.Path.{◌≡◌, refl, sym, ap, ◌∙◌}
use native.Mathlib.Omega.{arith}
use borrow.Author.Tests.{ltb-false, le-ltb}
use lib.Dec.{ltb}
use lib.ListN.{length, get_or, set, drop, replicate, length-take, length-drop, length-replicate, get_or-replicate}
use lib.Seq.{paste, length-paste, get_or-take, get_or-drop}
use Rattle.base_format.specs.declared.operation.WriteRecord.{WriteRecord}
use Rattle.base_format.specs.Bytes.{byte, part}
use Rattle.base_format.specs.Writes.{write}
use Rattle.base_format.proofs.Checks.{or_false}
use Rattle.base_format.proofs.Lent.{paste_more}
use Rattle.base_format.proofs.Writes.{length_upward, upward_at}
use Rattle.play_store_segment.specs.declared.Segment.{Segment}
use Rattle.play_store_segment.specs.Segment.{values_of, records_of, too_long, fitting, inserted, segment_stored}
use Rattle.play_store_segment.proofs.Lists.{paste_all, length_inserted, inserted_none}

-- so many of a segment's records fit
pub record Fitting (room at size : ℕ) (segment : Segment) (n : ℕ) : Type 0 where
  pub inside : at + n ≤ room
  pub addresses : segment.address + n ≤ 0x100000000
  pub bytes : segment.copied ≡ true → segment.from + n ≤ size

module _ (room at size : ℕ) (segment : Segment) where
  all_fit : too_long room at size segment ≡ false → Fitting room at size segment segment.count
  unfolding too_long
  all_fit e =
      let three = or_false (ltb room (at + segment.count) || ltb 0x100000000 (segment.address + segment.count)) _ e in
      let two = or_false (ltb room (at + segment.count)) _ three.0 in
      record { inside = ltb-false _ _ two.0; addresses = ltb-false _ _ two.1; bytes = λ copied. ltb-false _ _ (go segment.copied copied three.1) }
    where
      go : (copied : Bool) {long : Bool} → copied ≡ true → (copied && long) ≡ false → long ≡ false
      go true c e = e
      go false c e = absurd (false≢true c)

  -- those that are stored fit
  pub fitting_fits : 0 < fitting room at size segment → Fitting room at size segment (fitting room at size segment)
  unfolding fitting
  fitting_fits = go (too_long room at size segment) refl
    where
      go : (b : Bool) → too_long room at size segment ≡ b → 0 < cond b 0 segment.count → Fitting room at size segment (cond b 0 segment.count)
      go false e some = all_fit e
      go true e some = absurd (omega arith)

  -- all are stored where all fit
  pub fitting_all : (0 < segment.count → Fitting room at size segment segment.count) → fitting room at size segment ≡ segment.count
  unfolding fitting too_long
  fitting_all fits = go segment.count refl
    where
      go : (n : ℕ) → segment.count ≡ n → fitting room at size segment ≡ segment.count
      go zero none = both (too_long room at size segment)
        where
          both : (b : Bool) → cond b 0 segment.count ≡ segment.count
          both true = sym none
          both false = refl
      go (suc n) some =
          let fit = fits (omega (arith, some)) in
          rw (le-ltb _ _ fit.inside, le-ltb _ _ fit.addresses) (ap (λ (b : Bool). cond b 0 segment.count) (last segment.copied refl fit.bytes))
        where
          last : (copied : Bool) → segment.copied ≡ copied → (segment.copied ≡ true → segment.from + segment.count ≤ size) → (copied && ltb size (segment.from + segment.count)) ≡ false
          last false e bytes = refl
          last true e bytes = le-ltb _ _ (bytes e)

part_long : (file : List ℕ) (from n : ℕ) → (0 < n → from + n ≤ length file) → length (part file from n) ≡ n
part_long file from zero within = refl
part_long file from (suc n) within =
    let enough : from + suc n ≤ length file = within (omega arith) in
    length-take (suc n) (drop from file) ∙ rw (length-drop from file) (omega arith)

values_long : (file : List ℕ) (segment : Segment) (n : ℕ) → (0 < n → segment.copied ≡ true → segment.from + n ≤ length file) → length (values_of file segment n) ≡ n
values_long file segment n within = go segment.copied within
  where
    go : (copied : Bool) → (0 < n → copied ≡ true → segment.from + n ≤ length file) → length (cond copied (part file segment.from n) (replicate n segment.value)) ≡ n
    go true within = part_long file segment.from n (λ some. within some refl)
    go false within = length-replicate n segment.value

-- the value of a record
abbrev pub value_at : List ℕ → Segment → (i : ℕ) → ℕ
value_at file segment i = cond segment.copied (byte file (segment.from + i)) segment.value

value_at_lem : (file : List ℕ) (segment : Segment) (n i : ℕ) → i < n → get_or (values_of file segment n) i 0 ≡ value_at file segment i
value_at_lem file segment n i less = go segment.copied
  where
    go : (copied : Bool) → get_or (cond copied (part file segment.from n) (replicate n segment.value)) i 0 ≡ cond copied (byte file (segment.from + i)) segment.value
    go true = get_or-take n (drop segment.from file) i 0 less ∙ get_or-drop segment.from file i 0
    go false = get_or-replicate n i segment.value 0 less

-- so many records, where their bytes are in the file
module _ (file : List ℕ) (segment : Segment) (n : ℕ) (within : 0 < n → segment.copied ≡ true → segment.from + n ≤ length file) where
  pub records_count : length (records_of file segment n) ≡ n
  records_count = length_upward _ _ (values_of file segment n) ∙ values_long file segment n within

  pub record_of_lem : (i : ℕ) (d : WriteRecord) → i < n → get_or (records_of file segment n) i d ≡ write segment.target (segment.address + i) (value_at file segment i)
  record_of_lem i d less =
      let enough : i < length (values_of file segment n) = rw (values_long file segment n within) less in
      upward_at segment.target segment.address (values_of file segment n) i d enough ∙ ap (write segment.target (segment.address + i)) (value_at_lem file segment n i less)

module _ (file : List ℕ) (segment : Segment) (at : ℕ) (run : List WriteRecord) where
  abbrev n : ℕ
  n = fitting (length run) at (length file) segment

  bytes_fit : 0 < n → segment.copied ≡ true → segment.from + n ≤ length file
  bytes_fit some copied = (fitting_fits (length run) at (length file) segment some).bytes copied

  pub records_long : length (records_of file segment n) ≡ n
  records_long = records_count file segment n bytes_fit

  pub record_at_lem : (i : ℕ) (d : WriteRecord) → i < n → get_or (records_of file segment n) i d ≡ write segment.target (segment.address + i) (value_at file segment i)
  record_at_lem i d less = record_of_lem file segment n bytes_fit i d less

  -- THE RUN AFTER SOME TURNS

  abbrev pub pasted : (i : ℕ) → List WriteRecord
  pasted i = paste run at (records_of file segment n) i

  pub paste_long : (i : ℕ) → i < n → length (pasted i) ≡ length run
  paste_long i less =
      let fit = fitting_fits (length run) at (length file) segment (omega arith) in
      length-paste run at (records_of file segment n) i (omega (arith, fit.inside)) (rw records_long (omega arith))

  pub record_next : (i : ℕ) → i < n → set (pasted i) (at + i) (write segment.target (segment.address + i) (value_at file segment i)) ≡ pasted (i + 1)
  record_next i less =
      let fit = fitting_fits (length run) at (length file) segment (omega arith) in
      paste_more run at (records_of file segment n) i _ (omega (arith, fit.inside)) (rw records_long less) (record_at_lem i _ less)

  pub stored_is : pasted n ≡ segment_stored file segment at run
  unfolding segment_stored
  stored_is = paste_all run at (records_of file segment n) n (sym records_long)

  -- the run with all of the segment, where all of it fits
  pub stored_all : (0 < segment.count → Fitting (length run) at (length file) segment segment.count) → segment_stored file segment at run ≡ inserted at (records_of file segment segment.count) run
  unfolding segment_stored
  stored_all fits = rw (fitting_all (length run) at (length file) segment fits)

  -- the run keeps its length
  pub stored_long : length (segment_stored file segment at run) ≡ length run
  unfolding segment_stored
  stored_long = go n refl
    where
      none : (l : List WriteRecord) → length l ≡ 0 → l ≡ []
      none [] e = refl
      none (x ∷ l) e = absurd (omega (arith, e))

      go : (k : ℕ) → n ≡ k → length (inserted at (records_of file segment n) run) ≡ length run
      go zero e = ap (λ (l : List WriteRecord). length (inserted at l run)) (none (records_of file segment n) (records_long ∙ e)) ∙ ap length (inserted_none run at)
      go (suc k) e = length_inserted run at (records_of file segment n) (rw records_long (fitting_fits (length run) at (length file) segment (omega (arith, e))).inside)
