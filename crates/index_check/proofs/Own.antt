-- The tests and the place by an index, of an accepted file: an index is another one exactly where its bytes are not those of the file's own, and by
-- the own one the place of a frame is the stream's.
use Prim.Native.Nat.{ℕ, zero, suc, ◌+◌, ◌*◌, ◌-◌, ◌/◌, ◌%◌}
use mathlib.Core.Bool.{Bool, true, false, not, true≢false}
use mathlib.Core.List.{List, ◌++◌}
use mathlib.Core.Logic.{◌↔◌}
use mathlib.Core.Path.{◌≡◌, refl, sym, ap, subst, ◌∙◌}
use native.Mathlib.Nat.{zero-add}
use native.Mathlib.Omega.{arith}
use borrow.Author.Tests.{eq-eqb, eqb-true, ltb-false, not-false}
use lib.Dec.{eqb, ltb}
use lib.ListN.{length}
use Rattle.base_format.specs.Bytes.{AllBytes, Field, be, same_bytes}
use Rattle.base_format.specs.Checked.{ok}
use Rattle.base_format.specs.Header.{header_of}
use Rattle.base_format.specs.Index.{frame_place, entries_for, entry_count, index_of}
use Rattle.base_format.specs.Jump.{no_frame}
use Rattle.base_format.specs.Stream.{Stream, read}
use Rattle.base_format.proofs.Accepted.{accepted}
use Rattle.base_format.proofs.Checks.{or_false, positive}
use Rattle.base_format.proofs.Equal.{same_bytes_lem, bytes_self}
use Rattle.base_field_laws.proofs.Places.{Holds}
use Rattle.index_laws.specs.Built.{entries_walk, built_trailer}
use Rattle.index_laws.specs.Frames.{frames_walked}
use Rattle.index_laws.proofs.Frames.{frames_next}
use Rattle.index_laws.proofs.Index.{index_entry, index_right, built_is}
use Rattle.index_laws.proofs.Places.{frame_count}
use Rattle.index_check.specs.Other.{trailer_other, entries_other, other_index}
use Rattle.index_check.specs.Place.{place_by}

-- WHAT THE TESTS SAY, of any header

-- the trailer
trailer_holds : (index : List ℕ) (entries total : ℕ) → (trailer_other index (entries * 4) entries total ≡ false) ↔ Holds index 0 (entries * 4) (built_trailer entries total)
unfolding trailer_other
trailer_holds index entries total =
    let first : be 4 index (0 + entries * 4) ≡ be 4 index (entries * 4) = ap (be 4 index) (omega arith) in
    let second : be 4 index (0 + (entries * 4 + 4)) ≡ be 4 index (entries * 4 + 4) = ap (be 4 index) (omega arith) in
    let third : be 4 index (0 + (entries * 4 + 4 + 4)) ≡ be 4 index (entries * 4 + 8) = ap (be 4 index) (omega arith) in (
      λ e.
          let outer = or_false _ (not (eqb (be 4 index (entries * 4 + 8)) total)) e in
          let inner = or_false (not (eqb (be 4 index (entries * 4)) (entries * 4))) (not (eqb (be 4 index (entries * 4 + 4)) entries)) outer.0 in
          (first ∙ eqb-true _ _ (not-false _ inner.0), (second ∙ eqb-true _ _ (not-false _ inner.1), (third ∙ eqb-true _ _ (not-false _ outer.1), tt))),
      λ h. rw (eq-eqb _ _ (sym first ∙ h.0), eq-eqb _ _ (sym second ∙ h.1.0), eq-eqb _ _ (sym third ∙ h.1.1.0)),
    )

-- the entries from a number on, and the fields behind them
entries_hold : (version : ℕ) (file index : List ℕ) (count entry at : ℕ) (rest : List Field)
    → ((entries_other version file index count entry at ≡ false) × Holds index 0 ((entry + count) * 4) rest) ↔ Holds index 0 (entry * 4) (entries_walk version file count at ++ rest)
unfolding entries_other entries_walk
entries_hold version file index zero entry at rest =
    let end : (entry + 0) * 4 ≡ entry * 4 = omega arith in
    (λ both. subst (λ (n : ℕ). Holds index 0 n rest) end both.1, λ h. (refl, subst (λ (n : ℕ). Holds index 0 n rest) (sym end) h))
entries_hold version file index (suc count) entry at rest =
    let after = frames_walked version file 64 at in
    let more = entries_hold version file index count (entry + 1) after rest in
    let end : (entry + 1 + count) * 4 ≡ (entry + suc count) * 4 = omega arith in
    let next : (entry + 1) * 4 ≡ entry * 4 + 4 = omega arith in
    let here : be 4 index (0 + entry * 4) ≡ be 4 index (entry * 4) = ap (be 4 index) (zero-add (entry * 4)) in (
      λ both.
          let parts = or_false (not (eqb (be 4 index (entry * 4)) at)) (entries_other version file index count (entry + 1) after) both.0 in
          let others = more.0 (parts.1, subst (λ (n : ℕ). Holds index 0 n rest) (sym end) both.1) in
          (here ∙ eqb-true _ _ (not-false _ parts.0), subst (λ (n : ℕ). Holds index 0 n (entries_walk version file count after ++ rest)) next others),
      λ h.
          let found = more.1 (subst (λ (n : ℕ). Holds index 0 n (entries_walk version file count after ++ rest)) (sym next) h.1) in
          (rw (eq-eqb (be 4 index (entry * 4)) at (sym here ∙ h.0)) found.0, subst (λ (n : ℕ). Holds index 0 n rest) end found.1),
    )

-- OF AN ACCEPTED FILE

module _ (file : List ℕ) (s : Stream) (e : read file ≡ ok s) where
  -- the tests find no difference exactly where the index is the own one
  own_index : (index : List ℕ) → AllBytes index → (other_index file (header_of file) index ≡ false) ↔ (index ≡ index_of s)
  unfolding other_index
  own_index index bytes =
      let h = header_of file in
      let n = entries_for h.frame_count in
      let total = h.total_size in
      let count : n ≡ entry_count s = ap entries_for (sym (frame_count file s (accepted file s e).0)) in
      let place : (0 + n) * 4 ≡ n * 4 = omega arith in
      let right = index_right file s e index bytes in
      let walk = entries_hold h.version file index n 0 h.frame_start (built_trailer n total) in
      let built = built_is file s e in (
        λ none.
            let outer = or_false _ (entries_other h.version file index n 0 h.frame_start) none in
            let inner = or_false (not (eqb (length index) (n * 4 + 12))) (trailer_other index (n * 4) n total) outer.0 in
            let end = (trailer_holds index n total).0 inner.1 in
            let all = walk.0 (outer.1, subst (λ (k : ℕ). Holds index 0 k (built_trailer n total)) (sym place) end) in
            right.1 (eqb-true _ _ (not-false _ inner.0) ∙ ap (λ (k : ℕ). k * 4 + 12) count, subst (Holds index 0 0) built all),
        λ same.
            let found = right.0 same in
            let parts = walk.1 (subst (Holds index 0 0) (sym built) found.1) in
            let end = subst (λ (k : ℕ). Holds index 0 k (built_trailer n total)) place parts.1 in
            rw (eq-eqb (length index) (n * 4 + 12) (found.0 ∙ ap (λ (k : ℕ). k * 4 + 12) (sym count)), (trailer_holds index n total).1 end) parts.0,
      )

  pub other_index_lem : (index : List ℕ) → AllBytes index → other_index file (header_of file) index ≡ not (same_bytes index (index_of s))
  other_index_lem index bytes = go (other_index file (header_of file) index) refl (same_bytes index (index_of s)) refl
    where
      go : (other : Bool) → other_index file (header_of file) index ≡ other → (same : Bool) → same_bytes index (index_of s) ≡ same → other ≡ not same
      go true o false b = refl
      go false o true b = refl
      go true o true b = absurd (true≢false (sym o ∙ (own_index index bytes).1 (same_bytes_lem index (index_of s) b)))
      go false o false b = absurd (true≢false (sym (bytes_self index) ∙ ap (same_bytes index) ((own_index index bytes).0 o) ∙ b))

  pub place_by_lem : (frame : ℕ) → no_frame (length s.frames) frame ≡ false → place_by (header_of file).version file (index_of s) frame ≡ frame_place s (frame - 1)
  unfolding place_by
  place_by_lem frame there =
      let acc = (accepted file s e).0 in
      let tests = or_false (eqb frame 0) (ltb (length s.frames) frame) there in
      let most = ltb-false (length s.frames) frame tests.1 in
      let some = positive frame tests.0 in
      let n = frame - 1 in
      let number : n / 64 * 64 + n % 64 ≡ n = omega arith in
      ap (frames_walked (header_of file).version file (n % 64)) (index_entry file s e (n / 64) (omega arith)) ∙ frames_next file s acc (n % 64) (n / 64 * 64) (omega arith) ∙ ap (frame_place s) number
