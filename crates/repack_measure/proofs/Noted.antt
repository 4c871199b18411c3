-- Laws of what is noted while a master is measured: one use more, one frame more.
use Prim.Native.Nat.{ℕ, zero, suc, ◌+◌, ◌-◌, ◌≤◌, ◌<◌}
use mathlib.Core.Path.{◌≡◌, refl, sym, ap, ◌∙◌, subst}
use mathlib.Core.Bool.{true}
use mathlib.Core.List.{List, [], ◌∷◌, ◌++◌, append_assoc}
use native.Mathlib.Nat.{not-suc-le-zero}
use native.Mathlib.Numerals.{add-one}
use native.Mathlib.Decide.{ℕ_discrete}
use native.Mathlib.Omega.{arith}
use borrow.Author.Count.{below_more}
use lib.ListN.{length, get_or, take, set, replicate, length-set, length-replicate}
use lib.Seq.{get_or-set_same, get_or-set_other, take-suc-set}
use Rattle.base_format.specs.Bytes.{be}
use Rattle.base_format.specs.Repack.{is_known, place_of}
use Rattle.base_master.specs.Places.{frames_end, behind_frame, wave_at}
use Rattle.base_master.specs.Result.{piece_bytes, frame_waves, frame_bytes, all_waves}
use Rattle.base_master.specs.Uses.{uses_at, all_uses}
use Rattle.base_master.proofs.Master.{frames_behind}
use Rattle.base_master.proofs.Result.{all_next, size_frame}
use Rattle.base_master.proofs.Uses.{all_uses_next}
use Rattle.repack_wave_table.specs.Table.{waves_in, Added}
use Rattle.base_format.proofs.Known.{added_place, added_has, added_keeps_place, added_keeps}
use Rattle.repack_measure.specs.Measured.{Notes, notes, notes_with, notes_over, Noted, MeasuredFrame}

-- ---- a use

module _ {file places spots numbers : List ℕ} {waves uses : ℕ} (n : Noted file places spots numbers waves uses) where
  module _ {at : ℕ} {heads next heads' next' places' : List ℕ} {waves' number : ℕ} (a : Added file heads next places waves at heads' next' places' waves' number)
      (room : uses < 11468) (low : number ≤ 11468) where
    pub noted_more : Noted file places' (set spots uses at) (set numbers uses number) waves' (uses + 1)
    noted_more =
        let known = waves_in file places waves in
        let bytes = wave_at file at in
        let spots' = set spots uses at in
        let numbers' = set numbers uses number in
        let last : get_or spots' uses 0 ≡ at = get_or-set_same spots uses at 0 (omega (arith, n.spots_size)) in
        let kept : (k : ℕ) → k < uses → get_or spots' k 0 ≡ get_or spots k 0 = λ k less. get_or-set_other spots uses k at 0 (λ e. omega arith) in
        record {
          spots_size = length-set spots uses at ∙ n.spots_size;
          numbers_size = length-set numbers uses number ∙ n.numbers_size;
          few = omega arith;
          rest = λ k h. get_or-set_other spots uses k at 0 (λ e. omega arith) ∙ n.rest k (omega arith);
          small = λ k. low_at k (ℕ_discrete k uses);
          known =
              below_more (λ (k : ℕ). is_known (waves_in file places' waves') (wave_at file (get_or spots' k 0)) ≡ true) uses
              (λ k less. rw (kept k less, a.waves) (added_keeps known bytes (wave_at file (get_or spots k 0)) (n.known k less))) (rw (last, a.waves) (added_has known bytes));
          numbers_are =
              below_more (λ (k : ℕ). get_or numbers' k 0 ≡ place_of (waves_in file places' waves') (wave_at file (get_or spots' k 0))) uses
              (λ k less. rw (get_or-set_other numbers uses k number 0 (λ e. omega arith), kept k less, a.waves, added_keeps_place known bytes (wave_at file (get_or spots k 0)) (n.known k less)) (n.numbers_are k less))
              (rw (get_or-set_same numbers uses number 0 (omega (arith, n.numbers_size)), last, a.waves, added_place known bytes) a.number_is);
        }
      where
        low_at : (k : ℕ) → Dec (k ≡ uses) → get_or (set numbers uses number) k 0 ≤ 11468
        low_at k (yes same) = rw (same, get_or-set_same numbers uses number 0 (omega (arith, n.numbers_size))) low
        low_at k (no other) = rw (get_or-set_other numbers uses k number 0 other) (n.small k)

  pub taken_more : (at : ℕ) → uses < 11468 → (rest : List ℕ) → take uses spots ++ (at ∷ rest) ≡ take (uses + 1) (set spots uses at) ++ rest
  taken_more at room rest =
      rw (add-one uses, take-suc-set spots uses at (omega (arith, n.spots_size)), append_assoc)

-- all that is lent, with one use more
pub notes_more : {file heads next places heads' next' places' spots' numbers' : List ℕ} {waves at waves' number : ℕ} (spots numbers : List ℕ) (uses : ℕ)
    → Added file heads next places waves at heads' next' places' waves' number → spots' ≡ set spots uses at → numbers' ≡ set numbers uses number → (rest : List ℕ)
    → notes_over file (notes heads next places waves spots numbers uses) (at ∷ rest) ≡ notes_over file (notes heads' next' places' waves' spots' numbers' (uses + 1)) rest
unfolding notes_over notes_with
notes_more {file} spots numbers uses a s n rest =
    ap (λ (m : Notes). notes_over file m rest)
    (λ i. record { table = sym a.lists_are i; spots = sym s i; numbers = (ap (set numbers uses) (sym a.number_is) ∙ sym n) i; uses = uses + 1 })

-- and over uses that follow others
pub notes_append : (file : List ℕ) (m : Notes) (here rest : List ℕ) → notes_over file m (here ++ rest) ≡ notes_over file (notes_over file m here) rest
unfolding notes_over
notes_append file m [] rest = refl
notes_append file m (at ∷ here) rest = notes_append file (notes_with file m at) here rest

-- nothing is noted yet
zeros : (n k : ℕ) → ◌≡◌ {A = ℕ} (get_or (replicate n 0) k 0) 0
zeros zero k = refl
zeros (suc n) zero = refl
zeros (suc n) (suc k) = zeros n k

pub none_noted : (file places : List ℕ) → Noted file places (replicate 11469 0) (replicate 11468 0) 0 0
none_noted file places =
    record {
      spots_size = length-replicate {A = ℕ} 11469 0;
      numbers_size = length-replicate {A = ℕ} 11468 0;
      few = omega arith;
      rest = λ k h. zeros 11469 k;
      small = λ k. omega (arith, zeros 11468 k);
      known = λ k less. absurd (not-suc-le-zero less);
      numbers_are = λ k less. absurd (not-suc-le-zero less);
    }

-- ---- a frame that was measured

-- all that is lent: behind the first of so many frames, the others note the rest
pub notes_onward : (file : List ℕ) (left at records place : ℕ) (m m' : Notes) → 0 < left → be 2 file at ≡ records → behind_frame file at ≡ place
    → m' ≡ notes_over file m (uses_at file records (at + 2)) → notes_over file m (all_uses file left at) ≡ notes_over file m' (all_uses file (left - 1) place)
notes_onward file left at records place m m' h e p frame =
    ap (notes_over file m) (all_uses_next file left at h)
    ∙ notes_append file m (uses_at file (be 2 file at) (at + 2)) (all_uses file (left - 1) (behind_frame file at))
    ∙ rw (p, e, frame)

-- so many frames, of which the first was measured, and the others from a place on
pub record Onward (file : List ℕ) (left at waves uses : ℕ) (places spots places' spots' : List ℕ) (waves' uses' size place : ℕ) : Type 0 where
  pub waves_on : all_waves (waves_in file places waves) file left at ≡ all_waves (waves_in file places' waves') file (left - 1) place
  pub uses_on : take uses spots ++ all_uses file left at ≡ take uses' spots' ++ all_uses file (left - 1) place
  pub size_on : length (frame_bytes 0 [] file left at) ≡ 2 + size + length (frame_bytes 0 [] file (left - 1) place)
  pub end_on : frames_end file left at ≡ frames_end file (left - 1) place

pub onward : (file : List ℕ) (left at waves uses : ℕ) (places spots heads' next' places' spots' numbers' : List ℕ) (waves' uses' size records place : ℕ) → 0 < left
    → be 2 file at ≡ records → behind_frame file at ≡ place → MeasuredFrame file (at + 2) records waves uses places spots heads' next' places' spots' numbers' waves' uses' size
    → Onward file left at waves uses places spots places' spots' waves' uses' size place
onward file left at waves uses places spots heads' next' places' spots' numbers' waves' uses' size records place h e p frame =
    let rest = all_uses file (left - 1) (behind_frame file at) in
    subst (Onward file left at waves uses places spots places' spots' waves' uses' size) p (record {
      waves_on =
          all_next file (waves_in file places waves) left at h
          ∙ ap (λ (known : List (List ℕ)). all_waves known file (left - 1) (behind_frame file at)) (ap (λ (n : ℕ). frame_waves (waves_in file places waves) file n (at + 2)) e ∙ frame.waves_are);
      uses_on =
          ap (λ (l : List ℕ). take uses spots ++ l) (all_uses_next file left at h) ∙ sym (append_assoc (take uses spots) (uses_at file (be 2 file at) (at + 2)) rest)
          ∙ ap (λ (l : List ℕ). l ++ rest) (ap (λ (n : ℕ). take uses spots ++ uses_at file n (at + 2)) e ∙ frame.uses_are);
      size_on = size_frame file 0 [] left at h ∙ ap (λ (n : ℕ). 2 + n + length (frame_bytes 0 [] file (left - 1) (behind_frame file at))) (ap (λ (n : ℕ). length (piece_bytes 0 [] file n (at + 2))) e ∙ frame.size_is);
      end_on = frames_behind file left at h;
    })
