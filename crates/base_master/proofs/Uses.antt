-- Laws of the places where waves are used: record by record, frame by frame, and what a noted place tells of a record.
use Prim.Native.Nat.{ℕ, zero, suc, ◌+◌, ◌*◌, ◌-◌, ◌≤◌, ◌<◌}
use mathlib.Core.Path.{◌≡◌, refl, sym, ap, ◌∙◌}
use mathlib.Core.Bool.{Bool, true, false, false≢true}
use mathlib.Core.List.{List, [], ◌∷◌, ◌++◌, append_assoc}
use native.Mathlib.Nat.{add-zero, not-suc-le-zero}
use native.Mathlib.Omega.{arith}
use lib.ListN.{length, get_or, take, drop, length-append, take-append-drop}
use lib.Seq.{get_or-drop, drop-drop, drop_at, length-take-le}
use Rattle.base_format.specs.Bytes.{be}
use Rattle.base_format.specs.Repack.{starts_wave}
use Rattle.base_master.specs.Places.{records_at, behind_frame}
use Rattle.base_master.specs.Uses.{uses_in, uses_at, all_uses, Later, Marked, MarkedFrames}
use Rattle.base_master.proofs.Pieces.{skip_all, wave_long}

module _ (file : List ℕ) where
  uses_skip : (skip count at : ℕ) → uses_in file skip count at ≡ uses_in file 0 (count - skip) (at + skip * 5)
  unfolding uses_in
  uses_skip = skip_all (uses_in file) (λ skip at place. refl) (λ skip count at. refl)

  abbrev chosen : (count at : ℕ) → Bool → List ℕ
  chosen count at b = elim b as (λ (x : Bool). List ℕ) [ true ↦ at ∷ uses_in file 255 count (at + 5) | false ↦ uses_in file 0 count (at + 5) ]

  choose : (count at : ℕ) (b : Bool) → starts_wave (records_at file (suc count) at) ≡ b → uses_at file (suc count) at ≡ chosen count at b
  unfolding uses_in
  choose count at b e = ap (chosen count at) e

  -- the uses from a place on: here and behind the wave, or behind the record
  pub uses_none : (at : ℕ) → uses_at file 0 at ≡ []
  unfolding uses_in
  uses_none at = refl

  pub uses_wave : (count at : ℕ) → starts_wave (records_at file count at) ≡ true → uses_at file count at ≡ at ∷ uses_at file (count - 256) (at + 1280)
  uses_wave zero at e = absurd (false≢true (unfold starts_wave records_at in e))
  uses_wave (suc count) at e =
      let left : suc count - 256 ≡ count - 255 = omega arith in
      let place : at + 5 + 255 * 5 ≡ at + 1280 = omega arith in
      choose count at true e ∙ ap (λ (l : List ℕ). at ∷ l) (uses_skip 255 count (at + 5) ∙ rw (left, place))

  pub uses_single : (count at : ℕ) → 0 < count → starts_wave (records_at file count at) ≡ false → uses_at file count at ≡ uses_at file (count - 1) (at + 5)
  uses_single zero at h e = absurd (not-suc-le-zero h)
  uses_single (suc count) at h e =
      let left : suc count - 1 ≡ count = omega arith in
      rw left (choose count at false e)

  -- frame by frame
  pub all_uses_none : (at : ℕ) → all_uses file 0 at ≡ []
  unfolding all_uses
  all_uses_none at = refl

  pub all_uses_next : (count at : ℕ) → 0 < count → all_uses file count at ≡ uses_at file (be 2 file at) (at + 2) ++ all_uses file (count - 1) (behind_frame file at)
  unfolding all_uses
  all_uses_next zero at h = absurd (not-suc-le-zero h)
  all_uses_next (suc count) at h =
      let e : suc count - 1 ≡ count = omega arith in
      rw e

  -- the first use among records does not lie before them
  pub head_later : (skip count at : ℕ) (more : List ℕ) → Later (at + count * 5) (get_or more 0 0) → Later at (get_or (uses_in file skip count at ++ more) 0 0)
  unfolding uses_in
  head_later skip zero at more later some = omega (arith, later some)
  head_later (suc skip) (suc count) at more later some = omega (arith, head_later skip count (at + 5) more (λ h. omega (arith, later h)) some)
  head_later zero (suc count) at more later some = go (head_later 0 count (at + 5) more (λ h. omega (arith, later h))) (starts_wave (records_at file (suc count) at)) some
    where
      go : Later (at + 5) (get_or (uses_in file 0 count (at + 5) ++ more) 0 0) → (b : Bool) → Later at (get_or (chosen count at b ++ more) 0 0)
      go rest true some = omega arith
      go rest false some = omega (arith, rest some)

  all_later : (count at : ℕ) (more : List ℕ) → get_or more 0 0 ≡ 0 → Later at (get_or (all_uses file count at ++ more) 0 0)
  unfolding all_uses
  all_later zero at more none some = absurd (some none)
  all_later (suc count) at more none some =
      let rest = all_later count (behind_frame file at) more none in
      let here = head_later 0 (be 2 file at) (at + 2) (all_uses file count (behind_frame file at) ++ more) rest in
      omega (arith, rw (← (append_assoc (uses_at file (be 2 file at) (at + 2)) (all_uses file count (behind_frame file at)) more)) at here some)

-- what the next noted place tells of the record at a place
module _ {file spots : List ℕ} {used count at : ℕ} (m : Marked file spots used count at) where
  next_is : get_or spots used 0 ≡ get_or (uses_at file count at ++ m.more) 0 0
  next_is = sym (get_or-drop used spots 0 0 ∙ rw add-zero) ∙ ap (λ (l : List ℕ). get_or l 0 0) m.marks

  pub wave_marked : starts_wave (records_at file count at) ≡ true → get_or spots used 0 ≡ at
  wave_marked e = next_is ∙ rw (uses_wave file count at e)

  single_unmarked : 0 < count → 0 < at → starts_wave (records_at file count at) ≡ false → get_or spots used 0 ≡ at → ⊥
  single_unmarked h pos e here =
      let next : get_or spots used 0 ≡ get_or (uses_at file (count - 1) (at + 5) ++ m.more) 0 0 = next_is ∙ rw (uses_single file count at h e) in
      let later = head_later file 0 (count - 1) (at + 5) m.more (λ some. omega (arith, m.later some)) in
      omega (arith, later (λ z. omega (arith, z)))

  pub marked_starts : 0 < count → 0 < at → get_or spots used 0 ≡ at → starts_wave (records_at file count at) ≡ true
  marked_starts h pos here = go (starts_wave (records_at file count at)) refl
    where
      go : (b : Bool) → starts_wave (records_at file count at) ≡ b → b ≡ true
      go true e = refl
      go false e = absurd (single_unmarked h pos e here)

  pub unmarked_starts : (get_or spots used 0 ≡ at → ⊥) → starts_wave (records_at file count at) ≡ false
  unmarked_starts other = go (starts_wave (records_at file count at)) refl
    where
      go : (b : Bool) → starts_wave (records_at file count at) ≡ b → b ≡ false
      go true e = absurd (other (wave_marked e))
      go false e = refl

  -- behind a wave, and behind a record
  pub behind_wave : starts_wave (records_at file count at) ≡ true → Marked file spots (used + 1) (count - 256) (at + 1280)
  behind_wave e =
      let long = wave_long file count at e in
      let here = uses_wave file count at e in
      record {
        more = m.more;
        marks = sym (drop-drop 1 used spots) ∙ ap (drop 1) (m.marks ∙ ap (λ (l : List ℕ). l ++ m.more) here);
        later = λ some. omega (arith, m.later some);
        few = omega (arith, m.few, ap length here);
      }

  pub behind_single : 0 < count → starts_wave (records_at file count at) ≡ false → Marked file spots used (count - 1) (at + 5)
  behind_single h e =
      let here = uses_single file count at h e in
      record {
        more = m.more;
        marks = m.marks ∙ ap (λ (l : List ℕ). l ++ m.more) here;
        later = λ some. omega (arith, m.later some);
        few = omega (arith, m.few, ap length here);
      }

-- a frame and those behind it
module _ {file spots : List ℕ} {used count at : ℕ} (m : MarkedFrames file spots used count at) where
  pub frame_marked : 0 < count → Marked file spots used (be 2 file at) (at + 2)
  frame_marked h =
      let here = uses_at file (be 2 file at) (at + 2) in
      let rest = all_uses file (count - 1) (behind_frame file at) in
      let next = all_uses_next file count at h in
      let last : get_or (drop m.uses spots) 0 0 ≡ 0 = get_or-drop m.uses spots 0 0 ∙ rw add-zero m.last in
      record {
        more = rest ++ drop m.uses spots;
        marks = m.marks ∙ ap (λ (l : List ℕ). l ++ drop m.uses spots) next ∙ append_assoc here rest (drop m.uses spots);
        later = all_later file (count - 1) (behind_frame file at) (drop m.uses spots) last;
        few = omega (arith, m.few, m.most, ap length next, length-append here rest);
      }

  pub frames_marked : 0 < count → {used' : ℕ} → used' ≡ used + length (uses_at file (be 2 file at) (at + 2)) → MarkedFrames file spots used' (count - 1) (behind_frame file at)
  unfolding frame_marked
  frames_marked h {used'} e =
      let here = uses_at file (be 2 file at) (at + 2) in
      let rest = all_uses file (count - 1) (behind_frame file at) in
      let next = all_uses_next file count at h in
      record {
        uses = m.uses;
        most = m.most;
        marks =
            ap (λ (n : ℕ). drop n spots) e
            ∙ sym (drop-drop (length here) used spots)
            ∙ ap (drop (length here)) (frame_marked h).marks
            ∙ drop_at here (rest ++ drop m.uses spots) (length here) refl;
        last = m.last;
        few = omega (arith, m.few, ap length next, length-append here rest);
      }

-- what is noted of all frames
pub all_marked : {file spots : List ℕ} {uses count at : ℕ} → uses ≤ length spots → uses ≤ 11468 → take uses spots ≡ all_uses file count at → get_or spots uses 0 ≡ 0 → MarkedFrames file spots 0 count at
all_marked {file} {spots} {uses} {count} {at} room most is last =
    record {
      uses = uses;
      marks = sym (take-append-drop uses spots) ∙ ap (λ (l : List ℕ). l ++ drop uses spots) is;
      last = last;
      few = omega (arith, ap length (sym is), length-take-le uses spots room);
      most = most;
    }
