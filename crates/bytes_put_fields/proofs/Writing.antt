-- Writing under way: what is written so far, with the bytes still to write, is the whole.
use Prim.Native.Nat.{ℕ, ◌+◌, ◌≤◌}
use mathlib.Core.Path.{◌≡◌, refl, sym, ap, ◌∙◌}
use mathlib.Core.List.{List, [], ◌++◌}
use native.Mathlib.Omega.{arith}
use lib.ListN.{length, length-append}
use Rattle.bytes_read.specs.Put.{put}
use Rattle.bytes_read.proofs.Laws.{length_put}
use Rattle.bytes_read.proofs.Sequence.{put_next, put_none}

-- `whole` goes to `at` of the memory `before`; `rest` of it is still to go to `place` of the memory `now`
pub record Writing (whole : List ℕ) (at : ℕ) (before rest : List ℕ) (place : ℕ) (now : List ℕ) : Type 0 where
  pub same : put whole at before ≡ put rest place now
  pub fits : place + length rest ≤ length now
  pub end : place + length rest ≡ at + length whole
  pub size : length now ≡ length before

pub starts : (whole : List ℕ) (at : ℕ) (before : List ℕ) → at + length whole ≤ length before → Writing whole at before whole at before
starts whole at before h = record { same = refl; fits = h; end = refl; size = refl }

module _ {whole : List ℕ} {at : ℕ} {before rest : List ℕ} {place : ℕ} {now : List ℕ} (w : Writing whole at before rest place now) where
  -- the first bytes of the rest are written
  pub wrote : (bytes rest' : List ℕ) (size : ℕ) {place' : ℕ} {now' : List ℕ}
      → rest ≡ bytes ++ rest' → length bytes ≡ size → place' ≡ place + size → now' ≡ put bytes place now
      → Writing whole at before rest' place' now'
  wrote bytes rest' size {place'} {now'} is e there puts =
      let long : length rest ≡ length bytes + length rest' = ap length is ∙ length-append bytes rest' in
      let kept : length now' ≡ length now = ap length puts ∙ length_put bytes place now in
      record {
        same =
            w.same
            ∙ ap (λ (l : List ℕ). put l place now) is
            ∙ put_next bytes rest' place size now e (rw is at w.fits)
            ∙ (λ i. put rest' (sym there i) (sym puts i));
        fits = omega (arith, w.fits);
        end = omega (arith, w.end);
        size = kept ∙ w.size;
      }

  -- nothing is written, and the rest is said in another way
  pub told : (rest' : List ℕ) {place' : ℕ} {now' : List ℕ} → rest ≡ rest' → place' ≡ place → now' ≡ now → Writing whole at before rest' place' now'
  told rest' is there same' =
      record {
        same = w.same ∙ (λ i. put (is i) (sym there i) (sym same' i));
        fits = omega (arith, w.fits, ap length is, ap length same');
        end = omega (arith, w.end, ap length is);
        size = ap length same' ∙ w.size;
      }

  -- nothing is left
  pub ends : rest ≡ [] → (now ≡ put whole at before) × (place ≡ at + length whole)
  ends none =
      let zero : length rest ≡ 0 = ap length none in
      (sym (w.same ∙ ap (λ (l : List ℕ). put l place now) none ∙ put_none place now (omega (arith, w.fits))), omega (arith, w.end))
