-- Laws of lent memory: elements that are stored one by one, from a place or from the front on; the list after so many of them, and
-- after all. `paste` of the library is the list after so many of them from a place on.
use Prim.Native.Nat.{ℕ, ◌+◌, ◌≤◌, ◌<◌}
use mathlib.Core.List.{List, ◌++◌}
use mathlib.Core.Path.{◌≡◌, refl, sym, ap, ◌∙◌}
use native.Mathlib.Nat.{zero-add}
use native.Mathlib.Numerals.{add-one}
use native.Mathlib.Omega.{arith}
use lib.ListN.{length, get_or, set, take, drop}
use lib.Seq.{paste, paste-suc, length-paste, take-length, take_at}
use Rattle.base_format.specs.Checked.{Checked}
use Rattle.base_format.specs.Lent.{stored}
use Rattle.base_format.specs.Player.{Played, run_after}
use Rattle.base_format.specs.Promises.{Reports}

-- one more, from a place on
pub paste_more : {A : Type 0} (old : List A) (at : ℕ) (new : List A) (j : ℕ) (x : A) → at + j < length old → j < length new → get_or new j x ≡ x
    → set (paste old at new j) (at + j) x ≡ paste old at new (j + 1)
paste_more {A} old at new j x within less e =
    ap (λ (y : A). set (paste old at new j) (at + j) y) (sym e) ∙ paste-suc old at new j x within less ∙ ap (paste old at new) (sym (add-one j))

-- the list after so many from the front on
abbrev pub pasted : {A : Type 0} → (new old : List A) → (i : ℕ) → List A
pasted new old i = take i new ++ drop i old

module _ {A : Type 0} (new old : List A) (fits : length new ≤ length old) where
  pasted_is : (i : ℕ) → paste old 0 new i ≡ pasted new old i
  pasted_is i = rw (zero-add i)

  pub pasted_long : (i : ℕ) → i ≤ length new → length (pasted new old i) ≡ length old
  pasted_long i few = ap length (sym (pasted_is i)) ∙ length-paste old 0 new i (omega arith) few

  -- one more
  pub pasted_next : (i : ℕ) (x : A) → i < length new → get_or new i x ≡ x → set (pasted new old i) i x ≡ pasted new old (i + 1)
  pasted_next i x less e = rw (zero-add i, zero-add (i + 1)) at (paste_more old 0 new i x (omega arith) less e)

  -- all of them
  pub pasted_all : (n : ℕ) → n ≡ length new → pasted new old n ≡ stored new old
  pasted_all n e = ap (pasted new old) e ∙ ap (λ (l : List A). l ++ drop (length new) old) (take-length new)

  -- the list keeps its length
  pub stored_long : length (stored new old) ≡ length old
  stored_long = ap length (sym (pasted_all (length new) refl)) ∙ pasted_long (length new) (omega arith)

-- WHAT A CALL REPORTS

-- so many elements from the front are those that were stored
pub stored_front : {A : Type 0} (new old : List A) → take (length new) (stored new old) ≡ new
stored_front new old = take_at new (drop (length new) old) (length new) refl

pub reports : Reports
reports state file run answer e =
    ap (λ (told : Checked Played). take (length answer.records) (run_after run told)) e ∙ stored_front answer.records run
