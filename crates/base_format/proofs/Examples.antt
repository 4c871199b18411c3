-- Every row of the table of examples holds: antt computes what the definitions give.
use Prim.Native.Nat.{ℕ, suc}
use mathlib.Core.Bool.{Bool, true, false, cond}
use mathlib.Core.Path.{◌≡◌, refl, ap₂}
use mathlib.Core.List.{List, [], ◌∷◌, map, cons≢nil}
use Rattle.base_format.specs.Bytes.{same_bytes}
use Rattle.base_format.specs.Examples.{Row, failing, table, empty, empty_repacked, with_record, with_fill}
use Rattle.base_format.proofs.Equal.{same_bytes_lem}
use Rattle.base_format.proofs.Computed.{reading, writing, repacking, listing, playing}

-- no row fails: where one does, the refusal shows its number
none_fails : failing 1 table ≡ []
unfolding failing table empty empty_repacked with_record with_fill reading writing repacking listing playing
none_fails = refl

row_holds : (n : ℕ) (row : Row) (rows : List Row) (b : Bool) → same_bytes row.found row.expected ≡ b
    → cond b (failing (suc n) rows) (n ∷ failing (suc n) rows) ≡ [] → (row.found ≡ row.expected) × (failing (suc n) rows ≡ [])
row_holds n row rows true e h = (same_bytes_lem row.found row.expected e, h)
row_holds n row rows false e h = absurd (cons≢nil h)

every_row : (n : ℕ) (rows : List Row) → failing n rows ≡ [] → map (λ (row : Row). row.found) rows ≡ map (λ (row : Row). row.expected) rows
unfolding failing
every_row n [] h = refl
every_row n (row ∷ rows) h =
    let both = row_holds n row rows (same_bytes row.found row.expected) refl h in
    ap₂ ◌∷◌ both.0 (every_row (suc n) rows both.1)

-- P1 to P12: what the definitions give is what the book says
pub examples : map (λ (row : Row). row.found) table ≡ map (λ (row : Row). row.expected) table
examples = every_row 1 table none_fails
