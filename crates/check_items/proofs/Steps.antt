-- One step of the loop over operations: what remains decides.
use Prim.Native.Nat.{ℕ, zero, suc, ◌-◌, ◌<◌}
use mathlib.Core.Bool.{Bool, true, false, ◌||◌}
use mathlib.Core.List.{List, ◌∷◌}
use mathlib.Core.Path.{◌≡◌, refl, ap}
use native.Mathlib.Nat.{not-suc-le-zero}
use native.Mathlib.Omega.{arith}
use lib.Dec.{eqb}
use Rattle.base_format.specs.declared.operation.Item.{Item}
use Rattle.base_format.specs.declared.operation.Operation.{Operation}
use Rattle.base_format.specs.declared.rule.Refusal.{Refusal}
use Rattle.base_format.specs.Checked.{Checked, ok, refused, mapped, ◌>>=◌}
use Rattle.base_format.specs.Operation.{Setting, item_at}
use Rattle.base_format.specs.Rule.{refusal}
use Rattle.base_format.specs.Stream.{operations_from}
use Rattle.base_format.specs.Writes.{target_number, any_si22}
use Rattle.check_items.specs.Walk.{walk_step, walked_with, walked}

or_assoc : (a b c : Bool) → (a || (b || c)) ≡ ((a || b) || c)
or_assoc true b c = refl
or_assoc false b c = refl

-- what is found of the items behind one
abbrev said : (seen : Bool) → List Operation × ℕ → ℕ × Bool
said seen found = (found.1, seen || any_si22 found.0)

-- what is found of one item
abbrev after : (seen : Bool) → Item → ℕ × Bool
after seen item = (item.next, seen || eqb (target_number item.operation) 11)

joined : (seen : Bool) (item : Checked Item) (rest : ℕ → Checked (List Operation × ℕ))
    → mapped (said seen) (item >>= λ i. rest i.next >>= λ found. ok (i.operation ∷ found.0, found.1)) ≡ (mapped (after seen) item >>= λ r. mapped (said r.1) (rest r.0))
unfolding any_si22
joined seen (refused number place) rest = refl
joined seen (ok i) rest = go (rest i.next)
  where
    go : (r : Checked (List Operation × ℕ)) → mapped (said seen) (r >>= λ found. ok (i.operation ∷ found.0, found.1)) ≡ mapped (said (after seen i).1) r
    go (ok found) = ap (λ (b : Bool). ok (found.1, b)) (or_assoc seen (eqb (target_number i.operation) 11) (any_si22 found.0))
    go (refused number place) = refl

-- one item, then the others
pub walk_step_lem : (seen : Bool) (setting : Setting) (file : List ℕ) (limit count at : ℕ) → 0 < count
    → walked_with seen setting file limit count at ≡ (walk_step seen setting file limit at >>= λ (r : ℕ × Bool). walked_with r.1 setting file limit (count - 1) r.0)
unfolding operations_from
walk_step_lem seen setting file limit zero at h = absurd (not-suc-le-zero h)
walk_step_lem seen setting file limit (suc count) at h =
    let less : suc count - 1 ≡ count = omega arith in
    rw less (joined seen (item_at setting file limit at) (λ place. operations_from setting file limit count place))

-- an item that is refused, and one that is read
module _ (seen : Bool) (setting : Setting) (file : List ℕ) (limit left at : ℕ) where
  pub walk_refused : (r : Refusal) → 0 < left → refusal r ≡ item_at setting file limit at → walked_with seen setting file limit left at ≡ refusal r
  walk_refused r h e = rw (walk_step_lem seen setting file limit left at h, ← e)

  pub walk_next : (item : Item) → 0 < left → ok item ≡ item_at setting file limit at
      → walked_with seen setting file limit left at ≡ walked_with (seen || eqb (target_number item.operation) 11) setting file limit (left - 1) item.next
  walk_next item h e = rw (walk_step_lem seen setting file limit left at h, ← e)

-- behind the last one
pub walk_end : (seen : Bool) (setting : Setting) (file : List ℕ) (limit at : ℕ) → walked_with seen setting file limit 0 at ≡ ok (at, seen)
unfolding operations_from any_si22
walk_end true setting file limit at = refl
walk_end false setting file limit at = refl

-- operations behind others, one of which may have had target 11
pub walked_with_lem : (seen : Bool) (setting : Setting) (file : List ℕ) (limit count at : ℕ)
    → walked_with seen setting file limit count at ≡ mapped {B = ℕ × Bool} (λ (found : ℕ × Bool). (found.0, seen || found.1)) (walked setting file limit count at)
walked_with_lem seen setting file limit count at = go (operations_from setting file limit count at)
  where
    go : (r : Checked (List Operation × ℕ))
        → mapped {B = ℕ × Bool} (λ (found : List Operation × ℕ). (found.1, seen || any_si22 found.0)) r
        ≡ mapped {B = ℕ × Bool} (λ (found : ℕ × Bool). (found.0, seen || found.1)) (mapped {B = ℕ × Bool} (λ (found : List Operation × ℕ). (found.1, any_si22 found.0)) r)
    go (ok found) = refl
    go (refused number place) = refl
