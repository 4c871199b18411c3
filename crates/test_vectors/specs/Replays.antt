-- A list that is replayed: the entries, one after the other; and a script: its steps.
use Rattle.std.specs.Prelude.{◌≡◌, ◌≢◌, ℕ, ◌+◌, ◌≤◌, Bool, List, Result, Ok}
use Rattle.std.specs.Fn.{Mut, CalledAt, CalledWithState}
use Rattle.std.specs.Int.{from_bool}
use denote.Ref.{Bor, MutBor}
use Rattle.test_vectors.specs.declared.Counts.{Counts}
use Rattle.test_vectors.specs.Counts.{CountsWith}

module _ {F R E : Type 0} (g : Mut F (MutBor R × (ℕ × Unit {0})) (Result Counts E × (MutBor R × Unit {0}))) (first : F) where
  -- so many entries are replayed, from the first call on: what the closure is left as, and the counts
  pub data Replays : (entries : ℕ) → F → Counts → Type 0 where
    unbegun : (counts : Counts) → counts.same ≡ 0 → counts.different ≡ 0 → Replays 0 first counts
    entry : (entries : ℕ) (f f' : F) (input input' : R) (number : ℕ) (counts more behind : Counts)
        → Replays entries f counts → number ≢ 0xFFFFFFFF → CalledWithState g f input number (Ok more) f' input' → CountsWith counts more behind
        → Replays (entries + 1) f' behind

  -- the counts of a list of so many entries at most
  pub record ReplaysAtMost (most : ℕ) (counts : Counts) : Type 0 where
    pub entries : ℕ
    pub within : entries ≤ most
    pub left : F
    pub replayed : Replays entries left counts

module _ {F : Type 0} (g : Mut F (Bor (List ℕ) × Unit {0}) Bool) (first : F) where
  -- so many steps are replayed, from the first call on: how many are answered as stored, and what the closure is left as
  pub data Steps : (steps same : ℕ) → F → Type 0 where
    unbegun_steps : Steps 0 0 first
    step : (steps same : ℕ) (f f' : F) (stored : List ℕ) (answer : Bool) → Steps steps same f → CalledAt g f stored answer f' → Steps (steps + 1) (same + from_bool answer) f'

  -- the counts of a script of so many steps, of which some may not be there
  pub record ReplaysSteps (steps : ℕ) (counts : Counts) : Type 0 where
    pub there : ℕ
    pub within : there ≤ steps
    pub left : F
    pub replayed : Steps there counts.same left
    pub other : counts.same + counts.different ≡ steps
