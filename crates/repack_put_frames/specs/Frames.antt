-- The lists of what was noted of a master.
use Rattle.std.specs.Prelude.{ℕ, ◌≤◌, List, ◌≡◌, length, get_or}

-- their lengths; a number fits a pool's id
pub record NotedLists (spots numbers : List ℕ) : Type 0 where
  pub spots_size : length spots ≡ 11469
  pub numbers_size : length numbers ≡ 11468
  pub small : (k : ℕ) → get_or numbers k 0 ≤ 11468
