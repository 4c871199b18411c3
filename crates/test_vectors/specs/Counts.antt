-- The counts of a program that replays a list of stored answers.
use Rattle.std.specs.Prelude.{◌≡◌, ◌+◌, ◌%◌, ◌^◌}
use Rattle.test_vectors.specs.declared.Counts.{Counts}

-- the counts behind an entry: so many more answers as stored and not as stored
pub record CountsWith (counts entry behind : Counts) : Type 0 where
  pub stored : behind.same ≡ (counts.same + entry.same) % 2 ^ 64
  pub other : behind.different ≡ (counts.different + entry.different) % 2 ^ 64
