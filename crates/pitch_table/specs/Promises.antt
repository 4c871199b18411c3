-- What is promised of the rule: exactly one number up to 65,535 meets it, and that is the pitch.
use Rattle.std.specs.Prelude.{ℕ, ◌<◌, ◌≤◌, ◌≡◌, true, ℤ}
use Rattle.pitch_table.specs.Pitch.{is_pitch, pitch_of, sum_at}

-- the rule leaves no choice: `no_choice`, proofs/Rule
abbrev pub NoChoice : Type 0
NoChoice = (s : ℤ) (f g : ℕ) → f ≤ 65535 → g ≤ 65535 → is_pitch s f ≡ true → is_pitch s g ≡ true → f ≡ g

-- the pitch meets it, whatever the sum is: `pitch_meets`, proofs/Rule
abbrev pub PitchMeets : Type 0
PitchMeets = (s : ℤ) → (pitch_of s ≤ 65535) × (is_pitch s (pitch_of s) ≡ true)

-- it is at least 1 for every sum from −48 on, so that the rule's "2f − 1" falls below 0 for no entry: `pitch_positive`, proofs/Positive
abbrev pub PitchPositive : Type 0
PitchPositive = (place : ℕ) → 0 < pitch_of (sum_at place)
