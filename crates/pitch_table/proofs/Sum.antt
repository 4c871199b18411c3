-- Which sum stands at a place: that of a note and a shift at the note's place and the shift's steps above −48.
use Prim.Native.Nat.{ℕ, ◌+◌}
use mathlib.Core.Path.{◌≡◌, sym, ap, ◌∙◌}
use lib.IntN.{ℤ, pos, neg_ℤ, ◌+ℤ◌, ◌-ℤ◌, +ℤ_assoc, +ℤ-neg_ℤ_cancel}
use Rattle.pitch_table.specs.Pitch.{sum_at}

pub sum_at_lem : (note : ℕ) (semitones : ℤ) (steps : ℕ) → semitones +ℤ pos 48 ≡ pos steps → sum_at (note + steps) ≡ pos note +ℤ semitones
sum_at_lem note semitones steps is =
    +ℤ_assoc (pos note) (pos steps) (neg_ℤ (pos 48)) ∙ ap (λ (z : ℤ). pos note +ℤ z) (ap (λ (z : ℤ). z -ℤ pos 48) (sym is) ∙ +ℤ-neg_ℤ_cancel semitones (pos 48))
