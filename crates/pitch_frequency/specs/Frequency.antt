-- "Note numbers to pitch": the pitch register of a note and a shift, or refusal 28.
use Rattle.std.specs.Prelude.{ℕ, Bool, ◌||◌, ltb, ℤ, pos, negsuc, ◌+ℤ◌}
use Rattle.std.specs.Int.Signed.{lt_z}
use Rattle.base_format.specs.Checked.{Checked, ok, refuse, ◌>>◌}
use Rattle.pitch_table.specs.Pitch.{pitch_of}

-- "a note above 127 or a shift outside the range", which is "−48 to 48 semitones" (28); `negsuc 47` is −48
unfoldable pub out_of_range : (note : ℕ) (semitones : ℤ) → Bool
out_of_range note semitones = ltb 127 note || lt_z semitones (negsuc 47) || lt_z (pos 48) semitones

-- the pitch of the sum of the two
unfoldable pub frequency_of : (note : ℕ) (semitones : ℤ) → Checked ℕ
frequency_of note semitones = refuse 28 0 (out_of_range note semitones) >> ok (pitch_of (pos note +ℤ semitones))
