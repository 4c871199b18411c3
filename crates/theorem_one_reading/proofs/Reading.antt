-- One file, one reading: the file format as lists within the limits and their writing, for all four versions.
use Prim.Native.Nat.{ℕ}
use mathlib.Core.Logic.{◌↔◌}
use mathlib.Core.Path.{◌≡◌, sym, ap, ◌∙◌, subst}
use mathlib.Core.List.{List}
use Rattle.base_format.specs.Bytes.{AllBytes}
use Rattle.base_format.specs.Checked.{ok}
use Rattle.base_format.specs.Limits.{Limits}
use Rattle.base_format.specs.Promises.{OneReading}
use Rattle.base_format.specs.Stream.{Stream, read}
use Rattle.base_format.specs.Written.{written}
use Rattle.base_round_trip.proofs.Rewritten.{accepted}
use Rattle.base_format.proofs.Checks.{ok_is}
use Rattle.base_round_trip.proofs.Whole.{round_trip}

-- a file reads as a stream exactly when that stream is within the limits and is written so
reads_as : (file : List ℕ) (s : Stream) → AllBytes file → (read file ≡ ok s) ↔ (Limits s × (written s ≡ file))
reads_as file s bytes = (accepted file s bytes, λ h. subst (λ (f : List ℕ). read f ≡ ok s) h.1 (round_trip s h.0))

pub one_reading : OneReading
one_reading file bytes = (λ s. reads_as file s bytes, λ s s' h h'. ok_is (sym (round_trip s h.0) ∙ ap read (h.1 ∙ sym h'.1) ∙ round_trip s' h'.0))
