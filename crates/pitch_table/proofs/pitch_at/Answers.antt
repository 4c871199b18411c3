-- `pitch_table::pitch_at` meets its contract: the rule is computed once over the code's own list, and carried to the entry that is read.
-- In each branch the place within a half is the place itself.
use native.Mathlib.Omega.{arith}
use Prim.Native.Nat.{ℕ, ◌<◌, ◌+◌, ◌%◌}
use mathlib.Core.Path.{◌≡◌, refl, ap, ◌∙◌}
use mathlib.Core.Bool.{true}
use lib.ListN.{get_or}
use Rattle.base_format.proofs.Every.{every}
use Rattle.pitch_table.specs.Pitch.{middle, twelfth, is_pitch, pitch_of, sum_at}
use Rattle.pitch_table.specs.declared.TheConstants.{PITCHES}
use Rattle.pitch_table.proofs.Table.{is_entry, entry_is}
use Rattle.pitch_table.proofs.pitch_at.Goals as goal

rule : every 224 (is_entry PITCHES) ≡ true
unfolding middle twelfth is_pitch is_entry
rule = refl

found : (at place : ℕ) → place < 224 → place ≡ at → get_or PITCHES place 0 ≡ pitch_of (sum_at at)
found at place h is = entry_is PITCHES rule place h ∙ ap (λ (n : ℕ). pitch_of (sum_at n)) is

pub returns-then-place-lt112 : goal.returns-then-place-lt112
returns-then-place-lt112 c = found c.args.place (c.args.place % 112) (omega arith) (omega arith)

pub returns : goal.returns
returns c = found c.args.place (112 + c.args.place % 112) (omega arith) (omega arith)
