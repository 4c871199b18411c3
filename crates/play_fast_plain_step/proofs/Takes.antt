-- What a plain step that is taken says: how many operations it takes, that all of them are plain WRITEs, and that they stand in the
-- file.
use Prim.Native.Nat.{ℕ, ◌-◌, ◌≤◌, ◌<◌, min}
use mathlib.Core.Bool.{Bool, true, false, cond, not}
use mathlib.Core.List.{List}
use mathlib.Core.Path.{◌≡◌, refl, sym}
use native.Mathlib.Omega.{arith}
use borrow.Author.Tests.{eqb-true}
use lib.Dec.{eqb}
use lib.ListN.{length}
use Rattle.std.specs.Prelude.{Option, Some, None}
use Rattle.play_fast_plain.specs.Plain.{plain_behind}
use Rattle.play_fast_part.specs.declared.PlayingPart.{PlayingPart}
use Rattle.play_fast_step.specs.declared.Step.{Step}
use Rattle.play_fast_step.specs.declared.StepWrites.TheVariants.{Plain}
use Rattle.play_fast_part.specs.PlayingPart.{left_of}
use Rattle.play_fast_step.specs.Step.{step_to}
use Rattle.play_fast_step.proofs.Stepped.{taken_from}
use Rattle.play_fast_plain_step.specs.PlainStep.{plain_step_by, plain_step}

pub record Takes (file : List ℕ) (version room : ℕ) (c : PlayingPart) (step : Step) : Type 0 where
  pub count : ℕ
  pub behind : ℕ
  pub few : count ≤ left_of c
  pub fit : count ≤ room
  pub full : count < left_of c → count ≡ room
  pub unbegun : c.at.write_index ≡ 0
  pub some : Some behind ≡ plain_behind version file c.limit count c.at.cursor
  pub is : Some step ≡ step_to c (left_of c - count) behind 0 (Plain count)

pub plain_takes : (file : List ℕ) (version room : ℕ) (c : PlayingPart) (step : Step) → Some step ≡ plain_step file version c room → Takes file version room c step
unfolding plain_step
plain_takes file version room c step e = go (eqb c.at.write_index 0) refl (plain_behind version file c.limit count c.at.cursor) refl e
  where
    count : ℕ
    count = min room (left_of c)

    go : (unbegun : Bool) → eqb c.at.write_index 0 ≡ unbegun → (behind : Option ℕ) → plain_behind version file c.limit count c.at.cursor ≡ behind
        → Some step ≡ cond (not unbegun) None (plain_step_by c (left_of c) count behind) → Takes file version room c step
    go false u behind b h = cc
    go true u None b h = cc
    go true u (Some behind) b h = passed (eqb behind 0) h
      where
        passed : (first : Bool) → Some step ≡ cond first None (step_to c (left_of c - count) behind 0 (Plain count)) → Takes file version room c step
        passed true e = cc
        passed false e =
            record { count = count; behind = behind; few = omega arith; fit = omega arith; full = λ less. omega (arith, less); unbegun = eqb-true _ _ u; some = sym b; is = e }

-- what is stored by it
pub record Plainly (file : List ℕ) (version room : ℕ) (step : Step) : Type 0 where
  pub end : ℕ
  pub count : ℕ
  pub behind : ℕ
  pub inside : end ≤ length file
  pub some : Some behind ≡ plain_behind version file end count step.from
  pub is : step.writes ≡ Plain count
  pub fit : count ≤ room

takes_plainly : (file : List ℕ) (version room : ℕ) (c : PlayingPart) (step : Step) → c.limit ≤ length file → Takes file version room c step → Plainly file version room step
takes_plainly file version room c step inside takes =
    let from = taken_from c _ _ 0 (Plain takes.count) step takes.is in
    record { end = c.limit; count = takes.count; behind = takes.behind; inside = inside; some = rw from.0 takes.some; is = from.1; fit = takes.fit }

pub plain_plainly : (file : List ℕ) (version room : ℕ) (c : PlayingPart) (step : Step) → c.limit ≤ length file → Some step ≡ plain_step file version c room → Plainly file version room step
plain_plainly file version room c step inside e = takes_plainly file version room c step inside (plain_takes file version room c step e)
