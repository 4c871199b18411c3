-- The ways in which a call goes on with a part, with the tests that lead to each of them.
use Prim.Native.Nat.{ℕ, ◌+◌}
use mathlib.Core.Bool.{Bool, true, false, cond, not}
use mathlib.Core.List.{List}
use mathlib.Core.Path.{◌≡◌, refl}
use lib.Dec.{eqb, ltb}
use lib.ListN.{length}
use Rattle.std.specs.Prelude.{Some, None}
use Rattle.base_format.specs.declared.header.Header.{Header}
use Rattle.base_format.specs.declared.player.NextPart.{NextPart}
use Rattle.base_format.specs.declared.player.NextPart.TheVariants.{Opening, Frame, Closing}
use Rattle.base_format.specs.declared.player.Part.TheVariants as Part
use Rattle.base_format.specs.declared.player.Progress.{Progress}
use Rattle.base_format.specs.Next.{next_part, by_next}
use Rattle.base_format.specs.State.{part_number, opening_from, position_of}
use Rattle.base_format.specs.Stream.{opening_limit}
use Rattle.play_belongs.specs.Foreign.{foreign_to}
use Rattle.play_fast_part.specs.declared.PlayingPart.{PlayingPart}
use Rattle.play_fast_part.specs.PlayingPart.{going_on, under_way, frame_on, frame_begun_at, part_between, playing_part_of}

-- the opening begins; a frame begins; the opening goes on; a frame goes on
pub data Way (file : List ℕ) (header : Header) (p : Progress) (c : PlayingPart) : Type 0 where
  opens : eqb p.part (part_number Part.Between) ≡ true → next_part header p ≡ Opening → c ≡ going_on (opening_limit header file) (opening_from header) → Way file header p c
  begins : eqb p.part (part_number Part.Between) ≡ true → (place frame : ℕ) → next_part header p ≡ Frame place frame
      → ltb (length file) (place + 2) ≡ false → c ≡ frame_on file place frame → Way file header p c
  opening : eqb p.part (part_number Part.Between) ≡ false → eqb p.part (part_number Part.Opening) ≡ true → c ≡ going_on (opening_limit header file) (position_of p) → Way file header p c
  frame : eqb p.part (part_number Part.Between) ≡ false → eqb p.part (part_number Part.Opening) ≡ false → eqb p.part (part_number Part.Frame) ≡ true → p.initialized ≡ true
      → c ≡ going_on (length file) (position_of p) → Way file header p c

pub record Found (file : List ℕ) (header : Header) (cards : ℕ) (p : Progress) (c : PlayingPart) : Type 0 where
  pub unfinished : p.finished ≡ false
  pub own : foreign_to (length file) header cards p ≡ false
  pub way : Way file header p c

module _ (file : List ℕ) (header : Header) (p : Progress) (c : PlayingPart) where
  frame_found : (place number : ℕ) → Some c ≡ frame_begun_at file place number → (ltb (length file) (place + 2) ≡ false) × (c ≡ frame_on file place number)
  unfolding frame_begun_at
  frame_found place number e = go (ltb (length file) (place + 2)) refl e
    where
      go : (short : Bool) → ltb (length file) (place + 2) ≡ short → Some c ≡ cond short None (Some (frame_on file place number))
          → (ltb (length file) (place + 2) ≡ false) × (c ≡ frame_on file place number)
      go true s h = cc
      go false s h = (s, cc h)

  between_found : eqb p.part (part_number Part.Between) ≡ true → Some c ≡ part_between file header p → Way file header p c
  unfolding part_between
  between_found between e = go (next_part header p) refl e
    where
      go : (next : NextPart) → next_part header p ≡ next
          → Some c ≡ by_next next (Some (going_on (opening_limit header file) (opening_from header))) (frame_begun_at file) None → Way file header p c
      go Opening is h = opens between is (cc h)
      go (Frame place number) is h =
          let found = frame_found place number h in
          begins between place number is found.0 found.1
      go Closing is h = cc

  under_way_found : eqb p.part (part_number Part.Between) ≡ false → Some c ≡ under_way file header p → Way file header p c
  unfolding under_way
  under_way_found between e = go (eqb p.part (part_number Part.Opening)) refl (eqb p.part (part_number Part.Frame)) refl p.initialized refl e
    where
      go : (first : Bool) → eqb p.part (part_number Part.Opening) ≡ first → (framed : Bool) → eqb p.part (part_number Part.Frame) ≡ framed → (on : Bool) → p.initialized ≡ on
          → Some c ≡ cond first (Some (going_on (opening_limit header file) (position_of p))) (cond (not framed) None (cond (not on) None (Some (going_on (length file) (position_of p)))))
          → Way file header p c
      go true o framed f on i h = opening between o (cc h)
      go false o false f on i h = cc
      go false o true f false i h = cc
      go false o true f true i h = frame between o f i (cc h)

  pub playing_part_found : (cards : ℕ) → Some c ≡ playing_part_of file header cards p → Found file header cards p c
  unfolding playing_part_of
  playing_part_found cards e = go p.finished refl (foreign_to (length file) header cards p) refl (eqb p.part (part_number Part.Between)) refl e
    where
      go : (over : Bool) → p.finished ≡ over → (other : Bool) → foreign_to (length file) header cards p ≡ other → (between : Bool)
          → eqb p.part (part_number Part.Between) ≡ between
          → Some c ≡ cond over None (cond other None (cond between (part_between file header p) (under_way file header p))) → Found file header cards p c
      go true o other f between b h = cc
      go false o true f between b h = cc
      go false o false f true b h = record { unfinished = o; own = f; way = between_found b h }
      go false o false f false b h = record { unfinished = o; own = f; way = under_way_found b h }
