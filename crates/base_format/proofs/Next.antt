-- The opening is next exactly before the first vsync.
use Prim.Native.Nat.{ℕ}
use mathlib.Core.Bool.{Bool, true, false, cond, not}
use mathlib.Core.Path.{◌≡◌, refl}
use lib.Dec.{ltb}
use Rattle.base_format.specs.declared.header.Header.{Header}
use Rattle.base_format.specs.declared.player.NextPart.{NextPart}
use Rattle.base_format.specs.declared.player.NextPart.TheVariants.{Frame, Closing}
use Rattle.base_format.specs.declared.player.Progress.{Progress}
use Rattle.base_format.specs.Next.{frame_next, opening_next, closing_next, next_part}

module _ (header : Header) (p : Progress) where
  abbrev chosen : (on more again : Bool) → NextPart
  chosen on more again =
      cond (not on) opening_next (cond more (frame_next p.cursor p.frame_index) (cond again (frame_next header.frame_start 0) closing_next))

  pub next_unbegun : next_part header p ≡ opening_next → p.initialized ≡ false
  unfolding next_part
  next_unbegun e = go p.initialized (ltb p.frame_index header.frame_count) header.repeat e
    where
      go : (on more again : Bool) → chosen on more again ≡ opening_next → on ≡ false
      go false more again h = refl
      go true true again h = cc
      go true false true h = cc
      go true false false h = cc

  pub next_frame_begun : (place frame : ℕ) → next_part header p ≡ Frame place frame → p.initialized ≡ true
  unfolding next_part
  next_frame_begun place frame e = go p.initialized (ltb p.frame_index header.frame_count) header.repeat e
    where
      go : (on more again : Bool) → chosen on more again ≡ Frame place frame → on ≡ true
      go false more again h = cc
      go true more again h = refl

  pub next_closing_begun : next_part header p ≡ Closing → p.initialized ≡ true
  unfolding next_part
  next_closing_begun e = go p.initialized (ltb p.frame_index header.frame_count) header.repeat e
    where
      go : (on more again : Bool) → chosen on more again ≡ Closing → on ≡ true
      go false more again h = cc
      go true more again h = refl
