-- Laws of the cards of a table: those behind its count are all 0.
use Prim.Native.Nat.{ℕ, zero, suc, ◌-◌}
use mathlib.Core.List.{List, [], ◌∷◌, ◌++◌}
use mathlib.Core.Path.{◌≡◌, refl}
use lib.ListN.{length, get_or, replicate}
use Rattle.base_format.specs.Checked.{ok}
use Rattle.base_format.specs.State.{no_card, table_of}
use Rattle.base_format.specs.Stream.{Stream, read}
use Rattle.check_file.specs.Answer.{recorded}
use Rattle.sgub_answers.specs.Surface.{card_on}

-- behind a list stands what stands for an element that it has not
padded : {A : Type 0} (l : List A) (n i : ℕ) (d : A) → get_or (l ++ replicate n d) i d ≡ get_or l i d
padded [] zero i d = refl
padded [] (suc n) zero d = refl
padded [] (suc n) (suc i) d = padded [] n i d
padded (x ∷ l) n zero d = refl
padded (x ∷ l) n (suc i) d = padded l n i d

-- the card that is told of an accepted file is the stream's, and all 0 from their count on
pub card_told : (file : List ℕ) (s : Stream) (index : ℕ) → read file ≡ ok s → (card_on (recorded file) index).card ≡ get_or s.cards index no_card
unfolding table_of
card_told file s index e = rw e (padded s.cards (8 - length s.cards) index no_card)
