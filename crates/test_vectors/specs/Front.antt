-- What a program that replays stored answers reads from a file. Whether the bytes are there, and which they are, the kit's contracts leave
-- free; the rest is settled.
use Rattle.std.specs.Prelude.{◌≡◌, ℕ, ◌<◌, Bool, false, List, length, drop}

-- so many bytes were read to the front of a buffer: behind them it is as it was, and one that is too short stays whole and gives false
pub record ReadFront (size : ℕ) (before after : List ℕ) (whole : Bool) : Type 0 where
  pub same_length : length after ≡ length before
  pub behind : drop size after ≡ drop size before
  pub too_short : length before < size → (whole ≡ false) × (after ≡ before)
