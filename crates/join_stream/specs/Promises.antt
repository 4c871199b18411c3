-- What is promised of two pieces joined: how they play (document 02, T-04).
use Rattle.std.specs.Prelude.{ℕ, suc, ◌+◌, ◌*◌, ◌<◌, true, false, ◌⊎◌, ◌≡◌, length}
use Rattle.base_format.specs.Stream.{Stream}
use Rattle.base_format.specs.Writes.{frame_writes, vsync}

-- how a stream plays that is two pieces, one after the other: `plays_both`, proofs/Played. Vsyncs are counted from 0
pub record PlaysBoth (a b whole : Stream) : Type 0 where
  pub length_both : length whole.frames ≡ length a.frames + length b.frames
  -- "One pass gives the first's vsyncs", its opening with its frame 1
  pub firsts : (k : ℕ) → k < length a.frames → vsync whole k ≡ vsync a k
  -- "then the second's": in the first pass, and in every later one of a file that repeats; "a repeat plays the second's opening again, within its
  -- frame". "No closing writes come between": these vsyncs are the next ones
  pub seconds : (pass k : ℕ) → k < length b.frames → (pass ≡ 0) ⊎ (b.repeat ≡ true)
      → vsync whole (pass * length whole.frames + (length a.frames + k)) ≡ vsync b k
  -- in later passes the first's frames come without its opening
  pub again : (pass k : ℕ) → k < length a.frames → b.repeat ≡ true → vsync whole (suc pass * length whole.frames + k) ≡ frame_writes a k
  -- "Repeat is the second's": behind the last frame of one that does not repeat come its closing writes, then nothing
  pub closes : (k : ℕ) → b.repeat ≡ false → vsync whole (length whole.frames + k) ≡ vsync b (length b.frames + k)
