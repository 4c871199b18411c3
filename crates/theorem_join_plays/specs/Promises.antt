-- What is promised of a player of a joined file (document 02, T-04): which vsyncs its calls complete.
use Rattle.std.specs.Prelude.{ℕ, suc, ◌+◌, ◌*◌, ◌<◌, true, false, List, [], ◌⊎◌, ◌≡◌, length, get_or}
use Rattle.base_format.specs.declared.operation.WriteRecord.{WriteRecord}
use Rattle.base_format.specs.Bytes.{AllBytes}
use Rattle.base_format.specs.Checked.{Checked}
use Rattle.base_format.specs.Listener.{Call, AllAdmissible, answers, completed, vsync_records}
use Rattle.base_format.specs.Player.{Played}
use Rattle.base_format.specs.State.{started}
use Rattle.base_format.specs.Stream.{Stream}
use Rattle.base_format.specs.Writes.{frame_writes, vsync}
use Rattle.join_stream.specs.Join.{join_made, join_into, stream_in}

-- the frames of both pieces: a pass
abbrev pub pass_length : (a b : Stream) → ℕ
pass_length a b = length a.frames + length b.frames

-- a completed vsync, counted from 0, has these records over its calls
abbrev pub Gave : List (Checked Played) → (n : ℕ) → List WriteRecord → Type 0
Gave told n writes = n < completed told → get_or (vsync_records told) n [] ≡ writes

-- what a player of two pieces told: as many lists of records as vsyncs were completed, and each as it is here
pub record GaveBoth (a b : Stream) (told : List (Checked Played)) : Type 0 where
  pub each_completed : length (vsync_records told) ≡ completed told
  -- "One pass gives the first's vsyncs"
  pub firsts : (k : ℕ) → k < length a.frames → Gave told k (vsync a k)
  -- "then the second's"; "a repeat plays the second's opening again, within its frame"
  pub seconds : (pass k : ℕ) → k < length b.frames → (pass ≡ 0) ⊎ (b.repeat ≡ true) → Gave told (pass * pass_length a b + (length a.frames + k)) (vsync b k)
  -- the first's frames in later passes
  pub again : (pass k : ℕ) → k < length a.frames → b.repeat ≡ true → Gave told (suc pass * pass_length a b + k) (frame_writes a k)
  -- "Repeat is the second's": its closing writes, then nothing
  pub closes : (k : ℕ) → b.repeat ≡ false → Gave told (pass_length a b + k) (vsync b (length b.frames + k))

-- any list of calls of a player of what joining made: `join_plays_both`, proofs/Player
abbrev pub JoinPlaysBoth : Type 0
JoinPlaysBoth =
    (file file' bytes : List ℕ) (room : ℕ) → AllBytes file → AllBytes file' → join_into file file' room ≡ join_made bytes
    → (calls : List Call) → AllAdmissible bytes (started bytes) calls
    → GaveBoth (stream_in file) (stream_in file') (answers (started bytes) calls)
