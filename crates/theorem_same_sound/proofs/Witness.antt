-- Two files that the comparison passes, played with jumps in the middle, before the first vsync and on a finished state: what is shown of players that
-- jump alike speaks of some. Computed.
use Prim.Native.Nat.{ℕ}
use mathlib.Core.Bool.{true, false}
use mathlib.Core.List.{List, [], ◌∷◌}
use mathlib.Core.Path.{◌≡◌, refl, sym, ap, ◌∙◌}
use Rattle.base_format.specs.declared.operation.Operation.TheVariants.{Write}
use Rattle.base_format.specs.declared.player.StreamPlayer.{StreamPlayer}
use Rattle.base_format.specs.Checked.{ok}
use Rattle.base_format.specs.Compare.{image_of, same_writes, core_writes, same_frames, agree, agreed, read_version, compared}
use Rattle.base_format.specs.Index.{index_of}
use Rattle.base_format.specs.Jump.{jumped, state_after}
use Rattle.base_format.specs.Listener.{after, own_file, completed}
use Rattle.base_format.specs.Player.{call}
use Rattle.base_format.specs.Promises.{TogetherWithJumps}
use Rattle.base_format.specs.State.{started}
use Rattle.base_format.specs.Steps.{Answer, step_answers, jump_own_file, AllAdmissibleSteps, call_answers, completed_all_begun, jumps_made, completed_vsyncs}
use Rattle.base_format.specs.Stream.{Stream}
use Rattle.base_format.specs.Writes.{first, later}
use Rattle.base_format.specs.Written.{written}
use Rattle.base_format.proofs.Computed.{reading, writing, listing, playing, jumping, stepping}
use Rattle.base_format.proofs.Equal.{bytes_self}
use Rattle.base_format.proofs.Samples.{Move, play, to, steps_of}
use Rattle.theorem_same_sound.proofs.SameSound.{demand3_with_jumps}

-- three frames, in version 1 and in version 2
three : (version : ℕ) → Stream
three version = record {
  version = version;
  repeat = false;
  period = 0;
  cards = [];
  pools = [];
  opening = Write 1 1 7 ∷ [];
  frames = (Write 0 3 5 ∷ Write 1 3 6 ∷ []) ∷ (Write 0 4 8 ∷ []) ∷ [] ∷ [];
}

reads_one : read_version 1 (written (three 1)) ≡ ok (three 1)
unfolding three read_version reading writing
reads_one = refl

reads_two : read_version 2 (written (three 2)) ≡ ok (three 2)
unfolding three read_version reading writing
reads_two = refl

threes_agree : agree (three 1) (three 2) ≡ true
unfolding three same_writes core_writes same_frames agree listing
threes_agree = rw (bytes_self (image_of (three 2)))

threes_pass : compared (written (three 1)) (written (three 2)) 1048576 1048576 ≡ agreed true
unfolding compared
threes_pass = rw (reads_one, reads_two) (ap agreed threes_agree)

moves_admissible : (s : Stream) (state : StreamPlayer) (moves : List Move) → AllAdmissibleSteps (written s) state (steps_of s moves)
unfolding steps_of
moves_admissible s state [] = tt
moves_admissible s state (play room ∷ moves) = (own_file refl, moves_admissible s (after state (call state (written s) room)) moves)
moves_admissible s state (to frame ∷ moves) = (jump_own_file refl, moves_admissible s (state_after state (jumped state (written s) (index_of s) frame)) moves)

told : Stream → List Move → List Answer
told s moves = step_answers (started (written s)) (steps_of s moves)

-- the two jump alike, completed what they began, and completed equally many
record Premises (moves moves' : List Move) (jumps : List (ℕ × ℕ)) (count : ℕ) : Type 0 where
  whole : completed_all_begun (told (three 1) moves) ≡ true
  whole' : completed_all_begun (told (three 2) moves') ≡ true
  made : jumps_made (told (three 1) moves) ≡ jumps
  made' : jumps_made (told (three 2) moves') ≡ jumps
  counted : completed (call_answers (told (three 1) moves)) ≡ count
  counted' : completed (call_answers (told (three 2) moves')) ≡ count

alike : (moves moves' : List Move) (jumps : List (ℕ × ℕ)) (count : ℕ) → Premises moves moves' jumps count
    → TogetherWithJumps (written (three 1)) (written (three 2)) (told (three 1) moves) (told (three 2) moves')
unfolding told
alike moves moves' jumps count p =
    demand3_with_jumps (written (three 1)) (written (three 2)) 1048576 1048576 threes_pass (steps_of (three 1) moves) (steps_of (three 2) moves')
    (moves_admissible (three 1) (started (written (three 1))) moves) (moves_admissible (three 2) (started (written (three 2))) moves')
    p.whole p.whole' (p.made ∙ sym p.made') (p.counted ∙ sym p.counted')

-- IN THE MIDDLE: after the second vsync back to frame 1, by a player with room for one record and by one with room for all
middle : List Move
middle = play 1 ∷ play 1 ∷ play 1 ∷ play 1 ∷ to 1 ∷ play 1 ∷ play 1 ∷ play 1 ∷ []

middle' : List Move
middle' = play 40 ∷ play 40 ∷ to 9 ∷ to 1 ∷ play 40 ∷ play 40 ∷ []

middle_vsyncs : completed_vsyncs (told (three 1) middle) ≡ first ∷ later 1 ∷ later 0 ∷ later 1 ∷ []
unfolding told middle steps_of three reading writing listing playing jumping stepping
middle_vsyncs = refl

middle_premises : Premises middle middle' ((2, 1) ∷ []) 4
unfolding completed told middle middle' steps_of three reading writing listing playing jumping stepping
middle_premises = record { whole = refl; whole' = refl; made = refl; made' = refl; counted = refl; counted' = refl }

middle_alike : TogetherWithJumps (written (three 1)) (written (three 2)) (told (three 1) middle) (told (three 2) middle')
middle_alike = alike middle middle' ((2, 1) ∷ []) 4 middle_premises

-- BEFORE THE FIRST VSYNC: the opening is never played
before : List Move
before = to 2 ∷ play 1 ∷ play 0 ∷ play 20 ∷ play 12 ∷ []

before' : List Move
before' = to 2 ∷ play 40 ∷ play 40 ∷ play 40 ∷ []

before_vsyncs : completed_vsyncs (told (three 1) before) ≡ later 1 ∷ later 2 ∷ later 3 ∷ []
unfolding told before steps_of three reading writing listing playing jumping stepping
before_vsyncs = refl

before_premises : Premises before before' ((0, 2) ∷ []) 3
unfolding completed told before before' steps_of three reading writing listing playing jumping stepping
before_premises = record { whole = refl; whole' = refl; made = refl; made' = refl; counted = refl; counted' = refl }

before_alike : TogetherWithJumps (written (three 1)) (written (three 2)) (told (three 1) before) (told (three 2) before')
before_alike = alike before before' ((0, 2) ∷ []) 3 before_premises

-- ON A FINISHED STATE: it plays again, and closes again
finished : List Move
finished = play 40 ∷ play 40 ∷ play 40 ∷ play 40 ∷ play 40 ∷ to 3 ∷ play 40 ∷ play 40 ∷ play 40 ∷ []

finished' : List Move
finished' = play 3 ∷ play 1 ∷ play 0 ∷ play 32 ∷ play 0 ∷ to 3 ∷ play 0 ∷ play 32 ∷ play 0 ∷ []

finished_vsyncs : completed_vsyncs (told (three 1) finished) ≡ first ∷ later 1 ∷ later 2 ∷ later 3 ∷ later 4 ∷ later 2 ∷ later 3 ∷ later 4 ∷ []
unfolding told finished steps_of three reading writing listing playing jumping stepping
finished_vsyncs = refl

finished_premises : Premises finished finished' ((5, 3) ∷ []) 8
unfolding completed told finished finished' steps_of three reading writing listing playing jumping stepping
finished_premises = record { whole = refl; whole' = refl; made = refl; made' = refl; counted = refl; counted' = refl }

finished_alike : TogetherWithJumps (written (three 1)) (written (three 2)) (told (three 1) finished) (told (three 2) finished')
finished_alike = alike finished finished' ((5, 3) ∷ []) 8 finished_premises
