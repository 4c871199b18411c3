-- Indexes and jumps, computed. Each stands here for the must-fail edits that it refuses; what holds of every file and every list of steps is proved
-- in the crates index_laws and theorem_same_sound.
use Prim.Native.Nat.{ℕ}
use mathlib.Core.Bool.{Bool, true, false}
use mathlib.Core.Path.{◌≡◌, refl}
use mathlib.Core.List.{List, [], ◌∷◌, ◌++◌, map}
use lib.ListN.{set, replicate}
use Rattle.base_format.specs.declared.card.CardRequirement.{CardRequirement}
use Rattle.base_format.specs.declared.operation.Operation.{Operation}
use Rattle.base_format.specs.declared.operation.Operation.TheVariants.{Write, Copy}
use Rattle.base_format.specs.declared.player.StreamPlayer.{StreamPlayer}
use Rattle.base_format.specs.declared.player.WaveSource.{WaveSource}
use Rattle.base_format.specs.Checked.{Checked, ok, refused}
use Rattle.base_format.specs.Examples.{empty}
use Rattle.base_format.specs.Index.{index_of, index_into}
use Rattle.base_format.specs.Jump.{jumped, state_after}
use Rattle.base_format.specs.Listener.{completed}
use Rattle.base_format.specs.Player.{placed, frame_start, closing_at}
use Rattle.base_format.specs.State.{no_wave, between_at, progress_at, moved, started}
use Rattle.base_format.specs.Steps.{Answer, step_answers, call_answers, completed_all_begun, jumps_made, step_records, completed_vsyncs, due_vsync, writes_in_all}
use Rattle.base_format.specs.Stream.{Stream}
use Rattle.base_format.specs.Writes.{first, later}
use Rattle.base_format.specs.Written.{written}
use Rattle.base_format.proofs.Computed.{reading, writing, listing, playing, jumping, stepping}
use Rattle.base_format.proofs.Samples.{card, wave, bank, Move, play, to, steps_of}

-- INDEXES

-- 130 empty frames have entries for frames 1, 65 and 129; the trailer says 12 bytes back, 3 entries, 280 bytes. Edits distance_from_the_end,
-- every_63_frames, from_frame_2, whole_64s_only
many : Stream
many = record { version = 1; repeat = false; period = 0; cards = []; pools = []; opening = []; frames = replicate 130 [] }

many_index : index_of many ≡ 0 ∷ 0 ∷ 0 ∷ 20 ∷ 0 ∷ 0 ∷ 0 ∷ 148 ∷ 0 ∷ 0 ∷ 1 ∷ 20 ∷ 0 ∷ 0 ∷ 0 ∷ 12 ∷ 0 ∷ 0 ∷ 0 ∷ 3 ∷ 0 ∷ 0 ∷ 1 ∷ 24 ∷ []
unfolding many reading writing jumping
many_index = refl

-- P3's index is 16 bytes long: 24 for a buffer of 15; and a file's own refusal comes first
small_buffers : (index_into empty 16 ≡ ok (0 ∷ 0 ∷ 0 ∷ 20 ∷ 0 ∷ 0 ∷ 0 ∷ 4 ∷ 0 ∷ 0 ∷ 0 ∷ 1 ∷ 0 ∷ 0 ∷ 0 ∷ 22 ∷ [])) × (index_into empty 15 ≡ refused 24 0) × (index_into [] 0 ≡ refused 1 0)
unfolding empty reading writing jumping
small_buffers = (refl, refl, refl)

-- JUMPS

-- a file of version 4 with a card, a wave and an operation to target 11
song : (repeat : Bool) → CardRequirement → Operation → Stream
song repeat slot operation = record {
  version = 4;
  repeat = repeat;
  period = 0;
  cards = slot ∷ [];
  pools = wave ∷ bank ∷ [];
  opening = Write 5 0x1FFFFFF 3 ∷ [];
  frames = (Copy 1 0x300 0 0 256 ∷ operation ∷ []) ∷ [] ∷ (Copy 5 20 1 1 2 ∷ []) ∷ [];
}

own : Stream
own = song false card (Write 11 0x3F 2)

-- files that differ from it in the header, in a card, in the use of target 11, and in a value
other_header : Stream
other_header = song true card (Write 11 0x3F 2)

other_card : Stream
other_card = song false (record { slot = 2; id_length = 3; id_offset = 0x1FFFFFD; bulk_start = 16; bulk_length = 299; id = card.id }) (Write 11 0x3F 2)

other_use : Stream
other_use = song false card (Write 5 0x3F 2)

other_value : Stream
other_value = song false card (Write 11 0x3F 3)

-- what a jump says: number and place of a refusal, or the cursor and the frames that are begun
said : Checked StreamPlayer → List ℕ
said (refused number place) = number ∷ place ∷ []
said (ok next) = next.progress.cursor ∷ next.progress.frame_index ∷ 99 ∷ []

-- on a started player. Edit one_frame_late
started_jumps : map (λ (frame : ℕ). said (jumped (started (written own)) (written own) (index_of own) frame)) (0 ∷ 1 ∷ 2 ∷ 3 ∷ 4 ∷ [])
    ≡ (27 ∷ 0 ∷ []) ∷ (378 ∷ 0 ∷ 99 ∷ []) ∷ (403 ∷ 1 ∷ 99 ∷ []) ∷ (405 ∷ 2 ∷ 99 ∷ []) ∷ (27 ∷ 0 ∷ []) ∷ []
unfolding said own song reading writing listing playing jumping
started_jumps = refl

-- 26 comes before 27: an entry changed, a byte too many, no byte. Edit 27_before_26
damaged : map (λ (index : List ℕ). said (jumped (started (written own)) (written own) index 0)) (set (index_of own) 3 0 ∷ (index_of own ++ (0 ∷ [])) ∷ [] ∷ [])
    ≡ (26 ∷ 0 ∷ []) ∷ (26 ∷ 0 ∷ []) ∷ (26 ∷ 0 ∷ []) ∷ []
unfolding said own song reading writing listing playing jumping
damaged = refl

-- 25 comes before 26, and where only the header, a card or the use of target 11 differs; a value is not looked at. Edits other_card, other_header,
-- other_use_of_target_11
others : map (λ (s : Stream). said (jumped (started (written own)) (written s) (index_of s) 1)) (other_header ∷ other_card ∷ other_use ∷ other_value ∷ [])
    ≡ (25 ∷ 0 ∷ []) ∷ (25 ∷ 0 ∷ []) ∷ (25 ∷ 0 ∷ []) ∷ (378 ∷ 0 ∷ 99 ∷ []) ∷ []
unfolding said own other_header other_card other_use other_value song reading writing listing playing jumping
others = refl

-- the lent file's own checks come first: no file, another file, an opcode 3
foreign : map (λ (file : List ℕ). said (jumped (started (written own)) file [] 0)) ([] ∷ empty ∷ set (written own) 380 3 ∷ []) ≡ (1 ∷ 0 ∷ []) ∷ (25 ∷ 0 ∷ []) ∷ (13 ∷ 380 ∷ []) ∷ []
unfolding said own song empty reading writing listing playing jumping
foreign = refl

-- a refused start; a state that has made more closing writes than there are, and one that has made all of them
closed : (writes : ℕ) → Bool → StreamPlayer
closed writes finished = moved (started (written own)) (closing_at writes finished (started (written own)).progress)

odd_states : map (λ (state : StreamPlayer). said (jumped state (written own) (index_of own) 3)) (started [] ∷ closed 34 false ∷ closed 34 true ∷ closed 33 false ∷ closed 33 true ∷ [])
    ≡ (25 ∷ 0 ∷ []) ∷ (25 ∷ 0 ∷ []) ∷ (25 ∷ 0 ∷ []) ∷ (405 ∷ 2 ∷ 99 ∷ []) ∷ (405 ∷ 2 ∷ 99 ∷ []) ∷ []
unfolding said closed own song reading writing listing playing jumping
odd_states = refl

-- a refused jump changes nothing: a finished state stays finished. Edit refused_jump_wakes
stays : (state_after (closed 33 true) (jumped (closed 33 true) (written own) (index_of own) 0)).progress.finished ≡ true
unfolding closed own song reading writing listing playing jumping
stays = refl

-- in the middle of a vsync: what is left is dropped, and the wave sources stay. Edits clears_the_waves, plays_the_opening
waves : List WaveSource
waves = set (replicate 16 no_wave) 11 (record { copied = true; pool = 0 })

in_frame : StreamPlayer
in_frame = moved (started (written own)) (placed (frame_start (written own) 378 0 (started (written own)).progress) 380 0 100 waves)

dropped : (state_after in_frame (jumped in_frame (written own) (index_of own) 2)).progress ≡ progress_at (between_at 403 1) true false waves
unfolding in_frame own song reading writing listing playing jumping
dropped = refl

-- STEPS

-- two frames of version 1
two : Stream
two = record { version = 1; repeat = false; period = 0; cards = []; pools = []; opening = Write 1 1 7 ∷ []; frames = (Write 0 3 5 ∷ Write 1 3 6 ∷ []) ∷ (Write 0 4 8 ∷ []) ∷ [] }

told : List Move → List Answer
told moves = step_answers (started (written two)) (steps_of two moves)

-- a jump between vsyncs, behind a refused one; then one within a vsync: it drops what is left, so that not every vsync that was begun is completed.
-- Edits any_time, opening_behind_a_jump
between : List Move
between = play 2 ∷ play 40 ∷ to 3 ∷ to 1 ∷ play 1 ∷ play 1 ∷ []

between_told : (completed_all_begun (told between) ≡ true) × (jumps_made (told between) ≡ (1, 1) ∷ []) × (completed_vsyncs (told between) ≡ first ∷ later 0 ∷ []) × (due_vsync (told between) ≡ later 1)
unfolding told between steps_of two reading writing listing playing jumping stepping
between_told = (refl, refl, refl, refl)

-- Edit dropped_vsync
within : (completed_all_begun (told (play 1 ∷ to 2 ∷ play 40 ∷ [])) ≡ false) × (step_records (told (play 1 ∷ to 2 ∷ play 40 ∷ [])) ≡ writes_in_all two (later 1 ∷ []))
    × (completed (call_answers (told (play 1 ∷ to 2 ∷ play 40 ∷ []))) ≡ 1)
unfolding completed told steps_of two reading writing listing playing jumping stepping
within = (refl, refl, refl)
