-- Files played, computed. Each stands here for the must-fail edits that it refuses; what holds of every file and every list of calls is proved
-- in the crate theorem_same_sound.
use Prim.Native.Nat.{ℕ}
use mathlib.Core.Path.{◌≡◌, refl}
use mathlib.Core.List.{List, [], ◌∷◌, ◌++◌, map}
use Rattle.std.specs.Prelude.{Some, None}
use Rattle.base_format.specs.Examples.{empty}
use Rattle.base_format.specs.Listener.{answers, reached, vsync_records, vsyncs_from, new_listener, heard_all, heard}
use Rattle.base_format.specs.Compare.{core_writes, played}
use Rattle.base_format.specs.State.{started, wave_source}
use Rattle.base_format.specs.Written.{written}
use Rattle.base_format.proofs.Samples.{four, calls, said}
use Rattle.base_format.proofs.Computed.{reading, writing, listing, playing}

-- P3 with a lent file of another length: it is 25 until the closing writes are given, and then it is not read. Edit never_finishes
finishes : map said (answers (started empty) (calls empty (0 ∷ 30 ∷ []) ++ calls [] (2 ∷ []) ++ calls empty (2 ∷ []) ++ calls [] (7 ∷ [])))
    ≡ (0 ∷ 1 ∷ []) ∷ (30 ∷ 0 ∷ []) ∷ (25 ∷ 0 ∷ 99 ∷ []) ∷ (2 ∷ 1 ∷ []) ∷ (0 ∷ 1 ∷ []) ∷ []
unfolding said calls empty reading writing listing playing
finishes = refl

-- rooms that cut operations, and one that ends exactly with the opening
rooms : List ℕ
rooms = 1 ∷ 3 ∷ 100 ∷ 200 ∷ 0 ∷ 1 ∷ 5 ∷ 33 ∷ 1 ∷ []

-- the records of each vsync are its writes. Edits claims_complete, only_pretends, pool_id_from_1, skips_a_write
played_four : vsync_records (answers (started (written four)) (calls (written four) rooms)) ≡ vsyncs_from four 0 5
unfolding calls four rooms reading writing listing playing
played_four = refl

-- what a listener holds of the vsyncs that ended: their register writes. Edits listener_keeps_on, opening_without_frame
heard_four : (heard_all new_listener (answers (started (written four)) (calls (written four) (1000 ∷ 1000 ∷ 1000 ∷ 1000 ∷ [])))).ended ≡ map core_writes (vsyncs_from four 0 4)
unfolding new_listener heard_all heard core_writes played calls four reading writing listing playing
heard_four = refl

-- the wave source of core 1, channel 3 after the COPY's first write, and not before. Edit wave_late
waves_four : map (λ (rooms : List ℕ). wave_source (reached (started (written four)) (calls (written four) rooms)) 1 3) ((4 ∷ []) ∷ (4 ∷ 1 ∷ []) ∷ []) ≡ None ∷ Some 0 ∷ []
unfolding wave_source reached calls four reading writing listing playing
waves_four = refl
