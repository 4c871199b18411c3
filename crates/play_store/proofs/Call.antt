-- The run after a call: what `store_call` stores is what the call answers.
use Prim.Native.Nat.{ℕ, ◌-◌, ◌≤◌, ◌<◌}
use mathlib.Core.Bool.{Bool, true, false, cond, not, ◌||◌}
use mathlib.Core.List.{List, [], ◌∷◌, ◌++◌}
use mathlib.Core.Path.{◌≡◌, refl, sym, ap, ◌∙◌}
use native.Mathlib.Nat.{zero-add}
use native.Mathlib.Omega.{arith}
use borrow.Author.Tests.{ne_eqb, ltb-false}
use lib.Dec.{eqb, ltb}
use lib.ListN.{length, drop}
use Rattle.base_format.specs.Next.{next_part, by_next}
use Rattle.base_format.specs.State.{part_of}
use Rattle.base_format.specs.declared.operation.WriteRecord.{WriteRecord}
use Rattle.base_format.specs.declared.player.NextPart.{NextPart}
use Rattle.base_format.specs.declared.player.NextPart.TheVariants as Next
use Rattle.base_format.specs.declared.player.Part.{Part}
use Rattle.base_format.specs.declared.player.Part.TheVariants.{Between, Opening, Frame, Closing}
use Rattle.base_format.specs.declared.player.Progress.{Progress}
use Rattle.base_format.specs.declared.player.StreamPlayer.{StreamPlayer}
use Rattle.base_format.specs.Checked.{Checked, ok, ◌>>=◌, ◌>>◌}
use Rattle.base_format.specs.Lent.{stored}
use Rattle.base_format.specs.Player.{Played, opening_begun, frame_begun, closing_at, play_frame, play_opening, play_closing, play, belongs, as25, call, run_after}
use Rattle.base_format.specs.Stream.{opening_limit}
use Rattle.base_format.proofs.Accepted.{opening_limit_lem}
use Rattle.base_format.proofs.Checks.{through, passed_test, passed_check, ok_is, or_false}
use Rattle.play_laws.proofs.Planned.{checked_25, records_fit}
use Rattle.play_segments.specs.declared.place.Place.{Place}
use Rattle.play_segments_first.specs.First.{nowhere, closing_from, frame_at, opening_place, between_place, part_place, first_place}
use Rattle.play_store_segment.specs.Segment.{inserted}
use Rattle.play_store.specs.Stored.{stored_from, stored_call}
use Rattle.play_store.proofs.Storing.{stored_none}
use Rattle.play_store.proofs.Frames.{begun_stored, under_way_lem, opening_stored}
use Rattle.play_store.proofs.Closing.{closing_stored}

-- the opening of a state that belongs to a file ends in it
opening_within : (state : StreamPlayer) (file : List ℕ) → belongs state file ≡ ok tt → opening_limit state.header file ≤ length file
unfolding belongs
opening_within state file e =
    let header = state.header in
    let before : Bool = ltb (length file) state.progress.cursor || ltb (length file) header.initial_start in
    let first : Bool = ltb (length file) header.frame_start in
    let total = passed_test 25 0 (not (eqb (length file) header.total_size)) e in
    let known = passed_test 25 0 (eqb header.version 0 || ltb 4 header.version || ltb 8 header.card_count || ltb 8 state.cards.count) total.1 in
    let places = passed_test 25 0 (before || first || ltb (length file) header.directory_offset) known.1 in
    let within = (or_false before first (or_false (before || first) (ltb (length file) header.directory_offset) places.0).0).1 in
    (opening_limit_lem header file (ltb-false _ _ within)).1

module _ (file : List ℕ) (state : StreamPlayer) (short : opening_limit state.header file ≤ length file) (run : List WriteRecord) (some : 0 < length run) where
  abbrev total : ℕ
  total = length run

  -- from a place on, the records of an answer are stored in front
  abbrev Gives : Checked Played → Place → Type 0
  Gives answer place = (a : Played) → answer ≡ ok a → stored_from file state place run ≡ inserted (total - total) a.records run

  gives_frame : (cursor index : ℕ) (p : Progress) → Gives (frame_begun file cursor index p >>= play_frame state file total) (frame_at file cursor total)
  gives_frame cursor index p a e =
      let begun = through (frame_begun file cursor index p) _ e in
      begun_stored file state total cursor index p begun.value a begun.is begun.then run some refl

  gives_opening : (p : Progress) → Gives (play_opening state file total (opening_begun state.header p)) (opening_place file state.header state.header.initial_count state.header.initial_start 0 total)
  gives_opening p a e =
      let count : state.header.initial_count ≡ state.header.initial_count - 0 = omega arith in
      ap (λ (n : ℕ). stored_from file state (opening_place file state.header n state.header.initial_start 0 total) run) count ∙ opening_stored file state total short (opening_begun state.header p) a run e some refl

  gives_part : (part : Part) → Gives (play state file total state.progress part) (part_place file state total part)
  unfolding play between_place
  gives_part Opening a e = opening_stored file state total short state.progress a run e some refl
  gives_part Frame a e = under_way_lem file state total state.progress a e run some refl
  gives_part Closing a e = closing_stored file state total state.progress a run e some refl
  gives_part Between a e = go (next_part state.header state.progress) a e
    where
      go : (next : NextPart)
          → Gives (by_next next (play_opening state file total (opening_begun state.header state.progress)) (λ (place frame : ℕ). frame_begun file place frame state.progress >>= play_frame state file total) (play_closing state total (closing_at 0 false state.progress)))
          (by_next next (opening_place file state.header state.header.initial_count state.header.initial_start 0 total) (λ (place frame : ℕ). frame_at file place total) (closing_from state 0 total))
      go Next.Opening a e = gives_opening state.progress a e
      go (Next.Frame place frame) a e = gives_frame place frame state.progress a e
      go Next.Closing a e = closing_stored file state total (closing_at 0 false state.progress) a run e some refl

-- a call that takes none leaves the run as it is
pub stored_nothing : (file : List ℕ) (state : StreamPlayer) (run : List WriteRecord) → stored_call file state 0 run ≡ run
unfolding stored_call first_place
stored_nothing file state run = stored_none file state (nowhere (length run)) run refl

-- a call that takes some is of a state that belongs to the file, and plays the part that is under way
plays : (file : List ℕ) (state : StreamPlayer) (room : ℕ) (a : Played) → call state file room ≡ ok a → 0 < length a.records
    → (belongs state file ≡ ok tt) × (play state file room state.progress (part_of state.progress.part) ≡ ok a)
unfolding call
plays file state room a e some = go state.progress.finished e
  where
    go : (b : Bool)
        → cond b (ok (record { records = []; complete = true; next = state })) (as25 (belongs state file >> play state file room state.progress (part_of state.progress.part))) ≡ ok a
        → (belongs state file ≡ ok tt) × (play state file room state.progress (part_of state.progress.part) ≡ ok a)
    go true e =
        let none : 0 ≡ length a.records = ap (λ (x : Played). length x.records) (ok_is e) in
        absurd (omega arith)
    go false e = passed_check (belongs state file) (checked_25 _ a e)

taken_stored : (file : List ℕ) (state : StreamPlayer) (run : List WriteRecord) (a : Played) → call state file (length run) ≡ ok a → 0 < length a.records
    → stored_call file state (length a.records) run ≡ stored a.records run
unfolding stored_call first_place
taken_stored file state run a e some =
    let fits = records_fit state file (length run) a e in
    let front : length run - length run ≡ 0 = omega arith in
    let played = plays file state (length run) a e some in
    rw (ne_eqb (length a.records) 0 (λ (z : length a.records ≡ 0). omega arith)) (gives_part file state (opening_within state file played.0) run (omega (arith, fits)) (part_of state.progress.part) a played.1
    ∙ ap (λ (k : ℕ). inserted k a.records run) front ∙ ap (λ (k : ℕ). a.records ++ drop k run) (zero-add (length a.records)))

-- an answer's records are stored in front, and no later one is touched
pub call_stored : (file : List ℕ) (state : StreamPlayer) (run : List WriteRecord) (a : Played) → call state file (length run) ≡ ok a → stored_call file state (length a.records) run ≡ run_after run (call state file (length run))
call_stored file state run a e = go a.records refl ∙ ap (run_after run) (sym e)
  where
    go : (l : List WriteRecord) → a.records ≡ l → stored_call file state (length a.records) run ≡ stored a.records run
    go [] none = rw none (stored_nothing file state run)
    go (x ∷ l) is = taken_stored file state run a e (rw is (omega arith))
