-- The plan of a call is the call without its records, for every state and every file.
use Prim.Native.Nat.{ℕ, ◌+◌, ◌-◌, ◌≤◌, min}
use mathlib.Core.Bool.{Bool, true, false, cond, not}
use mathlib.Core.List.{List, [], ◌++◌}
use mathlib.Core.Path.{◌≡◌, refl, sym, ap, ◌∙◌}
use native.Mathlib.Omega.{arith}
use lib.Dec.{eqb, leb, ltb}
use lib.ListN.{length, take, drop, length-append, length-take, length-drop}
use Rattle.base_format.specs.declared.player.NextPart.{NextPart}
use Rattle.base_format.specs.declared.player.NextPart.TheVariants as Next
use Rattle.base_format.specs.declared.player.Part.{Part}
use Rattle.base_format.specs.declared.player.Part.TheVariants.{Between, Opening, Frame, Closing}
use Rattle.base_format.specs.declared.player.Progress.{Progress}
use Rattle.base_format.specs.declared.player.StreamPlayer.{StreamPlayer}
use Rattle.base_format.specs.declared.operation.WriteRecord.{WriteRecord}
use Rattle.base_format.specs.Checked.{Checked, ok, refused, refuse, mapped, ◌>>=◌, ◌>>◌}
use Rattle.play_laws.specs.Plan.{Plan, plan_of, plan_frame, plan_opening, plan_closing, plan, planned}
use Rattle.base_format.specs.Next.{next_part, by_next}
use Rattle.base_format.specs.State.{part_of, moved}
use Rattle.base_format.specs.Player.{Gathered, gathered, Played, opening_begun, frame_begun, frame_ended, closing_at, operations_left, play_frame, play_opening, play_closing, play, belongs, as25, call, run_after}
use Rattle.base_format.specs.Stream.{opening_limit}
use Rattle.base_format.specs.Writes.{silence, closing_writes, closing_count}
use Rattle.base_format.proofs.Checks.{refused_not_ok, through, passed_test, passed_check, ok_is}
use Rattle.play_laws.proofs.PlannedOperations.{planned_operations_is, room_taken}

plan_is : {a b : ℕ} (complete : Bool) (next : StreamPlayer) → a ≡ b → ◌≡◌ {A = Checked Plan} (ok (record { count = a; complete = complete; next = next })) (ok (record { count = b; complete = complete; next = next }))
plan_is complete next e = λ i. ok (record { count = e i; complete = complete; next = next })

-- A FRAME

frame_taken : (state : StreamPlayer) (room : ℕ) (taken : Checked Gathered) → ((g : Gathered) → taken ≡ ok g → length g.records + g.room ≡ room)
    → (mapped (λ (g : Gathered). (g.room, g.progress)) taken >>= λ (found : ℕ × Progress). ok (record {
      count = room - found.0;
      complete = eqb (operations_left found.1) 0;
      next = moved state (cond (eqb (operations_left found.1) 0) (frame_ended found.1) found.1);
    })) ≡ mapped plan_of (taken >>= λ (g : Gathered). ok (record {
      records = g.records;
      complete = eqb (operations_left g.progress) 0;
      next = moved state (cond (eqb (operations_left g.progress) 0) (frame_ended g.progress) g.progress);
    }))
frame_taken state room (ok g) total =
    let all = total g refl in
    plan_is _ _ (omega arith)
frame_taken state room (refused number place) total = refl

pub plan_frame_lem : (state : StreamPlayer) (file : List ℕ) (room : ℕ) (p : Progress) → plan_frame state file room p ≡ mapped plan_of (play_frame state file room p)
unfolding plan_frame play_frame
plan_frame_lem state file room p =
    rw (planned_operations_is state file (length file) (operations_left p) room p) (frame_taken state room (gathered state file (length file) (operations_left p) room p) (room_taken state file (length file) (operations_left p) room p))

-- THE OPENING

opening_taken : (state : StreamPlayer) (file : List ℕ) (room : ℕ) (taken : Checked Gathered) → ((g : Gathered) → taken ≡ ok g → length g.records + g.room ≡ room)
    → (mapped (λ (g : Gathered). (g.room, g.progress)) taken >>= λ (found : ℕ × Progress).
    cond (not (eqb (operations_left found.1) 0)) (ok (record { count = room - found.0; complete = false; next = moved state found.1 })) (frame_begun file state.header.frame_start 0 found.1 >>= λ (frame : Progress).
    plan_frame state file found.0 frame >>= λ (more : Plan). ok (record { count = room - found.0 + more.count; complete = more.complete; next = more.next })))
    ≡ mapped plan_of (taken >>= λ (g : Gathered).
    cond (not (eqb (operations_left g.progress) 0)) (ok (record { records = g.records; complete = false; next = moved state g.progress }))
    (frame_begun file state.header.frame_start 0 g.progress >>= λ (frame : Progress).
    play_frame state file g.room frame >>= λ (more : Played). ok (record { records = g.records ++ more.records; complete = more.complete; next = more.next })))
opening_taken state file room (refused number place) total = refl
opening_taken state file room (ok g) total = go (eqb (operations_left g.progress) 0)
  where
    count : room - g.room ≡ length g.records
    count = omega (arith, total g refl)

    joined : (more : Checked Played)
        → (mapped plan_of more >>= λ (m : Plan). ok (record { count = room - g.room + m.count; complete = m.complete; next = m.next }))
        ≡ mapped plan_of (more >>= λ (m : Played). ok (record { records = g.records ++ m.records; complete = m.complete; next = m.next }))
    joined (ok m) = plan_is _ _ (omega (arith, count, length-append g.records m.records))
    joined (refused number place) = refl

    begun : (frame : Checked Progress)
        → (frame >>= λ (f : Progress). plan_frame state file g.room f >>= λ (m : Plan). ok (record { count = room - g.room + m.count; complete = m.complete; next = m.next }))
        ≡ mapped plan_of (frame >>= λ (f : Progress). play_frame state file g.room f >>= λ (m : Played). ok (record { records = g.records ++ m.records; complete = m.complete; next = m.next }))
    begun (ok f) = rw (plan_frame_lem state file g.room f) (joined (play_frame state file g.room f))
    begun (refused number place) = refl

    go : (done : Bool)
        → cond (not done) (ok (record { count = room - g.room; complete = false; next = moved state g.progress })) (frame_begun file state.header.frame_start 0 g.progress >>= λ (frame : Progress).
        plan_frame state file g.room frame >>= λ (more : Plan). ok (record { count = room - g.room + more.count; complete = more.complete; next = more.next }))
        ≡ mapped plan_of (cond (not done) (ok (record { records = g.records; complete = false; next = moved state g.progress })) (frame_begun file state.header.frame_start 0 g.progress >>= λ (frame : Progress).
        play_frame state file g.room frame >>= λ (more : Played). ok (record { records = g.records ++ more.records; complete = more.complete; next = more.next })))
    go true = begun (frame_begun file state.header.frame_start 0 g.progress)
    go false = plan_is _ _ count

pub plan_opening_lem : (state : StreamPlayer) (file : List ℕ) (room : ℕ) (p : Progress) → plan_opening state file room p ≡ mapped plan_of (play_opening state file room p)
unfolding plan_opening play_opening
plan_opening_lem state file room p =
    rw (planned_operations_is state file (opening_limit state.header file) (operations_left p) room p)
    (opening_taken state file room (gathered state file (opening_limit state.header file) (operations_left p) room p) (room_taken state file (opening_limit state.header file) (operations_left p) room p))

-- THE CLOSING WRITES

pub closing_count_lem : (synth : Bool) → length (closing_writes synth) ≡ closing_count synth
unfolding closing_writes silence
closing_count_lem true = refl
closing_count_lem false = refl

closing_taken_lem : (state : StreamPlayer) (room total : ℕ) (p : Progress) (writes : List WriteRecord) → length writes ≡ total → (wrong : Bool)
    → (refuse 25 0 wrong >> ok (record {
      count = min room (total - p.write_index);
      complete = leb (total - p.write_index) room;
      next = moved state (closing_at (p.write_index + min room (total - p.write_index)) (leb (total - p.write_index) room) p);
    })) ≡ mapped plan_of (refuse 25 0 wrong >> ok (record {
      records = take room (drop p.write_index writes);
      complete = leb (length (drop p.write_index writes)) room;
      next = moved state (closing_at (p.write_index + length (take room (drop p.write_index writes))) (leb (length (drop p.write_index writes)) room) p);
    }))
closing_taken_lem state room total p writes long true = refl
closing_taken_lem state room total p writes long false = rw (length-take, length-drop, long)

pub plan_closing_lem : (state : StreamPlayer) (room : ℕ) (p : Progress) → plan_closing state room p ≡ mapped plan_of (play_closing state room p)
unfolding plan_closing play_closing
plan_closing_lem state room p =
    closing_taken_lem state room (closing_count state.uses_si22) p (closing_writes state.uses_si22) (closing_count_lem state.uses_si22)
    (ltb (closing_count state.uses_si22) p.write_index) ∙ ap (λ (n : ℕ). mapped plan_of (refuse 25 0 (ltb n p.write_index) >> ok (record {
      records = take room (drop p.write_index (closing_writes state.uses_si22));
      complete = leb (length (drop p.write_index (closing_writes state.uses_si22))) room;
      next = moved state (closing_at (p.write_index + length (take room (drop p.write_index (closing_writes state.uses_si22)))) (leb (length (drop p.write_index (closing_writes state.uses_si22))) room) p);
    }))) (sym (closing_count_lem state.uses_si22))

-- A CALL

-- a frame that begins
plan_begun_lem : (state : StreamPlayer) (file : List ℕ) (room : ℕ) (frame : Checked Progress) → (frame >>= plan_frame state file room) ≡ mapped plan_of (frame >>= play_frame state file room)
plan_begun_lem state file room (ok p) = plan_frame_lem state file room p
plan_begun_lem state file room (refused number place) = refl

-- one or the other
plan_cond : (b : Bool) {a c : Checked Plan} (a' c' : Checked Played) → a ≡ mapped plan_of a' → c ≡ mapped plan_of c' → cond b a c ≡ mapped plan_of (cond b a' c')
plan_cond true a' c' e f = e
plan_cond false a' c' e f = f

pub plan_part : (state : StreamPlayer) (file : List ℕ) (room : ℕ) (p : Progress) (part : Part) → plan state file room p part ≡ mapped plan_of (play state file room p part)
unfolding plan play
plan_part state file room p Opening = plan_opening_lem state file room p
plan_part state file room p Frame = plan_frame_lem state file room p
plan_part state file room p Closing = plan_closing_lem state room p
plan_part state file room p Between = go (next_part state.header p)
  where
    go : (next : NextPart)
        → by_next next (plan_opening state file room (opening_begun state.header p)) (λ (place frame : ℕ). frame_begun file place frame p >>= plan_frame state file room) (plan_closing state room (closing_at 0 false p))
        ≡ mapped plan_of (by_next next (play_opening state file room (opening_begun state.header p)) (λ (place frame : ℕ). frame_begun file place frame p >>= play_frame state file room) (play_closing state room (closing_at 0 false p)))
    go Next.Opening = plan_opening_lem state file room _
    go (Next.Frame place frame) = plan_begun_lem state file room (frame_begun file place frame p)
    go Next.Closing = plan_closing_lem state room _

plan_25 : (first : Checked (Unit {0})) (a : Checked Plan) (a' : Checked Played) → a ≡ mapped plan_of a' → as25 (first >> a) ≡ mapped plan_of (as25 (first >> a'))
plan_25 (refused number place) a a' e = refl
plan_25 (ok tt) a a' e = ap as25 e ∙ under a'
  where
    under : (a' : Checked Played) → as25 (mapped plan_of a') ≡ mapped plan_of (as25 a')
    under (ok answer) = refl
    under (refused number place) = refl

-- the plan of a call is the call without its records
pub planned_is : (state : StreamPlayer) (file : List ℕ) (room : ℕ) → planned state file room ≡ mapped plan_of (call state file room)
unfolding planned call
planned_is state file room =
    plan_cond state.progress.finished _ _ refl (plan_25 (belongs state file) _ _ (plan_part state file room state.progress (part_of state.progress.part)))

-- NO MORE RECORDS THAN THE RUN HOLDS

frame_fits : (state : StreamPlayer) (file : List ℕ) (room : ℕ) (p : Progress) (a : Played) → play_frame state file room p ≡ ok a → length a.records ≤ room
unfolding play_frame
frame_fits state file room p a e =
    let taken = through (gathered state file (length file) (operations_left p) room p) _ e in
    let total = room_taken state file (length file) (operations_left p) room p taken.value taken.is in
    let same : length taken.value.records ≡ length a.records = ap (λ (x : Played). length x.records) (ok_is taken.then) in
    omega arith

begun_fits : (state : StreamPlayer) (file : List ℕ) (room : ℕ) (frame : Checked Progress) (a : Played) → (frame >>= play_frame state file room) ≡ ok a → length a.records ≤ room
begun_fits state file room frame a e =
    let begun = through frame _ e in
    frame_fits state file room begun.value a begun.then

opening_fits : (state : StreamPlayer) (file : List ℕ) (room : ℕ) (p : Progress) (a : Played) → play_opening state file room p ≡ ok a → length a.records ≤ room
unfolding play_opening
opening_fits state file room p a e =
    let taken = through (gathered state file (opening_limit state.header file) (operations_left p) room p) _ e in
    let total = room_taken state file (opening_limit state.header file) (operations_left p) room p taken.value taken.is in
    go taken.value total (eqb (operations_left taken.value.progress) 0) taken.then
  where
    go : (g : Gathered) → length g.records + g.room ≡ room → (done : Bool)
        → cond (not done) (ok (record { records = g.records; complete = false; next = moved state g.progress })) (frame_begun file state.header.frame_start 0 g.progress >>= λ (frame : Progress).
        play_frame state file g.room frame >>= λ (more : Played). ok (record { records = g.records ++ more.records; complete = more.complete; next = more.next }))
        ≡ ok a
        → length a.records ≤ room
    go g total false e =
        let same : length g.records ≡ length a.records = ap (λ (x : Played). length x.records) (ok_is e) in
        omega arith
    go g total true e =
        let begun = through (frame_begun file state.header.frame_start 0 g.progress) _ e in
        let more = through (play_frame state file g.room begun.value) _ begun.then in
        let fits = frame_fits state file g.room begun.value more.value more.is in
        let same : length (g.records ++ more.value.records) ≡ length a.records = ap (λ (x : Played). length x.records) (ok_is more.then) in
        omega (arith, length-append g.records more.value.records)

closing_fits : (state : StreamPlayer) (room : ℕ) (p : Progress) (a : Played) → play_closing state room p ≡ ok a → length a.records ≤ room
unfolding play_closing
closing_fits state room p a e =
    let b = passed_test 25 0 (ltb (length (closing_writes state.uses_si22)) p.write_index) e in
    let same : length (take room (drop p.write_index (closing_writes state.uses_si22))) ≡ length a.records = ap (λ (x : Played). length x.records) (ok_is b.1) in
    omega (arith, length-take room (drop p.write_index (closing_writes state.uses_si22)))

fits_cond : (b : Bool) (x y : Checked Played) (room : ℕ) (a : Played) → (x ≡ ok a → length a.records ≤ room) → (y ≡ ok a → length a.records ≤ room) → cond b x y ≡ ok a → length a.records ≤ room
fits_cond true x y room a f g e = f e
fits_cond false x y room a f g e = g e

part_fits : (state : StreamPlayer) (file : List ℕ) (room : ℕ) (p : Progress) (part : Part) (a : Played) → play state file room p part ≡ ok a → length a.records ≤ room
unfolding play
part_fits state file room p Opening a e = opening_fits state file room p a e
part_fits state file room p Frame a e = frame_fits state file room p a e
part_fits state file room p Closing a e = closing_fits state room p a e
part_fits state file room p Between a e = go (next_part state.header p) e
  where
    go : (next : NextPart)
        → by_next next (play_opening state file room (opening_begun state.header p)) (λ (place frame : ℕ). frame_begun file place frame p >>= play_frame state file room) (play_closing state room (closing_at 0 false p)) ≡ ok a
        → length a.records ≤ room
    go Next.Opening e = opening_fits state file room (opening_begun state.header p) a e
    go (Next.Frame place frame) e = begun_fits state file room (frame_begun file place frame p) a e
    go Next.Closing e = closing_fits state room (closing_at 0 false p) a e

pub checked_25 : (x : Checked Played) (a : Played) → as25 x ≡ ok a → x ≡ ok a
checked_25 (ok b) a e = e
checked_25 (refused number place) a e = absurd (refused_not_ok e)

pub records_fit : (state : StreamPlayer) (file : List ℕ) (room : ℕ) (a : Played) → call state file room ≡ ok a → length a.records ≤ room
unfolding call
records_fit state file room a e =
    fits_cond state.progress.finished (ok (record { records = []; complete = true; next = state }))
    (as25 (belongs state file >> play state file room state.progress (part_of state.progress.part))) room a (λ e. none e)
    (λ e. part_fits state file room state.progress (part_of state.progress.part) a (passed_check (belongs state file) (checked_25 _ a e)).1) e
  where
    none : ◌≡◌ {A = Checked Played} (ok (record { records = []; complete = true; next = state })) (ok a) → length a.records ≤ room
    none e =
        let same : 0 ≡ length a.records = ap (λ (x : Played). length x.records) (ok_is e) in
        omega arith

-- so the lent run keeps its length
pub run_length : (state : StreamPlayer) (file : List ℕ) (run : List WriteRecord) → length (run_after run (call state file (length run))) ≡ length run
run_length state file run = go (call state file (length run)) refl
  where
    go : (answer : Checked Played) → call state file (length run) ≡ answer → length (run_after run answer) ≡ length run
    go (refused number place) e = refl
    go (ok a) e =
        let fits = records_fit state file (length run) a e in
        omega (arith, length-append a.records (drop (length a.records) run), length-drop (length a.records) run)
