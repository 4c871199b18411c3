-- Gathering on its own file: as many of the pending writes as there is room for.
use Prim.Native.Nat.{ℕ, zero, suc, ◌+◌, ◌-◌, ◌≤◌, ◌<◌}
use mathlib.Core.Bool.{Bool, true, false, cond}
use mathlib.Core.List.{List, [], ◌∷◌, ◌++◌}
use mathlib.Core.Path.{◌≡◌, refl, sym, ap, subst, ◌∙◌}
use native.Mathlib.Nat.{sub-zero, zero-sub, le_of_eq}
use native.Mathlib.Omega.{arith}
use borrow.Author.Tests.{ltb-true, ltb-false, le-ltb, le-leb, lt-leb}
use lib.Dec.{eqb, leb, ltb, eqb-suc-zero}
use lib.ListN.{length, take, drop, length-append, length-drop}
use lib.Seq.{take-nil, drop-nil, take-append-le, drop-append-le, take-append-add, drop-append-add, drop-drop}
use Rattle.base_format.specs.declared.operation.Item.{Item}
use Rattle.base_format.specs.declared.operation.Operation.{Operation}
use Rattle.base_format.specs.declared.player.Progress.{Progress}
use Rattle.base_format.specs.declared.player.WaveSource.{WaveSource}
use Rattle.base_format.specs.declared.operation.WriteRecord.{WriteRecord}
use Rattle.base_format.specs.Checked.{Checked, ok, ◌>>=◌}
use Rattle.base_format.specs.Header.{header_of}
use Rattle.base_format.specs.Operation.{Setting, item_at}
use Rattle.base_format.specs.State.{player_of}
use Rattle.base_format.specs.Player.{placed, Gathered, gathered}
use Rattle.base_format.specs.Stream.{Stream, operations_from}
use Rattle.base_format.specs.Writes.{writes_of, writes_of_all}
use Rattle.base_format.proofs.Accepted.{Accepted, setting_for}
use Rattle.base_format.proofs.Checks.{ok_is}
use Rattle.base_format.proofs.Steps.{operation_step}
use Rattle.play_laws.proofs.Used.{item_is, operation_fine, item_used_lem}
use Rattle.theorem_same_sound.proofs.Course.{waves_on, Fits, Course, Along, along_within, along_onward}

-- the setting of an accepted file
abbrev pub own : List ℕ → Stream → Setting
own file s = setting_for file (header_of file) s.cards

-- `left` operations from a cursor up to an end, with so many writes of the first done, are pending, and the wave sources are those of
-- the course
pub record At (file : List ℕ) (s : Stream) (limit end left cursor writes : ℕ) (pending : List WriteRecord) (waves : List WaveSource) (course : Course) : Type 0 where
  pub operations : List Operation
  pub from : operations_from (own file s) file limit left cursor ≡ ok (operations, end)
  pub fits : Fits s writes operations
  pub is : pending ≡ drop writes (writes_of_all s.pools operations)
  pub sources : Along file s course writes operations waves

-- the same, one operation taken apart
pub record Next (file : List ℕ) (s : Stream) (limit end left cursor writes : ℕ) (pending : List WriteRecord) (waves : List WaveSource) (course : Course) : Type 0 where
  pub item : Item
  pub more : List Operation
  pub here : item_at (own file s) file limit cursor ≡ ok item
  pub from : operations_from (own file s) file limit left item.next ≡ ok (more, end)
  pub fits : writes < length (writes_of s.pools item.operation)
  pub is : pending ≡ drop writes (writes_of s.pools item.operation) ++ writes_of_all s.pools more
  pub sources : Along file s course writes (item.operation ∷ more) waves

-- what gathering gives
pub record Took (file : List ℕ) (s : Stream) (q : Progress) (limit end left room : ℕ) (p : Progress) (pending : List WriteRecord) (course : Course) : Type 0 where
  pub left' : ℕ
  pub cursor : ℕ
  pub index : ℕ
  pub writes : ℕ
  pub waves : List WaveSource
  pub is : gathered (player_of file s q) file limit left room p ≡ ok (record { records = take room pending; room = room - length pending; progress = placed p cursor index writes waves })
  pub at : At file s limit end left' cursor writes (drop room pending) waves course
  pub counted : index + left' ≡ p.operation_index + left

nothing_left : (file : List ℕ) (s : Stream) (limit end cursor writes : ℕ) (pending : List WriteRecord) (waves : List WaveSource) (course : Course)
    → At file s limit end 0 cursor writes pending waves course → pending ≡ []
unfolding operations_from writes_of_all
nothing_left file s limit end cursor writes pending waves course at =
    let none : [] ≡ at.operations = ap (λ (x : List Operation × ℕ). x.0) (ok_is at.from) in
    at.is ∙ ap (λ (l : List Operation). drop writes (writes_of_all s.pools l)) (sym none) ∙ drop-nil writes

apart : (s : Stream) (writes : ℕ) (operation : Operation) (more : List Operation) → writes < length (writes_of s.pools operation)
    → drop writes (writes_of_all s.pools (operation ∷ more)) ≡ drop writes (writes_of s.pools operation) ++ writes_of_all s.pools more
unfolding writes_of_all
apart s writes operation more h = drop-append-le writes (writes_of s.pools operation) (writes_of_all s.pools more) (omega arith)

next_from : (file : List ℕ) (s : Stream) (limit end left cursor writes : ℕ) (pending : List WriteRecord) (waves : List WaveSource) (course : Course) (item : Item) (found : List Operation × ℕ)
    (at : At file s limit end (suc left) cursor writes pending waves course)
    → item_at (own file s) file limit cursor ≡ ok item → operations_from (own file s) file limit left item.next ≡ ok found
    → ◌≡◌ {A = List Operation × ℕ} (item.operation ∷ found.0, found.1) (at.operations, end) → Next file s limit end left cursor writes pending waves course
next_from file s limit end left cursor writes pending waves course item found at here from both =
    let operations : item.operation ∷ found.0 ≡ at.operations = ap (λ (x : List Operation × ℕ). x.0) both in
    let fits : writes < length (writes_of s.pools item.operation) = subst (Fits s writes) (sym operations) at.fits in
    record {
      item = item;
      more = found.0;
      here = here;
      from = from ∙ ap (λ (n : ℕ). ok (found.0, n)) (ap (λ (x : List Operation × ℕ). x.1) both);
      fits = fits;
      is = at.is ∙ ap (λ (l : List Operation). drop writes (writes_of_all s.pools l)) (sym operations) ∙ apart s writes item.operation found.0 fits;
      sources = subst (λ (l : List Operation). Along file s course writes l waves) (sym operations) at.sources;
    }

pub next_of : (file : List ℕ) (s : Stream) (limit end left cursor writes : ℕ) (pending : List WriteRecord) (waves : List WaveSource) (course : Course)
    → At file s limit end (suc left) cursor writes pending waves course → Next file s limit end left cursor writes pending waves course
next_of file s limit end left cursor writes pending waves course at =
    let step = operation_step (own file s) file limit left cursor (at.operations, end) at.from in
    next_from file s limit end left cursor writes pending waves course step.item step.others at step.here step.from step.is

-- with more of the first operation's writes done
at_next : (file : List ℕ) (s : Stream) (limit end left cursor writes : ℕ) (pending : List WriteRecord) (waves : List WaveSource) (course : Course)
    (n : Next file s limit end left cursor writes pending waves course) (done : ℕ) (after : List WaveSource)
    → done < length (writes_of s.pools n.item.operation) → Along file s course done (n.item.operation ∷ n.more) after
    → At file s limit end (suc left) cursor done (drop done (writes_of s.pools n.item.operation) ++ writes_of_all s.pools n.more) after course
unfolding operations_from
at_next file s limit end left cursor writes pending waves course n done after h sources =
    record { operations = n.item.operation ∷ n.more; from = rw (n.here, n.from); fits = h; is = sym (apart s done n.item.operation n.more h); sources = sources }

-- with none of the next operation's writes done
fits_none : (file : List ℕ) (s : Stream) → Accepted file (header_of file) s → (limit end left cursor : ℕ) (more : List Operation)
    → operations_from (own file s) file limit left cursor ≡ ok (more, end) → Fits s 0 more
unfolding operations_from
fits_none file s acc limit end zero cursor more e = subst (Fits s 0) (ap (λ (x : List Operation × ℕ). x.0) (ok_is e)) refl
fits_none file s acc limit end (suc left) cursor more e =
    let step = operation_step (own file s) file limit left cursor (more, end) e in
    let is = item_is (own file s) file limit cursor step.item step.here in
    let operation = operation_fine file (header_of file) s acc is.place step.item.operation is.fine in
    subst (Fits s 0) (ap (λ (x : List Operation × ℕ). x.0) step.is) operation.some

-- where operations begin, all of their writes are pending
pub at_start : (file : List ℕ) (s : Stream) → Accepted file (header_of file) s → (limit end left cursor : ℕ) (more : List Operation)
    → operations_from (own file s) file limit left cursor ≡ ok (more, end) → (waves : List WaveSource) (course : Course) → Along file s course 0 more waves
    → At file s limit end left cursor 0 (writes_of_all s.pools more) waves course
at_start file s acc limit end left cursor more e waves course along = record { operations = more; from = e; fits = fits_none file s acc limit end left cursor more e; is = refl; sources = along }

-- the wave sources after an operation's write
abbrev waves_after : List ℕ → Operation → Progress → List WaveSource
waves_after file operation p = cond (eqb p.write_index 0) (waves_on file operation p.wave_sources) p.wave_sources

-- one operation of its own file
one_operation : (file : List ℕ) (s : Stream) → Accepted file (header_of file) s
    → (q : Progress) (limit end left others : ℕ) (p : Progress) (pending : List WriteRecord) (course : Course) (n : Next file s limit end left p.cursor p.write_index pending p.wave_sources course)
    → gathered (player_of file s q) file limit (suc left) (suc others) p ≡ cond (ltb (suc others) (length (drop p.write_index (writes_of s.pools n.item.operation)))) (ok (record {
      records = take (suc others) (drop p.write_index (writes_of s.pools n.item.operation));
      room = 0;
      progress = placed p p.cursor p.operation_index (p.write_index + suc others) (waves_after file n.item.operation p);
    })) (gathered (player_of file s q) file limit left (suc others - length (drop p.write_index (writes_of s.pools n.item.operation)))
    (placed p n.item.next (p.operation_index + 1) 0 (waves_after file n.item.operation p)) >>= λ (more : Gathered). ok (record {
      records = drop p.write_index (writes_of s.pools n.item.operation) ++ more.records;
      room = more.room;
      progress = more.progress;
    }))
unfolding gathered player_of
one_operation file s acc q limit end left others p pending course n =
    let is = item_is (own file s) file limit p.cursor n.item n.here in
    let operation = operation_fine file (header_of file) s acc is.place n.item.operation is.fine in
    let used = item_used_lem file s acc q limit p.cursor n.item n.here in
    rw (used, operation.same, le-ltb (length (writes_of s.pools n.item.operation)) p.write_index (omega (arith, n.fits)))

-- LISTS

pub take_past : (room : ℕ) (a b : List WriteRecord) → length a ≤ room → take room (a ++ b) ≡ a ++ take (room - length a) b
take_past room a b h =
    let e : room ≡ length a + (room - length a) = omega arith in
    ap (λ (n : ℕ). take n (a ++ b)) e ∙ take-append-add a b (room - length a)

pub drop_past : (room : ℕ) (a b : List WriteRecord) → length a ≤ room → drop room (a ++ b) ≡ drop (room - length a) b
drop_past room a b h =
    let e : room ≡ length a + (room - length a) = omega arith in
    ap (λ (n : ℕ). drop n (a ++ b)) e ∙ drop-append-add a b (room - length a)

-- GATHERING

gathered_is : {a b : List WriteRecord} {n m : ℕ} (p : Progress) → a ≡ b → n ≡ m
    → ◌≡◌ {A = Checked Gathered} (ok (record { records = a; room = n; progress = p })) (ok (record { records = b; room = m; progress = p }))
gathered_is p e f = λ i. ok (record { records = e i; room = f i; progress = p })

-- no operation is left
gather_end : (file : List ℕ) (s : Stream) (q : Progress) (limit end room : ℕ) (p : Progress) (pending : List WriteRecord) (course : Course)
    → At file s limit end 0 p.cursor p.write_index pending p.wave_sources course → Took file s q limit end 0 room p pending course
unfolding gathered
gather_end file s q limit end room p pending course at =
    let none = nothing_left file s limit end p.cursor p.write_index pending p.wave_sources course at in
    let nowhere : drop room pending ≡ pending = ap (drop room) none ∙ drop-nil room ∙ sym none in
    record {
      left' = 0;
      cursor = p.cursor;
      index = p.operation_index;
      writes = p.write_index;
      waves = p.wave_sources;
      is = gathered_is p (sym (ap (take room) none ∙ take-nil room)) (rw none (sym (sub-zero room)));
      at = subst (λ (l : List WriteRecord). At file s limit end 0 p.cursor p.write_index l p.wave_sources course) (sym nowhere) at;
      counted = refl;
    }

-- there is no room
gather_full : (file : List ℕ) (s : Stream) (q : Progress) (limit end left : ℕ) (p : Progress) (pending : List WriteRecord) (course : Course)
    → At file s limit end (suc left) p.cursor p.write_index pending p.wave_sources course → Took file s q limit end (suc left) 0 p pending course
unfolding gathered
gather_full file s q limit end left p pending course at =
    record { left' = suc left; cursor = p.cursor; index = p.operation_index; writes = p.write_index; waves = p.wave_sources; is = gathered_is p refl (sym (zero-sub (length pending))); at = at; counted = refl }

module _ (file : List ℕ) (s : Stream) (acc : Accepted file (header_of file) s) (q : Progress) (limit end left others : ℕ) (p : Progress) (pending : List WriteRecord)
    (course : Course) (n : Next file s limit end left p.cursor p.write_index pending p.wave_sources course) where
  -- what is left of the operation under way
  abbrev writes : List WriteRecord
  writes = writes_of s.pools n.item.operation

  abbrev rest : List WriteRecord
  rest = drop p.write_index writes

  -- the room ends within the operation
  gather_within : ltb (suc others) (length rest) ≡ true → Took file s q limit end (suc left) (suc others) p pending course
  gather_within e =
      let less : suc others < length rest = ltb-true _ _ e in
      let inside : p.write_index + suc others < length writes = omega (arith, length-drop p.write_index writes) in
      let long : length pending ≡ length rest + length (writes_of_all s.pools n.more) = ap length n.is ∙ length-append rest (writes_of_all s.pools n.more) in
      let taken : take (suc others) rest ≡ take (suc others) pending = sym (ap (take (suc others)) n.is ∙ take-append-le (suc others) rest (writes_of_all s.pools n.more) (omega arith)) in
      let left_over : drop (suc others) pending ≡ drop (p.write_index + suc others) writes ++ writes_of_all s.pools n.more =
      ap (drop (suc others)) n.is ∙ drop-append-le (suc others) rest (writes_of_all s.pools n.more) (omega arith)
      ∙ ap (λ (l : List WriteRecord). l ++ writes_of_all s.pools n.more) (drop-drop (suc others) p.write_index writes) in
      let room : 0 ≡ suc others - length pending = omega arith in
      let sources = along_within file s course p.write_index n.item.operation n.more p.wave_sources n.sources (p.write_index + suc others) (omega arith) in
      record {
        left' = suc left;
        cursor = p.cursor;
        index = p.operation_index;
        writes = p.write_index + suc others;
        waves = waves_after file n.item.operation p;
        is = one_operation file s acc q limit end left others p pending course n ∙ rw e (gathered_is _ taken room);
        at = subst (λ (l : List WriteRecord). At file s limit end (suc left) p.cursor (p.write_index + suc others) l (waves_after file n.item.operation p) course) (sym left_over)
            (at_next file s limit end left p.cursor p.write_index pending p.wave_sources course n _ _ inside sources);
        counted = refl;
      }

  -- the operation is done, and the others go on
  abbrev onward : Progress
  onward = placed p n.item.next (p.operation_index + 1) 0 (waves_after file n.item.operation p)

  gather_onward : ltb (suc others) (length rest) ≡ false → Took file s q limit end left (suc others - length rest) onward (writes_of_all s.pools n.more) course
      → Took file s q limit end (suc left) (suc others) p pending course
  gather_onward e took =
      let enough : length rest ≤ suc others = ltb-false _ _ e in
      let long : length pending ≡ length rest + length (writes_of_all s.pools n.more) = ap length n.is ∙ length-append rest (writes_of_all s.pools n.more) in
      let taken : rest ++ take (suc others - length rest) (writes_of_all s.pools n.more) ≡ take (suc others) pending = sym (ap (take (suc others)) n.is ∙ take_past (suc others) rest (writes_of_all s.pools n.more) enough) in
      let left_over : drop (suc others) pending ≡ drop (suc others - length rest) (writes_of_all s.pools n.more) = ap (drop (suc others)) n.is ∙ drop_past (suc others) rest (writes_of_all s.pools n.more) enough in
      let room : suc others - length rest - length (writes_of_all s.pools n.more) ≡ suc others - length pending = omega arith in
      record {
        left' = took.left';
        cursor = took.cursor;
        index = took.index;
        writes = took.writes;
        waves = took.waves;
        is = one_operation file s acc q limit end left others p pending course n ∙ rw (e, took.is) (gathered_is _ taken room);
        at = subst (λ (l : List WriteRecord). At file s limit end took.left' took.cursor took.writes l took.waves course) (sym left_over) took.at;
        counted = omega (arith, took.counted);
      }

  gather_next : (within : Bool) → ltb (suc others) (length rest) ≡ within → Took file s q limit end left (suc others - length rest) onward (writes_of_all s.pools n.more) course
      → Took file s q limit end (suc left) (suc others) p pending course
  gather_next true e took = gather_within e
  gather_next false e took = gather_onward e took

-- gathering takes as many of the pending writes as there is room for
pub gather : (file : List ℕ) (s : Stream) → Accepted file (header_of file) s
    → (q : Progress) (limit end left room : ℕ) (p : Progress) (pending : List WriteRecord) (course : Course)
    → At file s limit end left p.cursor p.write_index pending p.wave_sources course → Took file s q limit end left room p pending course
gather file s acc q limit end zero room p pending course at = gather_end file s q limit end room p pending course at
gather file s acc q limit end (suc left) zero p pending course at = gather_full file s q limit end left p pending course at
gather file s acc q limit end (suc left) (suc others) p pending course at =
    let n = next_of file s limit end left p.cursor p.write_index pending p.wave_sources course at in
    let along = along_onward file s course p.write_index n.item.operation n.more p.wave_sources n.sources (omega (arith, n.fits)) in
    let more = at_start file s acc limit end left n.item.next n.more n.from (waves_after file n.item.operation p) course along in
    let took =
    gather file s acc q limit end left (suc others - length (drop p.write_index (writes_of s.pools n.item.operation)))
    (onward file s acc q limit end left others p pending course n) (writes_of_all s.pools n.more) course
    more in
    gather_next file s acc q limit end left others p pending course n (ltb (suc others) (length (drop p.write_index (writes_of s.pools n.item.operation)))) refl took

-- OPERATIONS LEFT

-- no operation is left exactly where there was room for all pending writes
pub done_is : (file : List ℕ) (s : Stream) (limit end left cursor writes room : ℕ) (pending : List WriteRecord) (waves : List WaveSource) (course : Course)
    → At file s limit end left cursor writes (drop room pending) waves course → eqb left 0 ≡ leb (length pending) room
done_is file s limit end zero cursor writes room pending waves course at =
    let none = ap length (nothing_left file s limit end cursor writes (drop room pending) waves course at) in
    let short : length pending ≤ room = omega (arith, length-drop room pending) in
    sym (le-leb _ _ short)
done_is file s limit end (suc left) cursor writes room pending waves course at =
    let n = next_of file s limit end left cursor writes (drop room pending) waves course at in
    let here : List WriteRecord = writes_of s.pools n.item.operation in
    let long : length (drop room pending) ≡ length (drop writes here) + length (writes_of_all s.pools n.more) = ap length n.is ∙ length-append (drop writes here) (writes_of_all s.pools n.more) in
    let over : room < length pending = omega (arith, length-drop room pending, length-drop writes here, n.fits) in
    eqb-suc-zero left ∙ sym (lt-leb _ _ over)

-- what ends lies behind
pub onward_to_lem : (file : List ℕ) (s : Stream) (limit end left cursor : ℕ) (operations : List Operation) → operations_from (own file s) file limit left cursor ≡ ok (operations, end) → cursor ≤ end
unfolding operations_from
onward_to_lem file s limit end zero cursor operations e = le_of_eq (ap (λ (x : List Operation × ℕ). x.1) (ok_is e))
onward_to_lem file s limit end (suc left) cursor operations e =
    let step = operation_step (own file s) file limit left cursor (operations, end) e in
    let is = item_is (own file s) file limit cursor step.item step.here in
    let last : step.others.1 ≡ end = ap (λ (x : List Operation × ℕ). x.1) step.is in
    let rest : step.item.next ≤ step.others.1 = onward_to_lem file s limit step.others.1 left step.item.next step.others.0 step.from in
    omega (arith, is.onward)

-- with no operation left the cursor is at the end, and the part of the course is done
pub at_end : (file : List ℕ) (s : Stream) (limit end cursor writes : ℕ) (pending : List WriteRecord) (waves : List WaveSource) (course : Course)
    → At file s limit end 0 cursor writes pending waves course → (cursor ≡ end) × Along file s course writes [] waves
unfolding operations_from
at_end file s limit end cursor writes pending waves course at =
    let none = ok_is at.from in
    (ap (λ (x : List Operation × ℕ). x.1) none, subst (λ (x : List Operation × ℕ). Along file s course writes x.0 waves) (sym none) at.sources)
