-- A part's WRITEs and FILLs that are taken are what a call gathers of it, with the same records.
use Prim.Native.Nat.{ℕ, zero, suc, ◌+◌, ◌-◌, ◌≤◌, ◌<◌}
use mathlib.Core.Path.{◌≡◌, refl, sym, ap, ◌∙◌}
use mathlib.Core.Bool.{Bool, true, false, cond, ◌&&◌}
use mathlib.Core.List.{List, [], ◌++◌}
use native.Mathlib.Omega.{arith}
use borrow.Author.Tests.{ltb-false, leb-true, leb-false, le-ltb, ltb-true, ne_eqb}
use lib.Dec.{eqb, leb, ltb}
use Rattle.std.specs.Prelude.{Result, Ok, Err}
use lib.ListN.{length, take, drop, replicate, length-drop, length-replicate}
use Rattle.base_format.specs.declared.operation.WriteRecord.{WriteRecord}
use Rattle.base_format.specs.declared.player.Progress.{Progress}
use Rattle.base_format.specs.declared.player.StreamPlayer.{StreamPlayer}
use Rattle.base_format.specs.declared.player.WaveSource.{WaveSource}
use Rattle.base_format.specs.Card.{cards_of}
use Rattle.base_format.specs.Checked.{ok}
use Rattle.base_format.specs.Player.{Gathered, waves_by, placed, bytes_at, gathered}
use Rattle.base_format.specs.Writes.{upward, writes_with}
use Rattle.base_format.proofs.Checks.{and_true}
use Rattle.base_format.proofs.Writes.{length_upward}
use Rattle.play_laws.proofs.PlannedOperations.{gathered_step}
use Rattle.bytes_operation.specs.declared.decode.Decoded.{Decoded}
use Rattle.play_fast_fill_records.specs.Records.{fill_place, fill_records}
use Rattle.play_fast_fill_records.proofs.Operation.{drop_upward, take_upward, operation_records, operation_after}
use Rattle.play_fast_fill_records.proofs.Records.{records_join}
use Rattle.play_fast_fill.specs.declared.FillsTaken.{FillsTaken}
use Rattle.play_fast_fill.specs.Fills.{stopped_at, count_at, fills_from, fills_taken}
use Rattle.play_fast_fill.proofs.Items.{version_of, width_of, starts_in, ends_in, item_on, Used, used}
use Rattle.play_fast_fill.proofs.Steps.{Fewer, stop_of, fills_end, fills_full, fills_none, fills_step, from_fewer}

-- what a call gathers, where the walk stops
abbrev pub taken : StreamPlayer → List ℕ → (left room : ℕ) → Progress → FillsTaken → Gathered
taken state file left room p r =
    record {
      records = fill_records file (version_of state) (room - r.room) (fill_place p.cursor p.write_index);
      room = r.room;
      progress = placed p r.cursor (p.operation_index + (left - r.left)) r.writes p.wave_sources;
    }

same_waves : (b : Bool) (waves set : List WaveSource) → set ≡ waves → cond b set waves ≡ waves
same_waves true waves set e = e
same_waves false waves set e = refl

module _ (state : StreamPlayer) (file : List ℕ) (limit end : ℕ) (pooled : eqb (version_of state) 1 ≡ false) (most : end ≤ limit) (inside : end ≤ length file) where
  -- ONE OPERATION

  module _ (left room : ℕ) (p : Progress) (some : 0 < left) (free : 0 < room) (u : Used state file limit p.cursor) (whole : p.cursor + 16 ≤ end) (more : p.write_index < (item_on state file p.cursor).length) where
    abbrev item : Decoded
    item = item_on state file p.cursor

    abbrev made : ℕ
    made = p.write_index

    abbrev all : ℕ
    all = item.length

    abbrev target : ℕ
    target = item.target

    abbrev address : ℕ
    address = item.address

    abbrev value : ℕ
    value = item.value

    abbrev writes : List WriteRecord
    writes = writes_with (bytes_at file state.header.directory_offset) u.item.operation

    -- the writes that are not made yet
    left_writes : drop made writes ≡ upward target (address + made) (replicate (all - made) value)
    left_writes =
        let sum : all ≡ made + (all - made) = omega arith in
        rw u.writes (ap (λ (k : ℕ). drop made (upward target address (replicate k value))) sum ∙ drop_upward target value made (all - made) address)

    records : (n : ℕ) → made + n ≤ all → fill_records file (version_of state) n (fill_place p.cursor made) ≡ upward target (address + made) (replicate n value)
    records n few = operation_records file (version_of state) p.cursor made (omega arith) u.low more (omega (arith, u.small)) n few

    first_writes : (n : ℕ) → made + n ≤ all → take n (drop made writes) ≡ fill_records file (version_of state) n (fill_place p.cursor made)
    first_writes n few =
        let sum : all - made ≡ n + (all - made - n) = omega arith in
        rw left_writes (ap (λ (k : ℕ). take n (upward target (address + made) (replicate k value))) sum ∙ take_upward target value n (all - made - n) (address + made) ∙ sym (records n few))

    all_long : length writes ≡ all
    all_long = ap length u.writes ∙ length_upward target address _ ∙ length-replicate all value

    left_long : length (drop made writes) ≡ all - made
    left_long = rw (length-drop, all_long)

    waves_stay : cond (eqb made 0) (waves_by file state.header.directory_offset u.item.operation p.wave_sources) p.wave_sources ≡ p.wave_sources
    waves_stay = same_waves (eqb made 0) p.wave_sources _ (u.waves p.wave_sources)

    -- the room ends within it
    cut : ltb room (all - made) ≡ true
        → gathered state file limit left room p ≡ ok (record {
          records = fill_records file (version_of state) room (fill_place p.cursor made);
          room = 0;
          progress = placed p p.cursor p.operation_index (made + room) p.wave_sources;
        })
    cut short =
        gathered_step state file limit left room p some free
        ∙ rw (u.is, all_long, le-ltb all made (omega arith), left_long, short, waves_stay, first_writes room (omega (arith, ltb-true room (all - made) short)))

    -- then the others
    onward : ltb room (all - made) ≡ false → (g : Gathered)
        → gathered state file limit (left - 1) (room - (all - made)) (placed p (p.cursor + item.size) (p.operation_index + 1) 0 p.wave_sources) ≡ ok g
        → gathered state file limit left room p ≡ ok (record { records = fill_records file (version_of state) (all - made) (fill_place p.cursor made) ++ g.records; room = g.room; progress = g.progress })
    onward enough g e =
        gathered_step state file limit left room p some free
        ∙ rw (u.is, all_long, le-ltb all made (omega arith), left_long, enough, waves_stay, u.next, e, left_writes, ← (records (all - made) (omega arith)))

    -- the records of both
    joined : (n : ℕ)
        → fill_records file (version_of state) (all - made) (fill_place p.cursor made) ++ fill_records file (version_of state) n (fill_place (p.cursor + item.size) 0)
        ≡ fill_records file (version_of state) (all - made + n) (fill_place p.cursor made)
    joined n =
        sym (records_join file (version_of state) (all - made) n (fill_place p.cursor made)
        ∙ ap (λ (l : List WriteRecord). fill_records file (version_of state) (all - made) (fill_place p.cursor made) ++ l) (operation_after file (version_of state) p.cursor made (omega arith) u.low more (omega (arith, u.small)) n))

  -- SO MANY OPERATIONS

  abbrev walk : (left room cursor writes : ℕ) → Result FillsTaken FillsTaken
  walk left room cursor writes = fills_from file (width_of state) (starts_in state) (ends_in state) end left room cursor writes

  abbrev count : ℕ → ℕ
  count cursor = count_at file (width_of state) (starts_in state) (ends_in state) end cursor

  -- as it stands
  stands : (left room : ℕ) (p : Progress) → gathered state file limit left room p ≡ ok (record { records = []; room = room; progress = p })
      → gathered state file limit left room p ≡ ok (taken state file left room p (stopped_at p.cursor left room p.write_index))
  unfolding fill_records
  stands left room p e =
      let index : p.operation_index + (left - left) ≡ p.operation_index = omega arith in
      let none : room - room ≡ 0 = omega arith in
      rw (index, none) e

  nothing_left : (room : ℕ) (p : Progress) → gathered state file limit 0 room p ≡ ok (record { records = []; room = room; progress = p })
  unfolding gathered
  nothing_left room p = refl

  no_room : (left : ℕ) (p : Progress) → gathered state file limit (suc left) 0 p ≡ ok (record { records = []; room = 0; progress = p })
  unfolding gathered
  no_room left p = refl

  from_gathered : (left room : ℕ) (p : Progress) (r : FillsTaken) → Ok r ≡ walk left room p.cursor p.write_index
      → gathered state file limit left room p ≡ ok (taken state file left room p r)
  from_gathered zero room p r is =
      let at : r ≡ stopped_at p.cursor 0 room p.write_index = cc (is, fills_end file (width_of state) (starts_in state) (ends_in state) end room p.cursor p.write_index) in
      rw at (stands 0 room p (nothing_left room p))
  from_gathered (suc left) zero p r is =
      let at : r ≡ stopped_at p.cursor (suc left) 0 p.write_index = cc (is, fills_full file (width_of state) (starts_in state) (ends_in state) end (suc left) p.cursor p.write_index) in
      rw at (stands (suc left) 0 p (no_room left p))
  from_gathered (suc left) (suc others) p r is = go (leb (count p.cursor) made) refl (from_gathered left (suc others - rest) behind r)
    where
      made : ℕ
      made = p.write_index

      rest : ℕ
      rest = count p.cursor - made

      onto : ℕ
      onto = p.cursor + (item_on state file p.cursor).size

      behind : Progress
      behind = placed p onto (p.operation_index + 1) 0 p.wave_sources

      -- the operations behind the first
      Others : Type 0
      Others = Ok r ≡ walk left (suc others - rest) onto 0 → gathered state file limit left (suc others - rest) behind ≡ ok (taken state file left (suc others - rest) behind r)

      first : Others → Used state file limit p.cursor → count p.cursor ≡ (item_on state file p.cursor).length → p.cursor + 16 ≤ end → made < count p.cursor
          → (b : Bool) → ltb (suc others) rest ≡ b → Ok r ≡ cond b (Ok (stopped_at p.cursor (suc left) 0 (made + suc others))) (walk left (suc others - rest) onto 0)
          → gathered state file limit (suc left) (suc others) p ≡ ok (taken state file (suc left) (suc others) p r)
      first later u same whole more true short e =
          let at : r ≡ stopped_at p.cursor (suc left) 0 (made + suc others) = cc e in
          let index : p.operation_index + (suc left - suc left) ≡ p.operation_index = omega arith in
          let room : suc others - 0 ≡ suc others = omega arith in
          rw (at, index, room) (cut (suc left) (suc others) p (omega arith) (omega arith) u whole (rw same at more) (rw same at short))
      first later u same whole more false enough e =
          let fewer : Fewer left (suc others - rest) r = rw (ap stop_of e) (from_fewer file (width_of state) (starts_in state) (ends_in state) end left (suc others - rest) onto 0) in
          let one : suc left - 1 ≡ left = omega arith in
          let index : p.operation_index + 1 + (left - r.left) ≡ p.operation_index + (suc left - r.left) = omega (arith, fewer.0) in
          let all : ℕ = (item_on state file p.cursor).length in
          let n : ℕ = suc others - rest - r.room in
          let sum : all - made + n ≡ suc others - r.room = omega (arith, same, fewer.1, ltb-false (suc others) rest enough) in
          let more' = rw same at more in
          let both = joined (suc left) (suc others) p (omega arith) (omega arith) u whole more' n ∙ ap (λ (k : ℕ). fill_records file (version_of state) k (fill_place p.cursor made)) sum in
          onward (suc left) (suc others) p (omega arith) (omega arith) u whole more' (rw same at enough) (taken state file left (suc others - rest) behind r) (rw (one, ← same) (later e))
          ∙ rw (both, index)

      go : (b : Bool) → leb (count p.cursor) made ≡ b → Others → gathered state file limit (suc left) (suc others) p ≡ ok (taken state file (suc left) (suc others) p r)
      go true none later =
          let nothing = fills_none file (width_of state) (starts_in state) (ends_in state) end (suc left) (suc others) p.cursor made (omega arith) (omega arith) none in
          cc (is, nothing)
      go false more later =
          let some : made < count p.cursor = leb-false (count p.cursor) made more in
          let one : suc left - 1 ≡ left = omega arith in
          let u = used state file limit end p.cursor pooled most (ne_eqb (count p.cursor) 0 (λ none. omega arith)) in
          let step = fills_step file (width_of state) (starts_in state) (ends_in state) end (suc left) (suc others) p.cursor made (omega arith) (omega arith) more ∙ rw one in
          first later u.0 u.1 u.2 some (ltb (suc others) rest) refl (is ∙ step)

-- with the ranges of a version and its cards, and the same limit or a later one
pub fills_gathered : (state : StreamPlayer) (file : List ℕ) (limit later left room cursor writes : ℕ) (p : Progress) (r : FillsTaken) → limit ≤ later → limit ≤ length file
    → p.cursor ≡ cursor → p.write_index ≡ writes → Ok r ≡ fills_taken file (version_of state) (cards_of state.cards) limit left room cursor writes
    → gathered state file later left room p ≡ ok (taken state file left room p r)
unfolding fills_taken
fills_gathered state file limit later left room cursor writes p r most inside at done is =
    go (leb 2 (version_of state) && leb (version_of state) 4) refl is
  where
    go : (b : Bool) → (leb 2 (version_of state) && leb (version_of state) 4) ≡ b
        → Ok r ≡ cond b (fills_from file (width_of state) (starts_in state) (ends_in state) limit left room cursor writes) (Err (stopped_at cursor left room writes))
        → gathered state file later left room p ≡ ok (taken state file left room p r)
    go true e walked =
        let low : 2 ≤ version_of state = leb-true 2 (version_of state) (and_true (leb 2 (version_of state)) (leb (version_of state) 4) e).0 in
        let pooled : eqb (version_of state) 1 ≡ false = ne_eqb (version_of state) 1 (λ one. omega arith) in
        from_gathered state file later limit pooled most inside left room p r (rw (at, done) walked)
    go false e walked = cc
