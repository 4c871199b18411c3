-- What a call takes of plain WRITEs: as many as are left, or as there is room for, each an operation and a write.
use Prim.Native.Nat.{ℕ, zero, suc, ◌+◌, ◌-◌, ◌≤◌, ◌<◌}
use mathlib.Core.Bool.{Bool, true, false, cond}
use mathlib.Core.List.{List, [], ◌∷◌, ◌++◌, append-nil, append_assoc}
use mathlib.Core.Path.{◌≡◌, refl, sym, ap, ◌∙◌}
use native.Mathlib.Omega.{arith}
use borrow.Author.Tests.{le-ltb}
use lib.Dec.{ltb}
use Rattle.std.specs.Prelude.{Some, None}
use Rattle.base_format.specs.declared.operation.WriteRecord.{WriteRecord}
use Rattle.base_format.specs.declared.player.Progress.{Progress}
use Rattle.base_format.specs.declared.player.StreamPlayer.{StreamPlayer}
use Rattle.base_format.specs.Checked.{Checked, ok, refused, mapped, ◌>>=◌}
use Rattle.base_format.specs.Player.{Gathered, placed, waves_by, bytes_at, gathered}
use Rattle.play_fast_plain.specs.Plain.{plain_size, plain_at, plain_behind, plain_write, plain_writes}
use Rattle.play_fast_plain.proofs.Items.{plain_writes_lem, plain_used}

-- so many plain WRITEs: the first one is plain, and the others stand behind it
pub all_plain : (version : ℕ) (file : List ℕ) (end count at behind : ℕ) → Some behind ≡ plain_behind version file end (suc count) at
    → (plain_at version file end at ≡ true) × (Some behind ≡ plain_behind version file end count (at + plain_size version))
unfolding plain_behind
all_plain version file end count at behind e = go (plain_at version file end at) refl e
  where
    go : (b : Bool) → plain_at version file end at ≡ b → Some behind ≡ cond b (plain_behind version file end count (at + plain_size version)) None
        → (plain_at version file end at ≡ true) × (Some behind ≡ plain_behind version file end count (at + plain_size version))
    go true is h = (is, h)
    go false is h = cc

-- what is gathered behind some records
abbrev after : List WriteRecord → Gathered → Gathered
after records g = record { records = records ++ g.records; room = g.room; progress = g.progress }

then_after : (records : List WriteRecord) (x : Checked Gathered) → (x >>= λ (g : Gathered). ok (record { records = records ++ g.records; room = g.room; progress = g.progress })) ≡ mapped (after records) x
then_after records (ok g) = refl
then_after records (refused number place) = refl

after_none : (x : Checked Gathered) → mapped (after []) x ≡ x
after_none (ok g) = refl
after_none (refused number place) = refl

after_after : (a b : List WriteRecord) (x : Checked Gathered) → mapped (after a) (mapped (after b) x) ≡ mapped (after (a ++ b)) x
after_after a b (ok g) = ap (λ (records : List WriteRecord). ok (record { records = records; room = g.room; progress = g.progress })) (sym (append_assoc a b g.records))
after_after a b (refused number place) = refl

-- a progress placed where it is
stays : (p : Progress) → p.write_index ≡ 0 → placed p p.cursor (p.operation_index + 0) 0 p.wave_sources ≡ p
stays p none =
    let index : p.operation_index + 0 ≡ p.operation_index = omega arith in
    ap (λ (n : ℕ). placed p p.cursor n 0 p.wave_sources) index ∙ ap (λ (n : ℕ). placed p p.cursor p.operation_index n p.wave_sources) (sym none)

module _ (state : StreamPlayer) (file : List ℕ) (limit end : ℕ) (within : end ≤ limit) where
  abbrev version : ℕ
  version = state.header.version

  -- one plain WRITE
  gather_one : (left room : ℕ) (p : Progress) → p.write_index ≡ 0 → plain_at version file end p.cursor ≡ true
      → gathered state file limit (suc left) (suc room) p
      ≡ mapped (after (plain_write version file p.cursor ∷ [])) (gathered state file limit left room (placed p (p.cursor + plain_size version) (p.operation_index + 1) 0 p.wave_sources))
  unfolding gathered waves_by
  gather_one left room p none plain =
      let one : ltb (suc room) 1 ≡ false = le-ltb (suc room) 1 (omega arith) in
      let rest : suc room - 1 ≡ room = omega arith in
      rw (plain_used state file limit end p.cursor within plain, plain_writes_lem (bytes_at file state.header.directory_offset) version file p.cursor, none, one, rest)
      (then_after (plain_write version file p.cursor ∷ []) (gathered state file limit left room (placed p (p.cursor + plain_size version) (p.operation_index + 1) 0 p.wave_sources)))

  -- so many of them
  pub gather_plain : (count left room behind : ℕ) (p : Progress) → p.write_index ≡ 0 → Some behind ≡ plain_behind version file end count p.cursor
      → gathered state file limit (count + left) (count + room) p
      ≡ mapped (after (plain_writes version file count p.cursor)) (gathered state file limit left room (placed p behind (p.operation_index + count) 0 p.wave_sources))
  unfolding plain_behind plain_writes
  gather_plain zero left room behind p none is =
      let left' : 0 + left ≡ left = omega arith in
      let room' : 0 + room ≡ room = omega arith in
      let same : behind ≡ p.cursor = cc is in
      rw (left', room', same, stays p none) (sym (after_none (gathered state file limit left room p)))
  gather_plain (suc count) left room behind p none is =
      let left' : suc count + left ≡ suc (count + left) = omega arith in
      let room' : suc count + room ≡ suc (count + room) = omega arith in
      let index : p.operation_index + 1 + count ≡ p.operation_index + suc count = omega arith in
      let plain = all_plain version file end count p.cursor behind is in
      let onward : Progress = placed p (p.cursor + plain_size version) (p.operation_index + 1) 0 p.wave_sources in
      rw (left', room', gather_one (count + left) (count + room) p none plain.0, gather_plain count left room behind onward refl plain.1, index)
      (after_after (plain_write version file p.cursor ∷ []) (plain_writes version file count (p.cursor + plain_size version))
      (gathered state file limit left room (placed p behind (p.operation_index + suc count) 0 p.wave_sources)))

  -- where no operation is left, or no room
  at_rest : (left room : ℕ) (p : Progress) → (0 < left → room ≡ 0) → gathered state file limit left room p ≡ ok (record { records = []; room = room; progress = p })
  unfolding gathered
  at_rest zero room p full = refl
  at_rest (suc left) room p full = rw (full (omega arith))

  -- as many as are left, or as there is room for
  pub gather_all : (count left room behind : ℕ) (p : Progress) → count ≤ left → count ≤ room → (count < left → count ≡ room) → p.write_index ≡ 0
      → Some behind ≡ plain_behind version file end count p.cursor
      → gathered state file limit left room p ≡ ok (record {
        records = plain_writes version file count p.cursor;
        room = room - count;
        progress = placed p behind (p.operation_index + count) 0 p.wave_sources;
      })
  gather_all count left room behind p few fit full none is =
      let left' : count + (left - count) ≡ left = omega arith in
      let room' : count + (room - count) ≡ room = omega arith in
      let behind' : Progress = placed p behind (p.operation_index + count) 0 p.wave_sources in
      rw (left', room') at (gather_plain count (left - count) (room - count) behind p none is)
      ∙ ap (mapped (after (plain_writes version file count p.cursor))) (at_rest (left - count) (room - count) behind' (λ (more : 0 < left - count). omega (arith, full (omega arith))))
      ∙ ap (λ (records : List WriteRecord). ok (record { records = records; room = room - count; progress = behind' })) (append-nil (plain_writes version file count p.cursor))
