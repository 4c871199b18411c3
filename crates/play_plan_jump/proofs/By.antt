-- The jump by what a start of the lent file records is the sheet's jump.
use Prim.Native.Nat.{ℕ, ◌-◌}
use mathlib.Core.Bool.{Bool, true, false, not}
use mathlib.Core.List.{List}
use mathlib.Core.Path.{◌≡◌, refl, sym, ap, ap₂, ◌∙◌}
use lib.ListN.{length}
use Rattle.base_format.specs.declared.header.Header.{Header}
use Rattle.base_format.specs.declared.player.StreamPlayer.{StreamPlayer}
use Rattle.base_format.specs.Bytes.{AllBytes, same_bytes}
use Rattle.base_format.specs.Checked.{Checked, ok, refused, refuse, ◌>>◌}
use Rattle.base_format.specs.Header.{header_of}
use Rattle.base_format.specs.Index.{index_of}
use Rattle.base_format.specs.Jump.{no_frame, before_frame, jump_belongs, jumped}
use Rattle.base_format.specs.State.{between_at, progress_at, player_of, started_as, started, moved}
use Rattle.base_format.specs.declared.rule.Refusal.{Refusal}
use Rattle.base_format.specs.Rule.{number_of, refusal}
use Rattle.base_format.specs.Stream.{Stream, read}
use Rattle.base_format.proofs.Accepted.{accepted}
use Rattle.base_format.proofs.Checks.{refused_not_ok}
use Rattle.base_format.proofs.Equal.{same_bytes_lem}
use Rattle.index_check.specs.Other.{other_index}
use Rattle.index_check.specs.Place.{place_by}
use Rattle.index_check.proofs.Own.{other_index_lem, place_by_lem}
use Rattle.index_laws.proofs.Places.{frame_count}
use Rattle.play_jump_belongs.specs.Foreign.{foreign_jump}
use Rattle.play_jump_belongs.proofs.Foreign.{jump_foreign_is}
use Rattle.play_start.specs.Start.{verdict_in}
use Rattle.play_jump_accepted.specs.Told.{found_by, jumped_by}

-- an accepted file
module _ (state : StreamPlayer) (file index : List ℕ) (frame : ℕ) (s : Stream) (e : read file ≡ ok s) (bytes : AllBytes index) where
  -- by its own index the frame is found where it stands
  found : index ≡ index_of s → no_frame (length s.frames) frame ≡ false
      → found_by state (header_of file).version file index frame ≡ moved state (before_frame s (frame - 1) state.progress)
  found own there =
      ap (λ (at : ℕ). moved state (progress_at (between_at at (frame - 1)) true false state.progress.wave_sources))
      (ap (λ (l : List ℕ). place_by (header_of file).version file l frame) own ∙ place_by_lem file s e frame there)

  -- what the tests of the index and of the frame leave, by what is said of both
  abbrev behind : (other none : Bool) → StreamPlayer → Checked StreamPlayer
  behind other none next = refuse 26 0 other >> (refuse 27 0 none >> ok next)

  -- both tests and the frame's place by a header
  abbrev by_header : Header → Checked StreamPlayer
  by_header h = behind (other_index file h index) (no_frame h.frame_count frame) (found_by state h.version file index frame)

  abbrev next : StreamPlayer
  next = moved state (before_frame s (frame - 1) state.progress)

  rest : (same : Bool) → same_bytes index (index_of s) ≡ same → (none : Bool) → no_frame (length s.frames) frame ≡ none
      → behind (not same) none (found_by state (header_of file).version file index frame) ≡ behind (not same) none next
  rest false same none there = refl
  rest true same true there = refl
  rest true same false there = ap ok (found (same_bytes_lem index (index_of s) same) there)

  header_started : (started file).header ≡ header_of file
  unfolding started_as player_of
  header_started = rw e

  jumped_is : jumped state file index frame ≡ (jump_belongs state file s >> behind (not (same_bytes index (index_of s))) (no_frame (length s.frames) frame) next)
  unfolding jumped
  jumped_is = rw e

  jumped_by_lem : jumped_by state (started file) file index frame ≡ jumped state file index frame
  unfolding jumped_by
  jumped_by_lem =
      ap (λ (h : Header). refuse 25 0 (foreign_jump (length file) state (started file)) >> by_header h) header_started
      ∙ ap (λ (first : Checked (Unit {0})). first >> by_header (header_of file)) (jump_foreign_is state file s e)
      ∙ ap₂ (λ (other : Bool) (frames : ℕ). jump_belongs state file s >> behind other (no_frame frames frame) (found_by state (header_of file).version file index frame))
      (other_index_lem file s e index bytes) (sym (frame_count file s (accepted file s e).0))
      ∙ ap (λ (x : Checked StreamPlayer). jump_belongs state file s >> x) (rest (same_bytes index (index_of s)) refl (no_frame (length s.frames) frame) refl)
      ∙ sym jumped_is

-- THE VERDICT OF A START

pub planned_accepted : (state : StreamPlayer) (file index : List ℕ) (frame : ℕ) → AllBytes index → ok tt ≡ verdict_in (read file)
    → jumped_by state (started file) file index frame ≡ jumped state file index frame
planned_accepted state file index frame bytes given = go (read file) refl given
  where
    go : (answer : Checked Stream) → read file ≡ answer → ok tt ≡ verdict_in answer → jumped_by state (started file) file index frame ≡ jumped state file index frame
    go (ok s) e given = jumped_by_lem state file index frame s e bytes
    go (refused number place) e given = absurd (refused_not_ok (sym given))

pub planned_refused : (state : StreamPlayer) (file index : List ℕ) (frame : ℕ) (y : Refusal) → refusal y ≡ verdict_in (read file) → refusal y ≡ jumped state file index frame
unfolding jumped
planned_refused state file index frame y given = go (read file) refl given
  where
    go : (answer : Checked Stream) → read file ≡ answer → refusal y ≡ verdict_in answer → refusal y ≡ jumped state file index frame
    go (ok s) e given = absurd (refused_not_ok given)
    go (refused n p) e given =
        let same : number_of y.rule ≡ n = cc in
        let at : y.place ≡ p = cc in
        rw (e, same, at)
