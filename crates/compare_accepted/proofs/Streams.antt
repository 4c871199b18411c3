-- The comparison's rule for two accepted files, by their headers.
use Prim.Native.Nat.{ℕ, zero, suc, ◌+◌}
use mathlib.Core.Path.{◌≡◌, refl, sym, ap, ap₂, ◌∙◌}
use mathlib.Core.Bool.{Bool, true, false, ◌&&◌, beq}
use mathlib.Core.List.{List, [], ◌∷◌}
use borrow.Author.Tests.{eqb-true, eqb-false}
use lib.Dec.{eqb}
use lib.ListN.{length, replicate}
use Rattle.base_format.specs.declared.header.Header.{Header}
use Rattle.base_format.specs.declared.operation.Operation.{Operation}
use Rattle.base_format.specs.declared.operation.WriteRecord.{WriteRecord}
use Rattle.base_format.specs.Bytes.{be, same_bytes}
use Rattle.base_format.specs.Checked.{ok}
use Rattle.base_format.specs.Compare.{same_writes, core_writes, played, image_of, same_frames, agree}
use Rattle.base_format.specs.Header.{header_of}
use Rattle.base_format.specs.Pool.{Payload}
use Rattle.base_format.specs.Size.{record_size, master_header_size, count_size, pcm_size}
use Rattle.base_format.specs.Stream.{Stream, frames_from, opening_limit}
use Rattle.base_format.specs.Writes.{upward, writes_with, writes_of, writes_of_all, opening_writes}
use Rattle.base_format.proofs.Accepted.{Accepted, setting_for}
use Rattle.base_format.proofs.Checks.{ok_is}
use Rattle.base_format.proofs.Equal.{same_count}
use Rattle.base_format.proofs.Steps.{frame_step}
use Rattle.base_master.specs.Places.{records_at, frames_at, behind_frame}
use Rattle.base_master.proofs.Master.{IsMaster}
use Rattle.compare_segment.specs.Segments.{record_writes}
use Rattle.compare_segment.proofs.Streams.{record_write_lem, operations_are}
use Rattle.compare_writes.specs.Match.{same_part, same_frames_at}
use Rattle.compare_accepted.specs.Accepted.{master_frames, master_opening, other_opening, master_drawn, other_drawn, frames_agree, agree_by}

-- a master's records
records_are : (pools : List Payload) (file : List ℕ) (count at : ℕ) → writes_of_all pools (records_at file count at) ≡ record_writes file count at
unfolding writes_of_all writes_of writes_with upward records_at record_writes
records_are pools file zero at = refl
records_are pools file (suc count) at = ap₂ ◌∷◌ (sym (record_write_lem file at)) (records_are pools file count (at + record_size))

frames_count : (file : List ℕ) (count at : ℕ) → length (frames_at file count at) ≡ count
unfolding frames_at
frames_count file zero at = refl
frames_count file (suc count) at = ap suc (frames_count file count (behind_frame file at))

-- frames that are not equally many
frames_differ : (p p' : List Payload) (fs gs : List (List Operation)) → (length fs ≡ length gs → ⊥) → same_frames p p' fs gs ≡ false
frames_differ p p' fs gs h = go (same_frames p p' fs gs) refl
  where
    go : (b : Bool) → same_frames p p' fs gs ≡ b → same_frames p p' fs gs ≡ false
    go true e = absurd (h (same_count p p' fs gs e))
    go false e = e

module _ (other : List ℕ) (header : Header) (s : Stream) (acc : Accepted other header s) (two : header.version ≡ 2) where
  read_count : (count at : ℕ) (found : List (List Operation) × ℕ) → frames_from (setting_for other header s.cards) other count at ≡ ok found → length found.0 ≡ count
  unfolding frames_from
  read_count zero at found e = ap (λ (x : List (List Operation) × ℕ). length x.0) (sym (ok_is e))
  read_count (suc count) at found e =
      let step = frame_step (setting_for other header s.cards) other count at found e in
      ap (λ (x : List (List Operation) × ℕ). length x.0) (sym step.is) ∙ ap suc (read_count count step.frame.1 step.others step.from)

  -- equally many frames of both
  frames_are : (pools : List Payload) (master : List ℕ) (count at from : ℕ) (found : List (List Operation) × ℕ) → frames_from (setting_for other header s.cards) other count from ≡ ok found
      → same_frames pools s.pools (frames_at master count at) found.0 ≡ same_frames_at master other header.directory_offset count at from
  unfolding frames_from frames_at same_frames same_frames_at same_part
  frames_are pools master zero at from found e =
      ap (λ (x : List (List Operation) × ℕ). same_frames pools s.pools [] x.0) (sym (ok_is e))
  frames_are pools master (suc count) at from found e =
      let step = frame_step (setting_for other header s.cards) other count from found e in
      let here = operations_are other header s acc two (length other) (be 2 other from) (from + count_size) step.frame step.here in
      let more = frames_are pools master count (behind_frame master at) step.frame.1 step.others step.from in
      ap (λ (x : List (List Operation) × ℕ). same_frames pools s.pools (records_at master (be 2 master at) (at + count_size) ∷ frames_at master count (behind_frame master at)) x.0) (sym step.is)
      ∙ ap₂ ◌&&◌ (ap₂ same_writes (records_are pools master (be 2 master at) (at + count_size)) here.0)
      (more ∙ ap (same_frames_at master other header.directory_offset count (behind_frame master at)) here.1)

  -- all frames of both
  all_frames_lem : (master : List ℕ) (header' : Header) (t : Stream) → t.frames ≡ frames_at master header'.frame_count (master_frames header')
      → same_frames t.pools s.pools t.frames s.frames ≡ frames_agree master header' other header
  unfolding frames_agree
  all_frames_lem master header' t e =
      ap (λ (fs : List (List Operation)). same_frames t.pools s.pools fs s.frames) e ∙ go (eqb header'.frame_count header.frame_count) refl
    where
      go : (b : Bool) → eqb header'.frame_count header.frame_count ≡ b
          → same_frames t.pools s.pools (frames_at master header'.frame_count (master_frames header')) s.frames
          ≡ (b && same_frames_at master other header.directory_offset header'.frame_count (master_frames header') header.frame_start)
      go true q =
          let same : header'.frame_count ≡ header.frame_count = eqb-true _ _ q in
          rw same (frames_are t.pools master header.frame_count (master_frames header') header.frame_start (s.frames, length other) acc.frames)
      go false q =
          let ours = frames_count master header'.frame_count (master_frames header') in
          let theirs = read_count header.frame_count header.frame_start (s.frames, length other) acc.frames in
          frames_differ t.pools s.pools (frames_at master header'.frame_count (master_frames header')) s.frames (λ c. eqb-false _ _ q (sym ours ∙ c ∙ theirs))

  other_opening_lem : opening_writes s ≡ other_opening other header
  other_opening_lem = (operations_are other header s acc two (opening_limit header other) header.initial_count header.initial_start (s.opening, header.frame_start) acc.opening).0

  pub other_image_lem : image_of s ≡ other_drawn pcm_size other header
  other_image_lem = ap (played (replicate pcm_size 0x80)) other_opening_lem

  -- a master and such a file
  module _ (master : List ℕ) (t : Stream) (m : IsMaster master t) where
    master_opening_lem : opening_writes t ≡ master_opening master (header_of master)
    master_opening_lem = ap (writes_of_all t.pools) m.opening ∙ records_are t.pools master (header_of master).initial_count master_header_size

    pub master_image : image_of t ≡ master_drawn pcm_size master (header_of master)
    master_image = ap (played (replicate pcm_size 0x80)) master_opening_lem

    pub agree_is : agree t s ≡ agree_by master (header_of master) other header (master_drawn pcm_size master (header_of master)) (other_drawn pcm_size other header)
    unfolding agree agree_by same_part
    agree_is =
        ap₂ ◌&&◌
        (ap₂ ◌&&◌
        (ap₂ ◌&&◌ (ap₂ beq m.repeats acc.repeat) (ap₂ (λ (x y : List WriteRecord). same_writes (core_writes x) (core_writes y)) master_opening_lem other_opening_lem))
        (ap₂ same_bytes master_image other_image_lem))
        (all_frames_lem master (header_of master) t m.frames)
