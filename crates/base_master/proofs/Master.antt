-- An accepted master is what its header says, and lies within the file.
use Prim.Native.Nat.{ℕ, zero, suc, ◌+◌, ◌*◌, ◌-◌, ◌≤◌, ◌<◌}
use mathlib.Core.Path.{◌≡◌, refl, sym, ap, ◌∙◌, subst}
use mathlib.Core.Bool.{Bool, true, false, cond}
use mathlib.Core.List.{List, [], ◌∷◌}
use native.Mathlib.Nat.{add-zero, not-suc-le-zero}
use native.Mathlib.Omega.{arith}
use borrow.Author.Tests.{eq-eqb, eqb-false}
use lib.Dec.{eqb}
use lib.ListN.{length}
use Rattle.base_format.specs.declared.header.Header.{Header}
use Rattle.base_format.specs.declared.operation.Operation.{Operation}
use Rattle.base_format.specs.Bytes.{byte, be}
use Rattle.base_format.specs.Checked.{ok}
use Rattle.base_format.specs.Header.{plain_header, pooled_header, header_of}
use Rattle.base_format.specs.declared.operation.Item.{Item}
use Rattle.base_format.specs.Operation.{Setting, record_at, operation_at, item_at}
use Rattle.base_format.specs.Repack.{repacked}
use Rattle.base_format.specs.Stream.{Stream, operations_from, frames_from, read}
use Rattle.base_format.proofs.Accepted.{accepted, setting_for}
use Rattle.base_format.proofs.Checks.{ok_is}
use Rattle.base_format.proofs.Steps.{record_is, operation_step, frame_step}
use Rattle.base_master.specs.Places.{record_of, records_at, frames_at, frames_end, behind_frame, master_of}

-- what is read of records and frames, and where they end
module _ (setting : Setting) (file : List ℕ) (one : setting.version ≡ 1) where
  records_read : (limit count at : ℕ) (found : List Operation × ℕ) → operations_from setting file limit count at ≡ ok found
      → (records_at file count at, at + count * 5) ≡ found
  unfolding operations_from records_at item_at
  records_read limit zero at found e = rw add-zero (ok_is e)
  records_read limit (suc count) at found e =
      let step = operation_step setting file limit count at found e in
      let plain = ap (λ (b : Bool). cond b (record_at setting file limit at) (operation_at setting file limit at)) (eq-eqb setting.version 1 one) in
      let here = record_is setting file limit at step.item (sym plain ∙ step.here) in
      let others = records_read limit count step.item.next step.others step.from in
      let more = subst (λ (x : Item). (records_at file count x.next, x.next + count * 5) ≡ step.others) (sym here.is) others in
      let end : at + suc count * 5 ≡ at + 5 + count * 5 = omega arith in
      ap (λ (k : ℕ). (record_of file at ∷ records_at file count (at + 5), k)) end ∙ (λ i. ((here.is i).operation ∷ (more i).0, (more i).1)) ∙ step.is

  frames_read : (count at : ℕ) (found : List (List Operation) × ℕ) → frames_from setting file count at ≡ ok found
      → (frames_at file count at, frames_end file count at) ≡ found
  unfolding frames_from frames_at frames_end
  frames_read zero at found e = ok_is e
  frames_read (suc count) at found e =
      let step = frame_step setting file count at found e in
      let here = records_read (length file) (be 2 file at) (at + 2) step.frame step.here in
      let others = frames_read count step.frame.1 step.others step.from in
      let more = subst (λ (x : List Operation × ℕ). (frames_at file count x.1, frames_end file count x.1) ≡ step.others) (sym here) others in
      (λ i. ((here i).0 ∷ (more i).0, (more i).1)) ∙ step.is

-- the frames of a file lie behind one another
pub frames_rise : (file : List ℕ) (count at : ℕ) → at ≤ frames_end file count at
unfolding frames_end
frames_rise file zero at = omega arith
frames_rise file (suc count) at = omega (arith, frames_rise file count (behind_frame file at))

pub frames_behind : (file : List ℕ) (count at : ℕ) → 0 < count → frames_end file count at ≡ frames_end file (count - 1) (behind_frame file at)
unfolding frames_end
frames_behind file zero at h = absurd (not-suc-le-zero h)
frames_behind file (suc count) at h =
    let e : suc count - 1 ≡ count = omega arith in
    rw e

-- a frame lies before the end of the frames
pub frame_within : (file : List ℕ) (count at : ℕ) → 0 < count → at + 2 + be 2 file at * 5 ≤ frames_end file count at
frame_within file count at h = omega (arith, frames_behind file count at h, frames_rise file (count - 1) (behind_frame file at))

-- where the records and the frames of a master lie
pub record Lies (file : List ℕ) (header : Header) : Type 0 where
  pub opening_fits : 20 + header.initial_count * 5 ≤ length file
  pub frames_fit : frames_end file header.frame_count (20 + header.initial_count * 5) ≤ length file
  pub small : length file ≤ 0xE00000

-- an accepted file of version 1
pub record IsMaster (file : List ℕ) (s : Stream) : Type 0 where
  pub repeats : s.repeat ≡ (header_of file).repeat
  pub opening : s.opening ≡ records_at file (header_of file).initial_count 20
  pub frames : s.frames ≡ frames_at file (header_of file).frame_count (20 + (header_of file).initial_count * 5)
  pub lies : Lies file (header_of file)

-- version 1's header
abbrev PlacesOf : Header → Type 0
PlacesOf header = (header.initial_start ≡ 20) × (header.frame_start ≡ 20 + header.initial_count * 5)

header_places : (file : List ℕ) → (header_of file).version ≡ 1 → PlacesOf (header_of file)
unfolding header_of plain_header pooled_header
header_places file e = go (eqb (byte file 4) 1) refl e
  where
    go : (b : Bool) → eqb (byte file 4) 1 ≡ b → (cond b (plain_header file) (pooled_header (byte file 4) file)).version ≡ 1
        → PlacesOf (cond b (plain_header file) (pooled_header (byte file 4) file))
    go true p one = (refl, refl)
    go false p one = absurd (eqb-false (byte file 4) 1 p one)

pub is_master : (file : List ℕ) (s : Stream) → read file ≡ ok s → s.version ≡ 1 → IsMaster file s
is_master file s e one =
    let acc = (accepted file s e).0 in
    let h = header_of file in
    let version : h.version ≡ 1 = sym acc.version ∙ one in
    let places = header_places file version in
    let opening = records_read (setting_for file h s.cards) file version _ h.initial_count h.initial_start (s.opening, h.frame_start) acc.opening in
    let frames = frames_read (setting_for file h s.cards) file version h.frame_count h.frame_start (s.frames, length file) acc.frames in
    record {
      repeats = acc.repeat;
      opening = sym (ap (λ (x : List Operation × ℕ). x.0) opening) ∙ ap (records_at file h.initial_count) places.0;
      frames = sym (ap (λ (x : List (List Operation) × ℕ). x.0) frames) ∙ ap (frames_at file h.frame_count) places.1;
      lies = record {
        opening_fits = omega (arith, acc.first_within, places.1);
        frames_fit = omega (arith, ap (frames_end file h.frame_count) (sym places.1), ap (λ (x : List (List Operation) × ℕ). x.1) frames);
        small = omega (arith, acc.small, acc.size);
      };
    }

-- what is repacked is what the header says
pub repacked_master : (file : List ℕ) (s : Stream) → IsMaster file s → repacked s ≡ repacked (master_of file (header_of file))
unfolding repacked
repacked_master file s m =
    λ i. repacked (record {
      version = 1;
      repeat = m.repeats i;
      period = 0;
      cards = [];
      pools = [];
      opening = m.opening i;
      frames = m.frames i;
    })
