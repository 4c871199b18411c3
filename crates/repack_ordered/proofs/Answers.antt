-- What repacking answers: a refusal, or the result in the lent buffer; and the last stages, of a master in order.
use Prim.Native.Nat.{ℕ, ◌+◌, ◌*◌, ◌≤◌, ◌<◌}
use mathlib.Core.Path.{◌≡◌, refl, sym, ap, ◌∙◌, subst}
use mathlib.Core.Bool.{Bool, true, false, not}
use mathlib.Core.List.{List, ◌++◌}
use native.Mathlib.Nat.{zero-add}
use native.Mathlib.Omega.{arith}
use borrow.Author.Tests.{eq-eqb, lt-ltb, le-ltb}
use lib.ListN.{length, drop, length-map}
use Rattle.std.specs.Prelude.{Ok, Err}
use Rattle.base_format.specs.declared.header.Header.{Header}
use Rattle.base_format.specs.declared.rule.Refusal.{Refusal}
use Rattle.base_format.specs.declared.operation.Operation.{Operation}
use Rattle.base_format.specs.Checked.{Checked, ok, refused, refuse, mapped, ◌>>◌}
use Rattle.base_format.specs.Lent.{lent_after}
use Rattle.base_format.specs.Repack.{value, to_pcm, in_order, repacked, repack, repack_into}
use Rattle.base_format.specs.Rule.{refusal}
use Rattle.base_format.specs.Stream.{Stream, read}
use Rattle.base_format.specs.Written.{written}
use Rattle.base_format.proofs.Accepted.{accepted}
use Rattle.base_format.proofs.Checks.{ok_is, refused_not_ok}
use Rattle.bytes_read.specs.Put.{put}
use Rattle.bytes_read.proofs.Laws.{put_fits}
use Rattle.base_master.specs.Places.{records_at, master_of}
use Rattle.base_master.specs.Result.{pcm_from, pcm_bytes}
use Rattle.repack_measure.specs.Measured.{Measured}
use Rattle.base_master.proofs.Master.{Lies, IsMaster, is_master, repacked_master}
use Rattle.repack_ordered.specs.Answer.{Taken, Ordered, Repacks}
use Rattle.repack_layout.specs.Layout.{Known}

-- a refusal writes nothing
pub refuses : (file buffer : List ℕ) (r : Refusal) → repack_into file (length buffer) ≡ refusal r → Repacks file buffer buffer (Err r)
refuses file buffer r e =
    (ap (mapped length) (sym e), ap (λ (x : Checked (List ℕ)). lent_after (λ (result : List ℕ). result) x buffer) (sym e))

-- the result stands at the buffer's start
pub writes : (file buffer buffer' result : List ℕ) (size : ℕ) → repack_into file (length buffer) ≡ ok result → length result ≡ size → size ≤ length buffer → buffer' ≡ put result 0 buffer
    → Repacks file buffer buffer' (Ok size)
writes file buffer buffer' result size e long room puts =
    let stands : put result 0 buffer ≡ result ++ drop (length result) buffer = put_fits result 0 buffer (omega arith) ∙ rw zero-add in
    (ap ok (sym long) ∙ ap (mapped length) (sym e), puts ∙ stands ∙ ap (λ (x : Checked (List ℕ)). lent_after (λ (r : List ℕ). r) x buffer) (sym e))

-- ---- the last stages

module _ (file : List ℕ) (s : Stream) (reads : read file ≡ ok s) (room : ℕ) (one : s.version ≡ 1) (ordered : in_order 0 (to_pcm s.opening) ≡ true) where
  pub too_long_lem : 0xE00000 < length (written (repacked s)) → repack_into file room ≡ refused 23 0
  unfolding repack_into repack
  too_long_lem long = rw (reads, eq-eqb s.version 1 one, ordered, lt-ltb 0xE00000 (length (written (repacked s))) long)

  pub no_room : length (written (repacked s)) ≤ 0xE00000 → room < length (written (repacked s)) → repack_into file room ≡ refused 24 0
  unfolding repack_into repack
  no_room small long = rw (reads, eq-eqb s.version 1 one, ordered, le-ltb 0xE00000 (length (written (repacked s))) small, lt-ltb room (length (written (repacked s))) long)

  pub result_is : length (written (repacked s)) ≤ 0xE00000 → length (written (repacked s)) ≤ room → repack_into file room ≡ ok (written (repacked s))
  unfolding repack_into repack
  result_is small fits = rw (reads, eq-eqb s.version 1 one, ordered, le-ltb 0xE00000 (length (written (repacked s))) small, le-ltb room (length (written (repacked s))) fits)

-- ---- a master by its header

-- what the PCM records say
pcm_said : (records : List Operation) (pcm : ℕ) → pcm_from 0 records ≡ ok pcm → (in_order 0 (to_pcm records) ≡ true) × (length (to_pcm records) ≡ pcm)
unfolding pcm_from
pcm_said records pcm e = go (in_order 0 (to_pcm records)) e
  where
    go : (b : Bool) → (refuse 22 0 (not b) >> ok (0 + length (to_pcm records))) ≡ ok pcm → (b ≡ true) × (length (to_pcm records) ≡ pcm)
    go true e' = (refl, sym (zero-add (length (to_pcm records))) ∙ ok_is e')
    go false e' = absurd (refused_not_ok e')

module _ {file : List ℕ} {header : Header} (t : Taken file header) where
  pub version_is : t.stream.version ≡ header.version
  version_is = (accepted file t.stream t.reads).0.version ∙ ap (λ (h : Header). h.version) (sym t.header_is)

  module _ (one : header.version ≡ 1) where
    pub stream_one : t.stream.version ≡ 1
    stream_one = version_is ∙ one

    master : IsMaster file t.stream
    master = is_master file t.stream t.reads stream_one

    pub lies : Lies file header
    lies = subst (Lies file) (sym t.header_is) master.lies

    pub repacked_is : repacked t.stream ≡ repacked (master_of file header)
    repacked_is = repacked_master file t.stream master ∙ ap (λ (h : Header). repacked (master_of file h)) (sym t.header_is)

    pub opening_is : t.stream.opening ≡ records_at file header.initial_count 20
    opening_is = master.opening ∙ ap (λ (h : Header). records_at file h.initial_count 20) (sym t.header_is)

-- a master whose PCM records run in order
module _ {file : List ℕ} {header : Header} {pcm : ℕ} (o : Ordered file header pcm) where
  pub here : Lies file header
  here = lies o.taken o.one

  pcm_length : length (pcm_bytes file header.initial_count 20) ≡ pcm
  unfolding pcm_bytes
  pcm_length = length-map (to_pcm (records_at file header.initial_count 20)) value ∙ (pcm_said (records_at file header.initial_count 20) pcm o.run).1

  -- with what was measured
  pub known_of : {places spots numbers : List ℕ} {waves uses size : ℕ} → Measured file (20 + header.initial_count * 5) header.frame_count places spots numbers waves uses size
      → Known file header places spots numbers pcm waves uses size
  known_of measured =
      record { pcm_is = pcm_length; measured = measured; opening_fits = here.opening_fits; frames_fit = here.frames_fit; small = here.small }

  ordered : in_order 0 (to_pcm o.taken.stream.opening) ≡ true
  ordered = ap (λ (l : List Operation). in_order 0 (to_pcm l)) (opening_is o.taken o.one) ∙ (pcm_said (records_at file header.initial_count 20) pcm o.run).0

  abbrev pub result : List ℕ
  result = written (repacked (master_of file header))

  same : written (repacked o.taken.stream) ≡ result
  same = ap written (repacked_is o.taken o.one)

  pub long_result : (room : ℕ) → 0xE00000 < length result → repack_into file room ≡ refused 23 0
  long_result room h = too_long_lem file o.taken.stream o.taken.reads room (stream_one o.taken o.one) ordered (rw same h)

  pub short_room : (room : ℕ) → length result ≤ 0xE00000 → room < length result → repack_into file room ≡ refused 24 0
  short_room room small h = no_room file o.taken.stream o.taken.reads room (stream_one o.taken o.one) ordered (rw same small) (rw same h)

  pub the_result : (room : ℕ) → length result ≤ 0xE00000 → length result ≤ room → repack_into file room ≡ ok result
  the_result room small h = result_is file o.taken.stream o.taken.reads room (stream_one o.taken o.one) ordered (rw same small) (rw same h) ∙ ap ok same
