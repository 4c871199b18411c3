-- What the stages before the last one refuse: a refused file, another version, and PCM records out of order.
use Prim.Native.Nat.{ℕ, ◌+◌}
use mathlib.Core.Path.{◌≡◌, refl, sym, ap, ◌∙◌}
use mathlib.Core.Bool.{Bool, true, false, not}
use mathlib.Core.List.{List}
use borrow.Author.Tests.{eq-eqb, ne_eqb}
use lib.ListN.{length}
use Rattle.base_format.specs.declared.header.Header.{Header}
use Rattle.base_format.specs.declared.operation.Operation.{Operation}
use Rattle.base_format.specs.declared.rule.Refusal.{Refusal}
use Rattle.base_format.specs.Checked.{ok, refused, refuse, mapped, ◌>>◌}
use Rattle.base_format.specs.Repack.{to_pcm, in_order, repack, repack_into, buffer_after}
use Rattle.base_format.specs.Rule.{refusal}
use Rattle.base_format.specs.Stream.{Stream, read}
use Rattle.base_format.proofs.Checks.{refused_not_ok}
use Rattle.base_master.specs.Places.{records_at}
use Rattle.base_master.specs.Result.{pcm_from}
use Rattle.check_file.specs.declared.check.Recorded.{Recorded}
use Rattle.check_file.specs.Answer.{recorded}
use Rattle.check_file.proofs.Answers.{accepted_as_lem, refused_as_lem}
use Rattle.repack_ordered.specs.Answer.{Taken}
use Rattle.repack_ordered.proofs.Answers.{refuses, version_is, stream_one, opening_is}

-- a refused file
pub not_read : (file : List ℕ) (room number place : ℕ) → read file ≡ refused number place → repack_into file room ≡ refused number place
unfolding repack_into repack
not_read file room number place e = rw e

pub refused_answer : (file : List ℕ) (room : ℕ) (why : Refusal) → refusal why ≡ recorded file → mapped length (repack_into file room) ≡ refusal why
refused_answer file room why e = ap (mapped length) (not_read file room _ _ (refused_as_lem file why e))

pub refused_buffer : (file buffer : List ℕ) (why : Refusal) → refusal why ≡ recorded file → buffer_after file buffer ≡ buffer
refused_buffer file buffer why e = sym (refuses file buffer why (not_read file (length buffer) _ _ (refused_as_lem file why e))).1

-- an accepted one
pub taken : (file : List ℕ) (found : Recorded) → ok found ≡ recorded file → Taken file found.header
taken file found e =
    let known = accepted_as_lem file e in
    record { stream = known.stream; reads = known.reads; header_is = known.header_is }

module _ (file : List ℕ) (s : Stream) (reads : read file ≡ ok s) (room : ℕ) where
  pub not_master : (s.version ≡ 1 → ⊥) → repack_into file room ≡ refused 21 0
  unfolding repack_into repack
  not_master other = rw (reads, ne_eqb s.version 1 other)

  module _ (one : s.version ≡ 1) where
    pub not_ordered : in_order 0 (to_pcm s.opening) ≡ false → repack_into file room ≡ refused 22 0
    unfolding repack_into repack
    not_ordered wrong = rw (reads, eq-eqb s.version 1 one, wrong)

-- ---- a master by its header

-- what PCM records out of order say
pcm_refused : (records : List Operation) → pcm_from 0 records ≡ refused 22 0 → in_order 0 (to_pcm records) ≡ false
unfolding pcm_from
pcm_refused records e = go (in_order 0 (to_pcm records)) e
  where
    go : (b : Bool) → (refuse 22 0 (not b) >> ok (0 + length (to_pcm records))) ≡ refused 22 0 → b ≡ false
    go true e' = absurd (refused_not_ok (sym e'))
    go false e' = refl

module _ {file : List ℕ} {header : Header} (t : Taken file header) where
  pub other_version : (room : ℕ) → (header.version ≡ 1 → ⊥) → repack_into file room ≡ refused 21 0
  other_version room other = not_master file t.stream t.reads room (λ e. other (sym (version_is t) ∙ e))

  module _ (one : header.version ≡ 1) where
    pub out_of_order : (room : ℕ) → pcm_from 0 (records_at file header.initial_count 20) ≡ refused 22 0 → repack_into file room ≡ refused 22 0
    out_of_order room e =
        not_ordered file t.stream t.reads room (stream_one t one) (ap (λ (l : List Operation). in_order 0 (to_pcm l)) (opening_is t one) ∙ pcm_refused (records_at file header.initial_count 20) e)
