-- What repacking answers, in the sheet's numbers.
use Rattle.std.specs.Prelude.{ℕ, List, ◌≡◌, length, Result}
use Rattle.base_format.specs.declared.header.Header.{Header}
use Rattle.base_format.specs.declared.rule.Refusal.{Refusal}
use Rattle.base_format.specs.Checked.{ok, mapped}
use Rattle.base_format.specs.Header.{header_of}
use Rattle.base_format.specs.Repack.{repack_into, buffer_after}
use Rattle.base_format.specs.Rule.{answer_of}
use Rattle.base_format.specs.Stream.{Stream, read}
use Rattle.base_format.specs.Size.{master_header_size}
use Rattle.base_master.specs.Places.{records_at}
use Rattle.base_master.specs.Result.{pcm_from}

-- an accepted file: its stream and its header
pub record Taken (file : List ℕ) (header : Header) : Type 0 where
  pub stream : Stream
  pub reads : read file ≡ ok stream
  pub header_is : header ≡ header_of file

-- an accepted master with so many PCM records, in order
pub record Ordered (file : List ℕ) (header : Header) (pcm : ℕ) : Type 0 where
  pub taken : Taken file header
  pub one : header.version ≡ 1
  pub run : pcm_from 0 (records_at file header.initial_count master_header_size) ≡ ok pcm

-- the answer, and the lent buffer after it
abbrev pub Repacks : (file buffer buffer' : List ℕ) → Result ℕ Refusal → Type 0
Repacks file buffer buffer' answer = (answer_of answer ≡ mapped length (repack_into file (length buffer))) × (buffer' ≡ buffer_after file buffer)
