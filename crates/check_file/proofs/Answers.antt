-- What a caller learns from the answer of the file check, by its arms `Ok` and `Err`.
use Rattle.std.proofs.Common.{◌≡◌, ℕ, List, refl, sym, ap}
use Rattle.base_format.specs.declared.rule.Refusal.{Refusal}
use Rattle.base_format.specs.Checked.{Checked, ok, refused}
use Rattle.base_format.specs.Header.{header_of}
use Rattle.base_format.specs.Rule.{refusal}
use Rattle.base_format.specs.Stream.{Stream, read}
use Rattle.base_format.proofs.Checks.{refused_not_ok, ok_is}
use Rattle.check_file.specs.declared.check.Recorded.{Recorded}
use Rattle.check_file.specs.Answer.{record_of, recorded}

-- an accepted file: its stream, of which the answer has the header, the cards and whether target 11 is used
pub record AcceptedAs (file : List ℕ) (found : Recorded) : Type 0 where
  pub stream : Stream
  pub reads : read file ≡ ok stream
  pub is : found ≡ record_of file stream
  pub header_is : found.header ≡ header_of file

pub accepted_as_lem : (file : List ℕ) {found : Recorded} → ok found ≡ recorded file → AcceptedAs file found
accepted_as_lem file {found} e = go (read file) refl
  where
    go : (s : Checked Stream) → read file ≡ s → AcceptedAs file found
    go (ok s) f =
        let is : found ≡ record_of file s = ok_is (rw f at e) in
        record { stream = s; reads = f; is = is; header_is = ap (λ (x : Recorded). x.header) is }
    go (refused number place) f = absurd (refused_not_ok (sym (rw f at e)))

-- a refused file: the sheet's number and place
pub refused_as_lem : (file : List ℕ) (why : Refusal) → refusal why ≡ recorded file → read file ≡ refusal why
refused_as_lem file why e = go (read file) refl
  where
    go : (s : Checked Stream) → read file ≡ s → read file ≡ refusal why
    go (ok s) f = absurd (refused_not_ok (rw f at e))
    go (refused number place) f = let same : ◌≡◌ {A = Checked Recorded} (refusal why) (refused number place) = rw f at e in rw f (cc)
