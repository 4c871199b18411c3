-- What is known of a file that must have a version, by what its check says.
use Prim.Native.Nat.{ℕ}
use mathlib.Core.Path.{◌≡◌, refl, sym, ap₂}
use mathlib.Core.Bool.{not}
use mathlib.Core.List.{List}
use lib.Dec.{eqb}
use Rattle.base_format.specs.declared.header.Header.{Header}
use Rattle.base_format.specs.Checked.{Checked, ok, refused, refuse, mapped, ◌>>◌}
use Rattle.base_format.specs.Compare.{read_version}
use Rattle.base_format.specs.Header.{header_of}
use Rattle.base_format.specs.Stream.{Stream, read}
use Rattle.base_format.proofs.Accepted.{accepted}
use Rattle.base_format.proofs.Checks.{ok_is, refused_not_ok}
use Rattle.base_format.proofs.Compared.{version_read}
use Rattle.base_format.proofs.InTurn.{mapped_then}
use Rattle.check_version.specs.Answer.{version_header}

-- an accepted file is refused by its header's version alone
pub version_accepted : (version : ℕ) (file : List ℕ) (s : Stream) → read file ≡ ok s
    → version_header version file ≡ (refuse 21 0 (not (eqb (header_of file).version version)) >> ok (header_of file))
unfolding read_version
version_accepted version file s e = rw (e, (accepted file s e).0.version) (mapped_then _ _ _)

pub version_none : (version : ℕ) (file : List ℕ) (number place : ℕ) → read file ≡ refused number place → version_header version file ≡ refused number place
unfolding read_version
version_none version file number place e = rw e

-- an accepted file with its header
pub record Has (version : ℕ) (file : List ℕ) (header : Header) : Type 0 where
  pub stream : Stream
  pub reads : read file ≡ ok stream
  pub is : stream.version ≡ version
  pub header_is : header_of file ≡ header
  pub here : read_version version file ≡ ok stream

pub has : (version : ℕ) (file : List ℕ) (header : Header) → version_header version file ≡ ok header → Has version file header
has version file header e = go (read_version version file) refl e
  where
    go : (r : Checked Stream) → read_version version file ≡ r → mapped (λ (s : Stream). header_of file) r ≡ ok header → Has version file header
    go (ok s) p e =
        let found = version_read version file s p in
        record { stream = s; reads = found.0; is = found.1; header_is = ok_is e; here = p }
    go (refused number place) p e = absurd (refused_not_ok e)

-- a refused one
pub gone : (version : ℕ) (file : List ℕ) (number place : ℕ) → version_header version file ≡ refused number place → read_version version file ≡ refused number place
gone version file number place e = go (read_version version file) e
  where
    go : (r : Checked Stream) → mapped (λ (s : Stream). header_of file) r ≡ refused number place → r ≡ refused number place
    go (ok s) e = absurd (refused_not_ok (sym e))
    go (refused n p) e =
        let number_is : n ≡ number = cc in
        let place_is : p ≡ place = cc in
        ap₂ (λ (a b : ℕ). refused a b) number_is place_is
