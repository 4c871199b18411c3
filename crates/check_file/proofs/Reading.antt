-- `read`, as the code walks through a file.
use Prim.Native.Nat.{ℕ}
use mathlib.Core.Path.{◌≡◌, refl}
use mathlib.Core.Bool.{Bool, true, false, cond}
use mathlib.Core.List.{List}
use lib.Dec.{eqb}
use Rattle.base_format.specs.declared.header.Header.{Header}
use Rattle.base_format.specs.Bytes.{byte}
use Rattle.base_format.specs.Card.{cards_from}
use Rattle.base_format.specs.Checked.{Checked, ok, refused, ◌>>=◌}
use Rattle.base_format.specs.Header.{header_size, header_from, header_of, plain_header, pooled_header, card_count}
use Rattle.base_format.specs.Stream.{read}
use Rattle.base_format.proofs.Accepted.{header_passed}
use Rattle.base_format.proofs.Cards.{table_cards}
use Rattle.check_file.specs.Answer.{recorded}
use Rattle.check_file.specs.Walk.{behind_header, file_walked}
use Rattle.base_format.proofs.InTurn.{mapped_bind, mapped_then, bind_mapped, bind_bind, then_bind, bind_then, then_then}

-- the header that is found is the file's
header_is : (file : List ℕ) (header : Header) → header_from file ≡ ok header → header ≡ header_of file
header_is file header e = (header_passed file header e).0

-- only version 4 has cards, and they start at 48
cards_place : (file : List ℕ) (header : Header) → header ≡ header_of file → cards_from file header.card_count (header_size header.version) 0 ≡ cards_from file header.card_count 48 0
unfolding header_of plain_header pooled_header card_count header_size cards_from
cards_place file header e = rw e (go (eqb (byte file 4) 1) (eqb (byte file 4) 4) refl)
  where
    go : (one four : Bool) → eqb (byte file 4) 4 ≡ four
        → cards_from file (cond one (plain_header file) (pooled_header (byte file 4) file)).card_count (header_size (cond one (plain_header file) (pooled_header (byte file 4) file)).version) 0
        ≡ cards_from file (cond one (plain_header file) (pooled_header (byte file 4) file)).card_count 48 0
    go true four f = refl
    go false true f = rw f
    go false false f = rw f

-- `read` behind the header, as the code walks
read_found : (file : List ℕ) (header : Header) → header_from file ≡ ok header → recorded file ≡ behind_header file header
unfolding read
read_found file header e =
    rw (e, ← (cards_place file header (header_is file header e)))
    (simp (← (header_is file header e), mapped_bind, mapped_then, bind_mapped, bind_bind, then_bind, bind_then, then_then, table_cards))

-- a refused header is the answer
read_refused : (file : List ℕ) (number place : ℕ) → header_from file ≡ refused number place → recorded file ≡ refused number place
unfolding read
read_refused file number place e = rw e

-- the sheet's checks are those of the code
pub recorded_walked : (file : List ℕ) → recorded file ≡ file_walked file
recorded_walked file = go (header_from file) refl
  where
    go : (h : Checked Header) → header_from file ≡ h → recorded file ≡ (h >>= behind_header file)
    go (ok header) e = read_found file header e
    go (refused number place) e = read_refused file number place e
