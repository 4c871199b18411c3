-- Joining two files is refused: exactly when, by which number, and with which file's name.
use Prim.Native.Nat.{ℕ, ◌+◌, ◌<◌, ◌≤◌}
use mathlib.Core.List.{List, [], ◌∷◌}
use mathlib.Core.Logic.{◌↔◌}
use mathlib.Core.Path.{◌≡◌, refl, ap}
use native.Mathlib.Omega.{arith}
use lib.ListN.{length}
use Rattle.base_format.specs.Bytes.{AllBytes}
use Rattle.base_format.specs.Checked.{Checked, ok, refused}
use Rattle.base_format.specs.Compare.{read_version}
use Rattle.base_format.specs.Size.{file_limit, pooled_header_size}
use Rattle.base_format.specs.Stream.{Stream}
use Rattle.base_format.specs.Written.{written}
use Rattle.join_stream.specs.Join.{joined, first_count, both_into, NamedFile, in_first, in_second, in_neither, Joining, join_made, join_refused, naming, join_into}
use Rattle.join_stream.proofs.Join.{frame_test, pools_test, size_test, room_test, tests_of_both, tested_in_order, both_size}
use Rattle.join_stream.proofs.Row.{in_row, refused_by_lem}

-- a number for each name, and 0 for bytes
abbrev name_number : NamedFile → ℕ
name_number in_first = 1
name_number in_second = 2
name_number in_neither = 3

abbrev name_in : Joining (List ℕ) → ℕ
name_in (join_made bytes) = 0
name_in (join_refused named number place) = name_number named

refusal_is : {A : Type 0} {named : NamedFile} {n p n' p' : ℕ} → ◌≡◌ {A = Joining (List ℕ)} (join_refused named n p) (join_refused named n' p')
    → ◌≡◌ {A = Checked A} (refused n p) (refused n' p')
refusal_is e = cc

-- an answer does not have a name
abbrev Never : (name : ℕ) → Joining (List ℕ) → Type 0
Never name answer = name_in answer ≡ name → ⊥

-- where neither the check's refusal nor what comes behind it has it
never_named : {A : Type 0} (name : ℕ) (named : NamedFile) (check : Checked A) (next : A → Joining (List ℕ)) → (name_number named ≡ name → ⊥) → ((a : A) → Never name (next a))
    → Never name (naming named check next)
never_named name named (ok a) next other rest = rest a
never_named name named (refused number place) next other rest = other

-- a refusal with a name is the check's that gives it, where nothing behind the check has that name
named_exactly : {A : Type 0} (named : NamedFile) (check : Checked A) (next : A → Joining (List ℕ)) → ((a : A) → Never (name_number named) (next a)) → (n p : ℕ)
    → (naming named check next ≡ join_refused named n p) ↔ (check ≡ refused n p)
named_exactly named (ok a) next never n p = (λ e. absurd (never a (ap name_in e)), λ e. ap (λ c. naming named c next) e)
named_exactly named (refused number place) next never n p = (refusal_is, λ e. ap (λ c. naming named c next) e)

-- behind the checks of both files
both_never : (name : ℕ) → (3 ≡ name → ⊥) → (0 ≡ name → ⊥) → (a b : Stream) (room : ℕ) → Never name (naming in_neither (both_into a b room) join_made)
both_never name not-3 not-0 a b room = never_named name in_neither (both_into a b room) join_made not-3 (λ bytes. not-0)

-- the first file's own refusals, and 21, which name it
pub refused_first : (file file' : List ℕ) (room n p : ℕ) → (join_into file file' room ≡ join_refused in_first n p) ↔ (read_version 2 file ≡ refused n p)
unfolding join_into
refused_first file file' room n p =
    named_exactly in_first (read_version 2 file) _
    (λ a. never_named 1 in_second (read_version 2 file') _ (λ e. omega (arith, e)) (λ b. both_never 1 (λ e. omega (arith, e)) (λ e. omega (arith, e)) a b room))
    n p

-- then the second's, which name it
pub refused_second : (file file' : List ℕ) (room n p : ℕ) (a : Stream) → read_version 2 file ≡ ok a
    → (join_into file file' room ≡ join_refused in_second n p) ↔ (read_version 2 file' ≡ refused n p)
unfolding join_into
refused_second file file' room n p a reads =
    rw reads (named_exactly in_second (read_version 2 file') _ (λ b. both_never 2 (λ e. omega (arith, e)) (λ e. omega (arith, e)) a b room) n p)

-- then 29, 30, 23 and 24, which name none
module _ (file file' : List ℕ) (room : ℕ) (a b : Stream) (all : AllBytes file) (all' : AllBytes file')
    (reads : read_version 2 file ≡ ok a) (reads' : read_version 2 file' ≡ ok b) where
  abbrev pools : ℕ
  pools = length a.pools + length b.pools

  long : length (written (joined a b)) + pooled_header_size ≡ length file + length file'
  long = both_size file file' a b all all' reads reads'

  -- a refusal of both is that of their tests in a row
  by_row : (n : ℕ) → (join_into file file' room ≡ join_refused in_neither n 0)
      ↔ (in_row (written (joined a b)) (tests_of_both a b room) ≡ refused n 0)
  unfolding join_into
  by_row n = rw (reads, reads', tested_in_order a b room) (named_exactly in_neither _ join_made (λ bytes e. omega (arith, e)) n 0)

  -- 29 exactly where the second's opening and first frame have more than 65,535 operations together
  pub refused_29 : (join_into file file' room ≡ join_refused in_neither 29 0) ↔ (65535 < first_count b)
  refused_29 =
      let exactly = refused_by_lem (written (joined a b)) [] (frame_test a b room) (pools_test a b room ∷ size_test a b room ∷ room_test a b room ∷ []) refl refl in
      (λ e. (exactly.0 ((by_row 29).0 e)).1, λ h. (by_row 29).1 (exactly.1 (tt, h)))

  -- then 30: more than 65,536 pools
  pub refused_30 : (join_into file file' room ≡ join_refused in_neither 30 0) ↔ ((first_count b ≤ 65535) × (65536 < pools))
  refused_30 =
      let exactly = refused_by_lem (written (joined a b)) (frame_test a b room ∷ []) (pools_test a b room) (size_test a b room ∷ room_test a b room ∷ []) refl refl in
      (λ e. let h = exactly.0 ((by_row 30).0 e) in (h.0.0, h.1), λ h. (by_row 30).1 (exactly.1 ((h.0, tt), h.1)))

  -- then 23: both sizes less 40 exceed 0xE00000
  pub refused_23 : (join_into file file' room ≡ join_refused in_neither 23 0) ↔ ((first_count b ≤ 65535) × (pools ≤ 65536) × (file_limit + pooled_header_size < length file + length file'))
  refused_23 =
      let exactly = refused_by_lem (written (joined a b)) (frame_test a b room ∷ pools_test a b room ∷ []) (size_test a b room) (room_test a b room ∷ []) refl refl in
      (λ e. let h = exactly.0 ((by_row 23).0 e) in (h.0.0, h.0.1.0, omega (arith, h.1, long)), λ h. (by_row 23).1 (exactly.1 ((h.0, (h.1, tt)), omega (arith, h.2, long))))

  -- then 24: the buffer is shorter than that
  pub refused_24 : (join_into file file' room ≡ join_refused in_neither 24 0)
      ↔ ((first_count b ≤ 65535) × (pools ≤ 65536) × (length file + length file' ≤ file_limit + pooled_header_size) × (room + pooled_header_size < length file + length file'))
  refused_24 =
      let exactly = refused_by_lem (written (joined a b)) (frame_test a b room ∷ pools_test a b room ∷ size_test a b room ∷ []) (room_test a b room) [] refl refl in (
        (λ e. let h = exactly.0 ((by_row 24).0 e) in (h.0.0, h.0.1.0, omega (arith, h.0.1.1.0, long), omega (arith, h.1, long))),
        (λ h. (by_row 24).1 (exactly.1 ((h.0, (h.1, (omega (arith, h.2, long), tt))), omega (arith, h.3, long)))),
      )
