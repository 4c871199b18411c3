-- The workshop book's examples P1 to P12, as rows of one table. proofs/Examples.antt proves that every row holds.
use Rattle.std.specs.Prelude.{ℕ, suc, cond, List, [], ◌∷◌, ◌++◌, length, set}
use Rattle.base_format.specs.Bytes.{bytes_of, same_bytes}
use Rattle.base_format.specs.Checked.{Checked, ok, refused, mapped}
use Rattle.base_format.specs.Header.{letters}
use Rattle.base_format.specs.Listener.{answers, same_calls}
use Rattle.base_format.specs.Player.{Played}
use Rattle.base_format.specs.Repack.{repack}
use Rattle.base_format.specs.State.{started}
use Rattle.base_format.specs.Stream.{Stream, read}

-- what the definitions give, and what the book says
pub record Row : Type 0 where
  pub found : List ℕ
  pub expected : List ℕ

-- an answer as numbers: a refusal's number and place, or 0 and the numbers of what was accepted
abbrev pub answer : Checked (List ℕ) → List ℕ
answer (ok numbers) = 0 ∷ numbers
answer (refused number place) = number ∷ place ∷ []

-- what the book expects of a file
abbrev pub says_refused : (number place : ℕ) → List ℕ
says_refused number place = number ∷ place ∷ []

abbrev pub says_accepted : (version frames opening : ℕ) → List ℕ
says_accepted version frames opening = 0 ∷ version ∷ frames ∷ opening ∷ []

-- of a file that is read: version, frames and opening operations
abbrev pub verdict : List ℕ → List ℕ
verdict file = answer (mapped (λ (s : Stream). s.version ∷ length s.frames ∷ length s.opening ∷ []) (read file))

-- the answers of vsync calls, one after the other: of each, 1 where it says complete, and how many records it reports
abbrev pub told : List (Checked Played) → List ℕ
told [] = []
told (a ∷ more) = answer (mapped (λ (p : Played). cond p.complete 1 0 ∷ length p.records ∷ []) a) ++ told more

-- what the book expects of a call whose run holds all writes of its vsync: so many, and complete
abbrev pub writes : (count : ℕ) → List ℕ
writes count = 0 ∷ 1 ∷ count ∷ []

-- so many calls of the player that a start gives, each with the player's own file and a run of 64 records
abbrev pub plays : (calls : ℕ) → List ℕ → List ℕ
plays calls file = told (answers (started file) (same_calls file 64 calls))

unfoldable pub empty : List ℕ
empty =
    0x53 ∷ 0x47 ∷ 0x55 ∷ 0x42 ∷ 0x01 ∷ 0x10 ∷ 0x00 ∷ 0x00 ∷ 0x00 ∷ 0x00 ∷ 0x00 ∷ 0x01 ∷ 0x00 ∷ 0x00 ∷ 0x00 ∷ 0x00 ∷ 0x00 ∷ 0x00 ∷ 0x00 ∷ 0x16 ∷ 0x00 ∷ 0x00 ∷ []

unfoldable pub empty_repacked : List ℕ
empty_repacked =
    0x53 ∷ 0x47 ∷ 0x55 ∷ 0x42 ∷ 0x02 ∷ 0x10 ∷ 0x00 ∷ 0x00 ∷ 0x00 ∷ 0x00 ∷ 0x00 ∷ 0x01 ∷ 0x00 ∷ 0x00 ∷ 0x00 ∷ 0x00 ∷ 0x00 ∷ 0x00 ∷ 0x00 ∷ 0x00 ∷ 0x00 ∷ 0x00 ∷ 0x00 ∷ 0x28
    ∷ 0x00 ∷ 0x00 ∷ 0x00 ∷ 0x28 ∷ 0x00 ∷ 0x00 ∷ 0x00 ∷ 0x28 ∷ 0x00 ∷ 0x00 ∷ 0x00 ∷ 0x2A ∷ 0x00 ∷ 0x28 ∷ 0x00 ∷ 0x00 ∷ 0x00 ∷ 0x00 ∷ []

-- a file of version 1 with one opening record and one empty frame
unfoldable pub with_record : (target address value : ℕ) → List ℕ
with_record target address value =
    bytes_of 4 letters ++ (1 ∷ 16 ∷ 0 ∷ 0 ∷ []) ++ bytes_of 4 1 ++ bytes_of 4 1 ++ bytes_of 4 27 ++ (target ∷ bytes_of 3 address) ++ (value ∷ 0 ∷ 0 ∷ [])

-- a file of version 2 with one opening FILL and one empty frame
unfoldable pub with_fill : (target address size value : ℕ) → List ℕ
with_fill target address size value =
    bytes_of 4 letters
    ++ (2 ∷ 16 ∷ 0 ∷ 0 ∷ [])
    ++ bytes_of 4 1
    ++ bytes_of 4 0
    ++ bytes_of 4 1
    ++ bytes_of 4 40
    ++ bytes_of 4 40
    ++ bytes_of 4 50
    ++ bytes_of 4 52
    ++ (0 ∷ 40 ∷ 0 ∷ 0 ∷ [])
    ++ (1 ∷ target ∷ bytes_of 3 address)
    ++ bytes_of 4 size
    ++ (value ∷ 0 ∷ 0 ∷ [])

unfoldable pub table : List Row
table =
    -- P1 "empty file: 1"
    record { found = verdict []; expected = says_refused 1 0 }
    -- P2 "the four letters alone: 1"
    ∷ record { found = verdict (bytes_of 4 letters); expected = says_refused 1 0 }
    -- P3 "accepted, one empty frame"
    ∷ record { found = verdict empty; expected = says_accepted 1 1 0 }
    -- P4 "frame count 0: 8"
    ∷ record { found = verdict (set empty 11 0); expected = says_refused 8 0 }
    -- P5 "voices 15: 4"
    ∷ record { found = verdict (set empty 5 15); expected = says_refused 4 0 }
    -- P6 "version 5: 3"
    ∷ record { found = verdict (set empty 4 5); expected = says_refused 3 0 }
    -- P7 "P3 repacked"
    ∷ record { found = answer (repack empty); expected = 0 ∷ empty_repacked }
    -- P8 "a core record at 0x8FF passes, at 0x900: 16"
    ∷ record { found = verdict (with_record 1 0x8FF 7); expected = says_accepted 1 1 1 }
    ∷ record { found = verdict (with_record 1 0x900 7); expected = says_refused 16 20 }
    -- P9 "version 1 target 3: 15"
    ∷ record { found = verdict (with_record 3 0 7); expected = says_refused 15 20 }
    -- P10 "core FILL at 0x7FF length 1 passes, 2: 17"
    ∷ record { found = verdict (with_fill 0 0x7FF 1 7); expected = says_accepted 2 1 1 }
    ∷ record { found = verdict (with_fill 0 0x7FF 2 7); expected = says_refused 17 40 }
    -- P11 "opening PCM record (0, 0x55) and one empty frame": "repacks to 84 bytes"; "first at address 1: 22"
    ∷ record { found = answer (mapped (λ (bytes : List ℕ). length bytes ∷ []) (repack (with_record 2 0 0x55))); expected = 0 ∷ 84 ∷ [] }
    ∷ record { found = answer (repack (with_record 2 1 0x55)); expected = says_refused 22 0 }
    -- P12 "P3 played: no writes, then 32, then none"
    ∷ record { found = plays 3 empty; expected = writes 0 ++ writes 32 ++ writes 0 }
    ∷ []

-- the rows, counted from 1, that do not hold
unfoldable pub failing : (row : ℕ) → List Row → List ℕ
failing row [] = []
failing row (r ∷ rows) = cond (same_bytes r.found r.expected) (failing (suc row) rows) (row ∷ failing (suc row) rows)
