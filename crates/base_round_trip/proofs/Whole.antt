-- A stream within the limits, written and read, is the stream.
use Prim.Native.Nat.{ℕ, zero, suc, ◌+◌, ◌*◌, ◌^◌, ◌≤◌, ◌<◌}
use mathlib.Core.Path.{◌≡◌, refl, sym, ap, ◌∙◌}
use mathlib.Core.Logic.{◌⊎◌, inl, inr}
use mathlib.Core.Bool.{Bool, true, false, cond, not, ◌||◌, ◌&&◌}
use mathlib.Core.List.{List, [], ◌∷◌, ◌++◌, append-nil}
use native.Mathlib.Nat.{add-zero, zero-add}
use native.Mathlib.Omega.{arith}
use borrow.Author.Tests.{le-ltb, eq-eqb, ne_eqb, eqb-true, eqb-false}
use lib.Dec.{eqb, ltb, lit<}
use lib.ListN.{length, drop, length-append}
use lib.Arith.{lt_of_le-ne}
use lib.Seq.{drop_at}
use Rattle.base_format.specs.Bytes.{byte, be, bytes_of_all, u32}
use Rattle.base_format.specs.Checked.{ok}
use Rattle.base_format.specs.Header.{header_size, plain_header, pooled_header, header_of, reserved_wrong, flags_wrong, period_wrong, period_of, card_count, header_from}
use Rattle.base_format.specs.Limits.{Limits}
use Rattle.base_format.specs.Operation.{Setting}
use Rattle.base_format.specs.Pool.{Payload, pool_at}
use Rattle.base_format.specs.Stream.{Stream, opening_limit, counts_wrong, sections_wrong, read}
use Rattle.base_format.specs.Written.{cards_bytes, directory_bytes, payloads_bytes, operations_bytes, frames_bytes}
use Rattle.base_format.specs.Written.{directory_place, payloads_place, opening_place, frames_place, end_place, header_in, plain_fields, pooled_fields, header_fields, body_bytes, written}
use Rattle.base_format.proofs.Accepted.{opening_limit_lem}
use Rattle.base_format.proofs.Bytes.{behind}
use Rattle.base_format.proofs.Fields.{fields_size, fields_size_lem}
use Rattle.base_format.proofs.Written.{operations_count, frames_count, records_size, cards_size, directory_size}
use Rattle.base_field_laws.proofs.Places.{Holds, Fit, holds}
use Rattle.base_round_trip.proofs.Items.{For, operations_here, frames_here}
use Rattle.base_round_trip.proofs.Tables.{cards_here, pools_here, entries_here}

-- where the parts of a file stand
pub record Laid (file : List ℕ) (s : Stream) : Type 0 where
  pub total : length file ≡ end_place s
  pub body : drop (header_size s.version) file ≡ body_bytes s

-- behind the header: rules 7 to 20
pub read_body : (file : List ℕ) (s : Stream) → Limits s → Laid file s → length file ≤ 0xE00000 → header_from file ≡ ok (header_in s) → read file ≡ ok s
unfolding read counts_wrong sections_wrong body_bytes
read_body file s within laid small header =
    let v = s.version in
    let ds = directory_bytes 0 (payloads_place s) s.pools in
    let ps = payloads_bytes s.pools in
    let os = operations_bytes v s.opening in
    let fs = frames_bytes v s.frames in
    let total : length file ≡ end_place s = laid.total in
    let c : length (cards_bytes s.cards) ≡ length s.cards * 32 = cards_size 0 s.cards within.cards_fit in
    let d : length ds ≡ length s.pools * 16 = directory_size 0 (payloads_place s) s.pools in
    let directory : drop (directory_place s) file ≡ ds ++ (ps ++ (os ++ fs)) = rw c at (behind file (header_size v) (ds ++ (ps ++ (os ++ fs))) (cards_bytes s.cards) laid.body) in
    let payloads : drop (payloads_place s) file ≡ ps ++ (os ++ fs) = rw d at (behind file (directory_place s) (ps ++ (os ++ fs)) ds directory) in
    let opening : drop (opening_place s) file ≡ os ++ fs = behind file (payloads_place s) (os ++ fs) ps payloads in
    let frames : drop (frames_place s) file ≡ fs ++ [] = rw append-nil (behind file (opening_place s) fs os opening) in
    let directory' : drop (directory_place s + 0 * 16) file ≡ ds ++ (ps ++ (os ++ fs)) = rw add-zero directory in
    let ids : 0 + length s.pools ≤ 256 ^ 2 = omega (arith, within.pool_count) in
    let cards-read = cards_here file (header_size v) 0 s.cards (ds ++ (ps ++ (os ++ fs))) within.cards_fit laid.body (omega arith) in
    let pools-read = pools_here v file (directory_place s) 0 (payloads_place s) s.pools (ps ++ (os ++ fs)) (os ++ fs) within.pools_fit ids (omega arith) directory' payloads (omega arith) in
    let setting : Setting = record { version = v; cards = s.cards; pools = length s.pools; pool_of = pool_at file (directory_place s) } in
    let entries = entries_here file (directory_place s) 0 (payloads_place s) s.pools (ps ++ (os ++ fs)) ids (omega arith) directory' in
    let for : For s.pools setting = record {
      count = refl;
      cards_fit = within.cards_fit;
      few = within.pool_count;
      pools_fit = within.pools_fit;
      entries = λ id k. rw zero-add at (entries id k);
    } in
    let limit = opening_limit_lem (header_in s) file (omega arith) in
    let opening-read = operations_here setting s.pools for file (opening_limit (header_in s) file) (opening_place s) s.opening fs within.opening_fits opening limit.0 in
    let frames-read = frames_here setting s.pools for file (frames_place s) s.frames [] within.frames_fit frames (omega arith) in
    rw (
      header,
      cards-read,
      ne_eqb (length s.frames) 0 (λ e. omega (arith, e, within.some_frame)),
      le-ltb 0xE00000 (end_place s) (omega arith),
      eq-eqb (end_place s) (length file) (sym total),
      le-ltb 65536 (length s.pools) within.pool_count,
      eq-eqb (directory_place s) (directory_place s) refl,
      le-ltb (length file) (payloads_place s) (omega arith),
      pools-read,
      eq-eqb (opening_place s) (opening_place s) refl,
      le-ltb (frames_place s) (opening_place s) (omega arith),
      le-ltb (length file) (frames_place s) (omega arith),
      opening-read,
      eq-eqb (frames_place s) (frames_place s) refl,
      frames-read,
      eq-eqb (end_place s) (length file) (sym total),
    )

-- ---- the header

repeat_read : (file : List ℕ) (repeat : Bool) → byte file 6 ≡ cond repeat 1 0 → (eqb (byte file 6) 1 ≡ repeat) × (ltb 1 (byte file 6) ≡ false)
repeat_read file true h = (rw h, rw h)
repeat_read file false h = (rw h, rw h)

period_fine : (period : ℕ) → (period ≡ 0) ⊎ ((48000 ≤ period) × (period ≤ 48000000)) → period_wrong period ≡ false
unfolding period_wrong
period_fine period (inl e) = rw e
period_fine period (inr h) = rw (ne_eqb period 0 (λ e. omega (arith, e, h.0)), le-ltb period 48000 h.0, le-ltb 48000000 period h.1)

-- version 1
plain_read : (file : List ℕ) (s : Stream) → Limits s → s.version ≡ 1 → eqb (byte file 6) 1 ≡ s.repeat → be 4 file 8 ≡ length s.frames
    → Holds file 0 12 (plain_fields (header_in s)) → plain_header file ≡ header_in s
unfolding plain_header header_size payloads_bytes
plain_read file s within one repeat frames h =
    let cards : length s.cards ≡ 0 = ap length (within.cards_below (omega arith)) in
    let none = within.pools_below (omega arith) in
    let pools : length s.pools ≡ 0 = ap length none in
    let payloads : length (payloads_bytes s.pools) ≡ 0 = ap (λ (l : List Payload). length (payloads_bytes l)) none in
    let size : header_size s.version ≡ 20 = ap header_size one in
    let records : length (operations_bytes s.version s.opening) ≡ length s.opening * 5 = rw one (records_size s.cards s.pools s.opening (rw one at within.opening_fits)) in
    let directory : 20 ≡ directory_place s = omega arith in
    let opening : 20 ≡ opening_place s = omega arith in
    let first : 20 + be 4 file 12 * 5 ≡ frames_place s = omega (arith, h.0) in
    λ i. record {
      version = sym one i;
      repeat = repeat i;
      frame_period = sym (within.period_below (omega arith)) i;
      card_count = sym cards i;
      frame_count = frames i;
      pool_count = sym pools i;
      initial_count = h.0 i;
      directory_offset = directory i;
      initial_start = opening i;
      frame_start = first i;
      total_size = h.1.0 i;
    }

-- versions 2 to 4
late_read : (file : List ℕ) (s : Stream) → Limits s → byte file 38 ≡ length s.cards → (b : Bool) → eqb s.version 4 ≡ b
    → Holds file 0 40 (cond b (u32 s.period ∷ u32 0 ∷ []) [])
    → (cond b (be 4 file 40) 0 ≡ s.period) × (cond b (byte file 38) 0 ≡ length s.cards) × (cond b (ltb 8 (byte file 38) || not (eqb (be 4 file 44) 0)) (not (eqb (byte file 38) 0)) ≡ false)
late_read file s within cards true e h = (h.0, cards, rw (cards, le-ltb 8 (length s.cards) within.card_count, h.1.0))
late_read file s within cards false e h =
    let below : s.version < 4 = lt_of_le-ne within.last_version (eqb-false s.version 4 e) in
    let none : length s.cards ≡ 0 = ap length (within.cards_below below) in
    (sym (within.period_below below), sym none, rw (cards, none))

pooled_read : (file : List ℕ) (s : Stream) → Limits s → eqb (byte file 6) 1 ≡ s.repeat → be 4 file 8 ≡ length s.frames
    → Holds file 0 12 (pooled_fields (header_in s)) → (pooled_header s.version file ≡ header_in s) × (reserved_wrong s.version file ≡ false)
unfolding pooled_header period_of card_count reserved_wrong
pooled_read file s within repeat frames h =
    let late = late_read file s within h.1.1.1.1.1.1.1.0 (eqb s.version 4) refl h.1.1.1.1.1.1.1.1.1 in (
      λ i. record {
        version = s.version;
        repeat = repeat i;
        frame_period = late.0 i;
        card_count = late.1 i;
        frame_count = frames i;
        pool_count = h.0 i;
        initial_count = h.1.0 i;
        directory_offset = h.1.1.0 i;
        initial_start = h.1.1.1.0 i;
        frame_start = h.1.1.1.1.0 i;
        total_size = h.1.1.1.1.1.0 i;
      },
      rw (h.1.1.1.1.1.1.0, eq-eqb (header_size s.version) (header_size s.version) refl, h.1.1.1.1.1.1.1.1.0) late.2,
    )

-- rules 1 to 6
pub header_read : (file : List ℕ) (s : Stream) → Limits s → Holds file 0 0 (header_fields (header_in s)) → header_size s.version ≤ length file
    → header_from file ≡ ok (header_in s)
unfolding header_from header_of flags_wrong
header_read file s within h size =
    let v = s.version in
    let repeat = repeat_read file s.repeat h.1.1.1.0 in
    let both = go (eqb v 1) refl h.1.1.1.1.1.1 in
    rw (
      h.0,
      h.1.0,
      h.1.1.0,
      repeat.1,
      h.1.1.1.1.0,
      le-ltb (length file) (header_size v) size,
      ne_eqb v 0 (λ e. omega (arith, e, within.first_version)),
      le-ltb 4 v within.last_version,
      both.1,
      both.0,
      period_fine s.period within.period_range,
    )
  where
    repeats : eqb (byte file 6) 1 ≡ s.repeat
    repeats = (repeat_read file s.repeat h.1.1.1.0).0

    go : (b : Bool) → eqb s.version 1 ≡ b → Holds file 0 12 (cond b (plain_fields (header_in s)) (pooled_fields (header_in s)))
        → (cond b (plain_header file) (pooled_header s.version file) ≡ header_in s) × ((not b && reserved_wrong s.version file) ≡ false)
    go true e rest = (plain_read file s within (eqb-true s.version 1 e) repeats h.1.1.1.1.1.0 rest, refl)
    go false e rest = pooled_read file s within repeats h.1.1.1.1.1.0 rest

-- ---- the whole

-- a version is 1, 2, 3 or 4
pub versions : (P : ℕ → Type 0) → P 1 → P 2 → P 3 → P 4 → (v : ℕ) → 1 ≤ v → v ≤ 4 → P v
versions P one two three four zero low high = absurd (omega arith)
versions P one two three four (suc zero) low high = one
versions P one two three four (suc (suc zero)) low high = two
versions P one two three four (suc (suc (suc zero))) low high = three
versions P one two three four (suc (suc (suc (suc zero)))) low high = four
versions P one two three four (suc (suc (suc (suc (suc v))))) low high = absurd (omega arith)

-- the fields of a header have the size that the sheet gives
pub header_size_lem : (s : Stream) → 1 ≤ s.version → s.version ≤ 4 → length (bytes_of_all (header_fields (header_in s))) ≡ header_size s.version
unfolding header_size
header_size_lem s low high =
    fields_size_lem (header_fields (header_in s))
    ∙ versions (λ (v : ℕ). s.version ≡ v → fields_size (header_fields (header_in s)) ≡ header_size s.version) (λ e. rw e) (λ e. rw e) (λ e. rw e) (λ e. rw e) s.version low high refl

-- how long a written file is
pub written_size : (s : Stream) → 1 ≤ s.version → s.version ≤ 4 → length (cards_bytes s.cards) ≡ length s.cards * 32 → length (written s) ≡ end_place s
unfolding written body_bytes
written_size s low high cards =
    simp (length-append, header_size_lem s low high, cards, directory_size 0 (payloads_place s) s.pools) (omega arith)

-- the parts of a written file
pub laid_written : (s : Stream) → Limits s → Laid (written s) s
unfolding written
laid_written s within =
    record {
      total = written_size s within.first_version within.last_version (cards_size 0 s.cards within.cards_fit);
      body = drop_at (bytes_of_all (header_fields (header_in s))) (body_bytes s) (header_size s.version) (header_size_lem s within.first_version within.last_version);
    }

-- the numbers of a header fit their fields
period_small : (period : ℕ) → (period ≡ 0) ⊎ ((48000 ≤ period) × (period ≤ 48000000)) → period < 256 ^ 4
period_small period (inl e) = omega arith
period_small period (inr h) = omega arith

late_fit : (b : Bool) (period : ℕ) → period < 256 ^ 4 → Fit (cond b (u32 period ∷ u32 0 ∷ []) [])
late_fit true period h = (h, (lit< tt, tt))
late_fit false period h = tt

header_fit : (s : Stream) → Limits s → end_place s ≤ 0xE00000 → Fit (header_fields (header_in s))
unfolding header_size
header_fit s within small =
    let frames = frames_count s.version s.frames in
    (lit< tt, (omega arith, go (eqb s.version 1)))
  where
    opening : length s.opening < 256 ^ 4
    opening = omega (arith, operations_count s.version s.opening)

    size : header_size s.version < 256 ^ 2
    size = versions (λ (v : ℕ). header_size v < 256 ^ 2) (lit< tt) (lit< tt) (lit< tt) (lit< tt) s.version within.first_version within.last_version

    go : (b : Bool) → Fit (cond b (plain_fields (header_in s)) (pooled_fields (header_in s)))
    go true = (opening, (omega arith, tt))
    go false =
        let late = late_fit (eqb s.version 4) s.period (period_small s.period within.period_range) in
        (omega (arith, within.pool_count), (opening, (omega arith, (omega arith, (omega arith, (omega arith, (size, late)))))))

-- a stream within the limits is accepted, and reads back
pub round_trip : (s : Stream) → Limits s → read (written s) ≡ ok s
round_trip s within =
    let laid = laid_written s within in
    let size : end_place s ≤ 0xE00000 = omega (arith, laid.total, within.total_size) in
    let here : drop (0 + 0) (written s) ≡ bytes_of_all (header_fields (header_in s)) ++ body_bytes s = unfold written in refl in
    read_body (written s) s within laid within.total_size
    (header_read (written s) s within (holds (written s) 0 0 (header_fields (header_in s)) (body_bytes s) here (header_fit s within size)) (omega (arith, laid.total)))
