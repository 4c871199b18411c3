-- What an accepted file says.
use Prim.Native.Nat.{ℕ, ◌+◌, ◌*◌, ◌≤◌, ◌<◌}
use mathlib.Core.Bool.{Bool, true, false, cond, not, ◌&&◌, ◌||◌}
use mathlib.Core.List.{List}
use mathlib.Core.Path.{◌≡◌, refl, sym, ap, subst, ◌∙◌}
use native.Mathlib.Nat.{le_refl}
use native.Mathlib.Omega.{arith}
use borrow.Author.Tests.{ne_eqb, eqb-true, ltb-false, not-false}
use lib.Dec.{eqb, ltb, lit≤}
use lib.ListN.{length}
use Rattle.base_format.specs.declared.card.CardRequirement.{CardRequirement}
use Rattle.base_format.specs.declared.header.Header.{Header}
use Rattle.base_format.specs.declared.operation.Operation.{Operation}
use Rattle.base_format.specs.Bytes.{byte, be}
use Rattle.base_format.specs.Card.{cards_from}
use Rattle.base_format.specs.Checked.{ok}
use Rattle.base_format.specs.Header.{card_count, flags_wrong, letters, header_size, plain_header, pooled_header, header_of, reserved_wrong, period_wrong, header_from}
use Rattle.base_format.specs.Operation.{Setting}
use Rattle.base_format.specs.Pool.{Payload, pool_at, pools_from}
use Rattle.base_format.specs.Stream.{Stream, operations_from, frames_from, opening_limit, counts_wrong, sections_wrong, read}
use Rattle.base_format.proofs.Checks.{through, passed_test, or_false, ok_is, given, positive}

-- what the rules for an operation go by
abbrev pub setting_for : List ℕ → Header → List CardRequirement → Setting
setting_for file header cards = record { version = header.version; cards = cards; pools = header.pool_count; pool_of = pool_at file header.directory_offset }

-- rules 1 to 6, which a file with an accepted header has passed
pub record HeaderPassed (file : List ℕ) : Type 0 where
  pub room : header_size (byte file 4) ≤ length file
  pub letters_read : be 4 file 0 ≡ letters
  pub low : 1 ≤ byte file 4
  pub high : byte file 4 ≤ 4
  pub voices : byte file 5 ≡ 16
  pub repeats : byte file 6 ≤ 1
  pub reserved : byte file 7 ≡ 0
  pub pooled : (not (eqb (byte file 4) 1) && reserved_wrong (byte file 4) file) ≡ false
  pub period : period_wrong (header_of file).frame_period ≡ false

-- rules 7 to 20, which an accepted file with its header has passed, and what its stream is
pub record Accepted (file : List ℕ) (header : Header) (s : Stream) : Type 0 where
  pub version : s.version ≡ header.version
  pub repeat : s.repeat ≡ header.repeat
  pub period : s.period ≡ header.frame_period
  pub cards : cards_from file header.card_count (header_size header.version) 0 ≡ ok s.cards
  pub some_frame : 0 < header.frame_count
  pub small : header.total_size ≤ 0xE00000
  pub size : length file ≡ header.total_size
  pub pool_count : header.pool_count ≤ 65536
  pub directory_here : header.directory_offset ≡ header_size header.version + header.card_count * 32
  pub directory : header.directory_offset + header.pool_count * 16 ≤ length file
  pub pools : pools_from header.version file header.directory_offset header.pool_count 0 (header.directory_offset + header.pool_count * 16) ≡ ok (s.pools, header.initial_start)
  pub opening_first : header.initial_start ≤ header.frame_start
  pub first_within : header.frame_start ≤ length file
  pub opening : operations_from (setting_for file header s.cards) file (opening_limit header file) header.initial_count header.initial_start ≡ ok (s.opening, header.frame_start)
  pub frames : frames_from (setting_for file header s.cards) file header.frame_count header.frame_start ≡ ok (s.frames, length file)

-- rule 8
pub record Counted (header : Header) (n : ℕ) : Type 0 where
  pub some_frame : 0 < header.frame_count
  pub small : header.total_size ≤ 0xE00000
  pub size : n ≡ header.total_size
  pub pool_count : header.pool_count ≤ 65536
  pub directory_here : header.directory_offset ≡ header_size header.version + header.card_count * 32

counted : (header : Header) (n : ℕ) → counts_wrong header n ≡ false → Counted header n
unfolding counts_wrong
counted header n e =
    let place = header_size header.version + header.card_count * 32 in
    let a = or_false _ (not (eqb header.directory_offset place)) e in
    let b = or_false _ (ltb 65536 header.pool_count) a.0 in
    let c = or_false _ (not (eqb header.total_size n)) b.0 in
    let d = or_false (eqb header.frame_count 0) (ltb 0xE00000 header.total_size) c.0 in
    record {
      some_frame = positive header.frame_count d.0;
      small = ltb-false _ _ d.1;
      size = sym (eqb-true _ _ (not-false _ c.1));
      pool_count = ltb-false _ _ b.1;
      directory_here = eqb-true _ _ (not-false _ a.1);
    }

-- rule 12
sectioned : (header : Header) (end n : ℕ) → sections_wrong header end n ≡ false → (header.initial_start ≡ end) × (header.initial_start ≤ header.frame_start) × (header.frame_start ≤ n)
unfolding sections_wrong
sectioned header end n e =
    let a = or_false (not (eqb header.initial_start end) || ltb header.frame_start header.initial_start) (ltb n header.frame_start) e in
    let b = or_false (not (eqb header.initial_start end)) (ltb header.frame_start header.initial_start) a.0 in
    (eqb-true _ _ (not-false _ b.0), ltb-false _ _ b.1, ltb-false _ _ a.1)

-- the parts of a file, as they were read, make the stream
made_accepted : (file : List ℕ) (header : Header) (cards : List CardRequirement) (pools : List Payload × ℕ) (opening : List Operation × ℕ) (frames : List (List Operation) × ℕ)
    → cards_from file header.card_count (header_size header.version) 0 ≡ ok cards
    → counts_wrong header (length file) ≡ false
    → ltb (length file) (header.directory_offset + header.pool_count * 16) ≡ false
    → pools_from header.version file header.directory_offset header.pool_count 0 (header.directory_offset + header.pool_count * 16) ≡ ok pools
    → sections_wrong header pools.1 (length file) ≡ false
    → operations_from (setting_for file header cards) file (opening_limit header file) header.initial_count header.initial_start ≡ ok opening
    → not (eqb opening.1 header.frame_start) ≡ false
    → frames_from (setting_for file header cards) file header.frame_count header.frame_start ≡ ok frames
    → not (eqb frames.1 (length file)) ≡ false
    → Accepted file header (record { version = header.version; repeat = header.repeat; period = header.frame_period; cards = cards; pools = pools.0; opening = opening.0; frames = frames.0 })
made_accepted file header cards pools opening frames e7 e8 e9 e10 e12 e13 e20 e14 e20' =
    let stop : opening.1 ≡ header.frame_start = eqb-true _ _ (not-false _ e20) in
    let last : frames.1 ≡ length file = eqb-true _ _ (not-false _ e20') in
    let counts = counted header (length file) e8 in
    let sections = sectioned header pools.1 (length file) e12 in
    record {
      version = refl;
      repeat = refl;
      period = refl;
      cards = e7;
      some_frame = counts.some_frame;
      small = counts.small;
      size = counts.size;
      pool_count = counts.pool_count;
      directory_here = counts.directory_here;
      directory = ltb-false _ _ e9;
      pools = e10 ∙ ap (λ (n : ℕ). ok (pools.0, n)) (sym sections.0);
      opening_first = sections.1;
      first_within = sections.2;
      opening = e13 ∙ ap (λ (n : ℕ). ok (opening.0, n)) stop;
      frames = e14 ∙ ap (λ (n : ℕ). ok (frames.0, n)) last;
    }

-- the checks behind the header
rest_accepted : (file : List ℕ) (header : Header) (s : Stream) → read file ≡ ok s → header_from file ≡ ok header → Accepted file header s
unfolding read
rest_accepted file header s e h =
    let a = through (cards_from file header.card_count (header_size header.version) 0) _ (rw h at e) in
    let b = passed_test 8 0 (counts_wrong header (length file)) a.then in
    let c = passed_test 9 0 (ltb (length file) (header.directory_offset + header.pool_count * 16)) b.1 in
    let d = through (pools_from header.version file header.directory_offset header.pool_count 0 (header.directory_offset + header.pool_count * 16)) _ c.1 in
    let f = passed_test 12 0 (sections_wrong header d.value.1 (length file)) d.then in
    let g = through (operations_from (setting_for file header a.value) file (opening_limit header file) header.initial_count header.initial_start) _ f.1 in
    let i = passed_test 20 g.value.1 (not (eqb g.value.1 header.frame_start)) g.then in
    let j = through (frames_from (setting_for file header a.value) file header.frame_count header.frame_start) _ i.1 in
    let k = passed_test 20 j.value.1 (not (eqb j.value.1 (length file))) j.then in
    given (Accepted file header) k.1 (made_accepted file header a.value d.value g.value j.value a.is b.0 c.0 d.is f.0 g.is i.0 j.is k.0)

-- the header
pub header_passed : (file : List ℕ) (header : Header) → header_from file ≡ ok header → (header ≡ header_of file) × HeaderPassed file
unfolding header_from flags_wrong
header_passed file header e =
    let v = byte file 4 in
    let a = passed_test 1 0 (ltb (length file) (header_size v)) e in
    let b = passed_test 2 0 (not (eqb (be 4 file 0) letters)) a.1 in
    let c = passed_test 3 0 (eqb v 0 || ltb 4 v) b.1 in
    let d = passed_test 4 0 (not (eqb (byte file 5) 16)) c.1 in
    let f = passed_test 5 0 (flags_wrong v file) d.1 in
    let g = passed_test 6 0 (period_wrong (header_of file).frame_period) f.1 in
    let version = or_false (eqb v 0) (ltb 4 v) c.0 in
    let flags = or_false (ltb 1 (byte file 6) || not (eqb (byte file 7) 0)) (not (eqb v 1) && reserved_wrong v file) f.0 in
    let flags' = or_false (ltb 1 (byte file 6)) (not (eqb (byte file 7) 0)) flags.0 in
    let passed : HeaderPassed file = record {
      room = ltb-false _ _ a.0;
      letters_read = eqb-true _ _ (not-false _ b.0);
      low = positive v version.0;
      high = ltb-false _ _ version.1;
      voices = eqb-true _ _ (not-false _ d.0);
      repeats = ltb-false _ _ flags'.0;
      reserved = eqb-true _ _ (not-false _ flags'.1);
      pooled = flags.1;
      period = g.0;
    } in
    (sym (ok_is g.1), passed)

-- the header comes first
header_first : (file : List ℕ) (s : Stream) → read file ≡ ok s → (header : Header) × (header_from file ≡ ok header)
unfolding read
header_first file s e = let a = through (header_from file) _ e in (a.value, a.is)

-- AN ACCEPTED FILE HAS PASSED EVERY RULE
pub accepted : (file : List ℕ) (s : Stream) → read file ≡ ok s → Accepted file (header_of file) s × HeaderPassed file
accepted file s e =
    let first = header_first file s e in
    let header = header_passed file first.0 first.1 in
    (subst (λ (h : Header). Accepted file h s) header.0 (rest_accepted file first.0 s e first.1), header.1)

-- the header: rules 3 and 5 as far as a player tests them
pub record HeaderOk (header : Header) : Type 0 where
  pub low : eqb header.version 0 ≡ false
  pub high : header.version ≤ 4
  pub cards : header.card_count ≤ 8

header_version : (file : List ℕ) → (header_of file).version ≡ byte file 4
unfolding header_of plain_header pooled_header
header_version file = go (eqb (byte file 4) 1) refl
  where
    go : (b : Bool) → eqb (byte file 4) 1 ≡ b → (cond b (plain_header file) (pooled_header (byte file 4) file)).version ≡ byte file 4
    go true e = sym (eqb-true _ _ e)
    go false e = refl

header_cards : (file : List ℕ) → (not (eqb (byte file 4) 1) && reserved_wrong (byte file 4) file) ≡ false → (header_of file).card_count ≤ 8
unfolding header_of plain_header pooled_header card_count reserved_wrong
header_cards file = go (eqb (byte file 4) 1)
  where
    count : (b : Bool) → cond b (ltb 8 (byte file 38) || not (eqb (be 4 file 44) 0)) (not (eqb (byte file 38) 0)) ≡ false → cond b (byte file 38) 0 ≤ 8
    count true e = ltb-false _ _ (or_false (ltb 8 (byte file 38)) (not (eqb (be 4 file 44) 0)) e).0
    count false e = lit≤ tt

    go : (b : Bool) → (not b && reserved_wrong (byte file 4) file) ≡ false → (cond b (plain_header file) (pooled_header (byte file 4) file)).card_count ≤ 8
    go true e = lit≤ tt
    go false e =
        count (eqb (byte file 4) 4) (or_false (not (eqb (be 2 file 36) (header_size (byte file 4))) || not (eqb (byte file 39) 0)) _ e).1

pub header_ok : (file : List ℕ) → HeaderPassed file → HeaderOk (header_of file)
header_ok file passed =
    record { low = rw (header_version file) (ne_eqb (byte file 4) 0 (λ e. omega (arith, e, passed.low))); high = rw (header_version file) passed.high; cards = header_cards file passed.pooled }

-- the limit of an opening lies between the frames' start and the file's end
pub opening_limit_lem : (header : Header) (file : List ℕ) → header.frame_start ≤ length file → (header.frame_start ≤ opening_limit header file) × (opening_limit header file ≤ length file)
unfolding opening_limit
opening_limit_lem header file within = go (eqb header.version 1)
  where
    go : (b : Bool) → (header.frame_start ≤ cond b (length file) header.frame_start) × (cond b (length file) header.frame_start ≤ length file)
    go true = (within, le_refl (length file))
    go false = (le_refl header.frame_start, within)
