-- An accepted file is the written form of the stream that it reads as, and that stream is within the limits.
use Prim.Native.Nat.{ℕ, ◌+◌, ◌*◌}
use mathlib.Core.Path.{◌≡◌, refl, sym, ap, ◌∙◌, subst}
use mathlib.Core.List.{List, [], ◌∷◌, ◌++◌, append-nil}
use native.Mathlib.Omega.{arith}
use lib.ListN.{length}
use lib.Seq.{drop-length}
use Rattle.base_format.specs.declared.header.Header.{Header}
use Rattle.base_format.specs.Bytes.{AllBytes, bytes_of_all}
use Rattle.base_format.specs.Checked.{ok}
use Rattle.base_format.specs.Header.{header_size, header_of}
use Rattle.base_format.specs.Limits.{Limits}
use Rattle.base_format.specs.Size.{entry_size}
use Rattle.base_format.specs.Stream.{Stream, read}
use Rattle.base_format.specs.Written.{directory_bytes, directory_place, payloads_place, opening_place, frames_place, end_place, header_in, header_fields, body_bytes, written}
use Rattle.base_format.proofs.Accepted.{Accepted}
use Rattle.base_format.proofs.Accepted as Inversion
use Rattle.base_format.proofs.Fields.{fields_size, fields_size_lem}
use Rattle.base_field_laws.proofs.Places.{Holds, Took, took_both, took_fields}
use Rattle.base_round_trip.proofs.FileParts.{FileParts, taken_parts}
use Rattle.base_round_trip.proofs.Says.{Says, header_says}
use Rattle.base_round_trip.proofs.Whole.{header_size_lem}

-- the stream that an accepted file's header and parts are
abbrev stream_of : Header → Stream → Stream
stream_of h s =
    record { version = h.version; repeat = h.repeat; period = h.frame_period; cards = s.cards; pools = s.pools; opening = s.opening; frames = s.frames }

none_of : {A : Type 0} (l : List A) → length l ≡ 0 → l ≡ []
none_of [] e = refl
none_of (a ∷ l) e = absurd (omega arith)

from_parts : (file : List ℕ) (h : Header) (s : Stream) → AllBytes file → Says file h → Accepted file h s → FileParts file h s
    → Limits (stream_of h s) × (written (stream_of h s) ≡ file)
unfolding written body_bytes
from_parts file h given-stream bytes says acc parts =
    let s = stream_of h given-stream in
    let payloads = h.directory_offset + h.pool_count * entry_size in
    let place₁ : h.directory_offset ≡ directory_place s = omega (arith, acc.directory_here, parts.cards_said) in
    let place₂ : payloads ≡ payloads_place s = omega (arith, parts.pools_said) in
    let place₃ : h.initial_start ≡ opening_place s = omega (arith, parts.payloads.up_to) in
    let place₄ : h.frame_start ≡ frames_place s = omega (arith, parts.opening.up_to) in
    let place₅ : h.total_size ≡ end_place s = omega (arith, acc.size, parts.frames.up_to) in
    let same : h ≡ header_in s = λ i. record {
      version = h.version;
      repeat = h.repeat;
      frame_period = h.frame_period;
      card_count = sym parts.cards_said i;
      frame_count = sym parts.frames_said i;
      pool_count = sym parts.pools_said i;
      initial_count = sym parts.opening_said i;
      directory_offset = place₁ i;
      initial_start = place₃ i;
      frame_start = place₄ i;
      total_size = place₅ i;
    } in
    let fields = header_fields (header_in s) in
    let header-long : fields_size fields ≡ header_size h.version = sym (fields_size_lem fields) ∙ header_size_lem s says.low says.high in
    let numbers = subst (λ (x : Header). Holds file 0 0 (header_fields x)) same says.fields in
    let header : Took file 0 (header_size h.version) (bytes_of_all fields) = took_fields file 0 (header_size h.version) fields bytes (omega arith) says.room numbers in
    let directory = subst (λ (k : ℕ). Took file h.directory_offset payloads (directory_bytes 0 k s.pools)) place₂ parts.directory in
    let body = took_both parts.cards (took_both directory (took_both parts.payloads (took_both parts.opening parts.frames))) in
    let all : Took file 0 (length file) (written s) = took_both header body in
    let back : written s ≡ file = sym (all.here ∙ ap (λ (l : List ℕ). written s ++ l) (drop-length file) ∙ append-nil (written s)) in (
      record {
        first_version = says.low;
        last_version = says.high;
        period_range = says.period_range;
        period_below = says.period_below;
        card_count = omega (arith, parts.cards_said, says.card_count);
        cards_below = λ less. none_of s.cards (parts.cards_said ∙ says.cards_below less);
        cards_fit = parts.cards_fit;
        pool_count = omega (arith, parts.pools_said, acc.pool_count);
        pools_below = λ less. none_of s.pools (parts.pools_said ∙ says.pools_below less);
        pools_fit = parts.pools_fit;
        opening_fits = parts.opening_fits;
        some_frame = omega (arith, parts.frames_said, acc.some_frame);
        frames_fit = parts.frames_fit;
        total_size = omega (arith, ap length back, acc.small, acc.size);
      },
      back,
    )

-- an accepted file is the written form of its stream, and that is within the limits
pub accepted : (file : List ℕ) (s : Stream) → AllBytes file → read file ≡ ok s → Limits s × (written s ≡ file)
accepted file s bytes e =
    let passed = Inversion.accepted file s e in
    let acc = passed.0 in
    let says = header_says file passed.1 in
    let same : stream_of (header_of file) s ≡ s = λ i. record {
      version = sym acc.version i;
      repeat = sym acc.repeat i;
      period = sym acc.period i;
      cards = s.cards;
      pools = s.pools;
      opening = s.opening;
      frames = s.frames;
    } in
    subst (λ (x : Stream). Limits x × (written x ≡ file)) same (from_parts file (header_of file) s bytes says acc (taken_parts file (header_of file) s bytes says acc))
