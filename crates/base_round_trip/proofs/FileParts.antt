-- Where an accepted file has its parts: they stand where its header says, as they are written, and are within the limits.
use Prim.Native.Nat.{ℕ, ◌+◌, ◌*◌, ◌^◌, ◌≤◌, ◌<◌}
use mathlib.Core.Path.{◌≡◌, sym}
use mathlib.Core.List.{List}
use native.Mathlib.Nat.{add-zero, zero-add}
use native.Mathlib.Omega.{arith}
use lib.ListN.{length, drop}
use Rattle.base_format.specs.declared.header.Header.{Header}
use Rattle.base_format.specs.Bytes.{AllBytes}
use Rattle.base_format.specs.Checked.{ok}
use Rattle.base_format.specs.Header.{header_size, header_of}
use Rattle.base_format.specs.Limits.{Each, OperationFits, CardsFit, PoolFits, FrameFits}
use Rattle.base_format.specs.Size.{entry_size}
use Rattle.base_format.specs.Stream.{Stream, opening_limit, read}
use Rattle.base_format.specs.Written.{cards_bytes, directory_bytes, payloads_bytes, operations_bytes, frames_bytes}
use Rattle.base_format.proofs.Accepted.{Accepted, setting_for, opening_limit_lem, accepted}
use Rattle.base_field_laws.proofs.Places.{Took, took_until}
use Rattle.base_round_trip.proofs.Items.{For}
use Rattle.base_round_trip.proofs.Listed.{cards_taken, pools_taken}
use Rattle.base_round_trip.proofs.Says.{Says, header_says}
use Rattle.base_round_trip.proofs.Tables.{entries_here}
use Rattle.base_round_trip.proofs.Taken.{operations_taken, frames_taken}

-- the lists of a stream as an accepted file has them: as many as its header says, within the limits, and each part where the one before ends
pub record FileParts (file : List ℕ) (h : Header) (s : Stream) : Type 0 where
  pub cards_said : length s.cards ≡ h.card_count
  pub pools_said : length s.pools ≡ h.pool_count
  pub opening_said : length s.opening ≡ h.initial_count
  pub frames_said : length s.frames ≡ h.frame_count
  pub cards_fit : CardsFit 0 s.cards
  pub pools_fit : Each (PoolFits h.version) s.pools
  pub opening_fits : Each (OperationFits h.version s.cards s.pools) s.opening
  pub frames_fit : Each (FrameFits h.version s.cards s.pools) s.frames
  pub cards : Took file (header_size h.version) h.directory_offset (cards_bytes s.cards)
  pub directory : Took file h.directory_offset (h.directory_offset + h.pool_count * entry_size)
      (directory_bytes 0 (h.directory_offset + h.pool_count * entry_size) s.pools)
  pub payloads : Took file (h.directory_offset + h.pool_count * entry_size) h.initial_start (payloads_bytes s.pools)
  pub opening : Took file h.initial_start h.frame_start (operations_bytes h.version s.opening)
  pub frames : Took file h.frame_start (length file) (frames_bytes h.version s.frames)

-- from what the checks have passed
pub taken_parts : (file : List ℕ) (h : Header) (s : Stream) → AllBytes file → Says file h → Accepted file h s → FileParts file h s
taken_parts file h s bytes says acc =
    let v = h.version in
    let payloads = h.directory_offset + h.pool_count * entry_size in
    let cs = cards_taken file bytes h.card_count (header_size v) 0 s.cards says.room acc.cards in
    let ps = pools_taken v file bytes h.directory_offset h.pool_count 0 payloads (s.pools, h.initial_start) acc.directory (rw zero-add acc.directory) acc.pools in
    let directory : Took file h.directory_offset payloads (directory_bytes 0 payloads s.pools) = rw (add-zero, zero-add) at ps.entries in
    let count : length s.pools ≡ h.pool_count = ps.counted in
    let lengths : payloads + length (payloads_bytes s.pools) ≤ length file = omega (arith, ps.payloads.up_to, ps.payloads.inside) in
    let few : 0 + length s.pools ≤ 256 ^ 2 = omega (arith, acc.pool_count) in
    let small : payloads + length (payloads_bytes s.pools) < 256 ^ 4 = omega (arith, acc.small, acc.size) in
    let entries = entries_here file h.directory_offset 0 payloads s.pools (drop payloads file) few small (rw add-zero directory.here) in
    let setting = setting_for file h s.cards in
    let for : For s.pools setting = record {
      count = sym count;
      cards_fit = cs.fit;
      few = omega (arith, acc.pool_count);
      pools_fit = ps.fit;
      entries = λ id k. rw zero-add at (entries id k);
    } in
    let within : h.initial_start ≤ length file = omega (arith, acc.opening_first, acc.first_within) in
    let most = (opening_limit_lem h file acc.first_within).1 in
    let limit = opening_limit h file in
    let os = operations_taken setting s.pools for file bytes says.low limit h.initial_count h.initial_start (s.opening, h.frame_start) within most acc.opening in
    let fs = frames_taken setting s.pools for file bytes says.low h.frame_count h.frame_start (s.frames, length file) acc.first_within acc.frames in
    record {
      cards_said = cs.counted;
      pools_said = count;
      opening_said = os.counted;
      frames_said = fs.counted;
      cards_fit = cs.fit;
      pools_fit = ps.fit;
      opening_fits = os.fit;
      frames_fit = fs.fit;
      cards = took_until (sym acc.directory_here) cs.took;
      directory = directory;
      payloads = ps.payloads;
      opening = os.took;
      frames = fs.took;
    }

pub file_parts : (file : List ℕ) (s : Stream) → AllBytes file → read file ≡ ok s → FileParts file (header_of file) s
file_parts file s bytes e =
    let passed = accepted file s e in
    taken_parts file (header_of file) s bytes (header_says file passed.1) passed.0
