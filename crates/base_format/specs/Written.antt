-- A stream as the bytes of a file.
use Rattle.std.specs.Prelude.{ℕ, suc, ◌+◌, ◌*◌, cond, List, [], ◌∷◌, ◌++◌, length, eqb}
use Rattle.base_format.specs.declared.card.CardRequirement.{CardRequirement}
use Rattle.base_format.specs.declared.header.Header.{Header}
use Rattle.base_format.specs.declared.operation.Operation.{Operation}
use Rattle.base_format.specs.declared.operation.Operation.TheVariants.{Write, Fill, Copy}
use Rattle.base_format.specs.Bytes.{Field, u8, u, raw, u16, u32, bytes_of_all}
use Rattle.base_format.specs.Header.{letters, header_size}
use Rattle.base_format.specs.Operation.{address_width}
use Rattle.base_format.specs.Pool.{Payload}
use Rattle.base_format.specs.Stream.{Stream}
use Rattle.base_format.specs.Size.{card_size, entry_size}

-- opcode, target, address, rest
abbrev pub operation_fields : (width : ℕ) → Operation → List Field
operation_fields width (Write target address value) = u8 0 ∷ u8 target ∷ u width address ∷ u8 value ∷ []
operation_fields width (Fill target address size value) = u8 1 ∷ u8 target ∷ u width address ∷ u32 size ∷ u8 value ∷ []
operation_fields width (Copy target address pool source size) =
    u8 2 ∷ u8 target ∷ u width address ∷ u16 pool ∷ u32 source ∷ u32 size ∷ []

-- version 1 has the WRITE without its opcode, as a record
abbrev pub without_first : List Field → List Field
without_first [] = []
without_first (field ∷ fields) = fields

unfoldable pub item_bytes : (version : ℕ) → Operation → List ℕ
item_bytes version operation =
    bytes_of_all (cond (eqb version 1) (without_first (operation_fields 3 operation)) (operation_fields (address_width version) operation))

unfoldable pub operations_bytes : (version : ℕ) → List Operation → List ℕ
operations_bytes version [] = []
operations_bytes version (operation ∷ operations) = item_bytes version operation ++ operations_bytes version operations

unfoldable pub frames_bytes : (version : ℕ) → List (List Operation) → List ℕ
frames_bytes version [] = []
frames_bytes version (frame ∷ frames) =
    bytes_of_all (u16 (length frame) ∷ []) ++ (operations_bytes version frame ++ frames_bytes version frames)

abbrev pub card_fields : CardRequirement → List Field
card_fields card =
    u8 card.slot
    ∷ u8 card.id_length
    ∷ raw (0 ∷ 0 ∷ [])
    ∷ u32 card.id_offset
    ∷ u32 card.bulk_start
    ∷ u32 card.bulk_length
    ∷ raw card.id
    ∷ []

unfoldable pub cards_bytes : List CardRequirement → List ℕ
cards_bytes [] = []
cards_bytes (card ∷ cards) = bytes_of_all (card_fields card) ++ cards_bytes cards

-- a pool's entry: its id, kind, codec 0, its size twice, and where its payload starts
abbrev pub entry_fields : (id start : ℕ) → Payload → List Field
entry_fields id start pool =
    u16 id ∷ u8 pool.kind ∷ u8 0 ∷ u32 (length pool.bytes) ∷ u32 (length pool.bytes) ∷ u32 start ∷ []

-- the directory: pools from an id on, the first payload at `start`
unfoldable pub directory_bytes : (id start : ℕ) → List Payload → List ℕ
directory_bytes id start [] = []
directory_bytes id start (pool ∷ pools) = bytes_of_all (entry_fields id start pool) ++ directory_bytes (suc id) (start + length pool.bytes) pools

unfoldable pub payloads_bytes : List Payload → List ℕ
payloads_bytes [] = []
payloads_bytes (pool ∷ pools) = pool.bytes ++ payloads_bytes pools

-- where the parts of a file start, and where it ends
abbrev pub directory_place : Stream → ℕ
directory_place s = header_size s.version + length s.cards * card_size

abbrev pub payloads_place : Stream → ℕ
payloads_place s = directory_place s + length s.pools * entry_size

abbrev pub opening_place : Stream → ℕ
opening_place s = payloads_place s + length (payloads_bytes s.pools)

abbrev pub frames_place : Stream → ℕ
frames_place s = opening_place s + length (operations_bytes s.version s.opening)

abbrev pub end_place : Stream → ℕ
end_place s = frames_place s + length (frames_bytes s.version s.frames)

-- what the header says
abbrev pub header_in : Stream → Header
header_in s =
    record {
      version = s.version;
      repeat = s.repeat;
      frame_period = s.period;
      card_count = length s.cards;
      frame_count = length s.frames;
      pool_count = length s.pools;
      initial_count = length s.opening;
      directory_offset = directory_place s;
      initial_start = opening_place s;
      frame_start = frames_place s;
      total_size = end_place s;
    }

-- the header's bytes: 0 to 11 are alike in every version, version 1 has two numbers more, and version 4 has 8 bytes behind byte 39
abbrev pub plain_fields : Header → List Field
plain_fields header = u32 header.initial_count ∷ u32 header.total_size ∷ []

abbrev pub pooled_fields : Header → List Field
pooled_fields header =
    u32 header.pool_count
    ∷ u32 header.initial_count
    ∷ u32 header.directory_offset
    ∷ u32 header.initial_start
    ∷ u32 header.frame_start
    ∷ u32 header.total_size
    ∷ u16 (header_size header.version)
    ∷ u8 header.card_count
    ∷ u8 0
    ∷ cond (eqb header.version 4) (u32 header.frame_period ∷ u32 0 ∷ []) []

abbrev pub header_fields : Header → List Field
header_fields header =
    u32 letters
    ∷ u8 header.version
    ∷ u8 16
    ∷ u8 (cond header.repeat 1 0)
    ∷ u8 0
    ∷ u32 header.frame_count
    ∷ cond (eqb header.version 1) (plain_fields header) (pooled_fields header)

-- what stands behind the header; version 1 has neither cards nor pools
unfoldable pub body_bytes : Stream → List ℕ
body_bytes s =
    cards_bytes s.cards
    ++ (directory_bytes 0 (payloads_place s) s.pools
    ++ (payloads_bytes s.pools ++ (operations_bytes s.version s.opening ++ frames_bytes s.version s.frames)))

unfoldable pub written : Stream → List ℕ
written s = bytes_of_all (header_fields (header_in s)) ++ body_bytes s
