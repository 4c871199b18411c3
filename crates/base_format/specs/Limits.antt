-- Streams within the sheet's limits, described without reading a file.
use Rattle.std.specs.Prelude.{ℕ, ◌+◌, ◌%◌, ◌^◌, ◌≤◌, ◌<◌, true, false, ◌⊎◌, ◌≡◌, List, [], ◌∷◌, length, get_or, drop}
use Rattle.base_format.specs.declared.card.CardRequirement.{CardRequirement}
use Rattle.base_targets.specs.declared.Target.{Target}
use Rattle.base_format.specs.declared.operation.Operation.{Operation}
use Rattle.base_format.specs.declared.operation.Operation.TheVariants.{Write, Fill, Copy}
use Rattle.base_format.specs.Bytes.{all_zero}
use Rattle.base_format.specs.Pool.{Payload, no_pool, kind_wrong}
use Rattle.base_format.specs.Stream.{Stream}
use Rattle.base_format.specs.Target.{target_of, missing, write_limit, bulk_start, bulk_length, kind_for}
use Rattle.base_format.specs.Written.{written}
use Rattle.base_format.specs.Size.{file_limit}

-- each element of a list is so
abbrev pub Each : {A : Type 0} → (A → Type 0) → List A → Type 0
Each P [] = Unit {0}
Each P (x ∷ xs) = P x × Each P xs

abbrev pub Bytes : List ℕ → Type 0
Bytes bytes = Each (λ (b : ℕ). b < 256) bytes

-- a WRITE: its target exists, and the address is within the target's limit
pub record WriteFits (what : Target) (address value : ℕ) : Type 0 where
  pub exists : missing what ≡ false
  pub within : address ≤ write_limit what
  pub value_byte : value < 256

-- the destination of a FILL or a COPY: 1 or more addresses, all of them in the target's range
pub record Inside (what : Target) (address size : ℕ) : Type 0 where
  pub some : 1 ≤ size
  pub from : bulk_start what ≤ address
  pub up_to : address + size ≤ bulk_start what + bulk_length what

-- what a COPY takes from its pool: bytes that are there, of the kind that the target takes, and of waves only whole ones
pub record Takes (what : Target) (pool : Payload) (address source size : ℕ) : Type 0 where
  pub in_pool : source + size ≤ length pool.bytes
  pub right_kind : pool.kind ≡ kind_for what
  pub whole_waves : pool.kind ≡ 1 → (address % 256 ≡ 0) × (source % 256 ≡ 0) × (size % 256 ≡ 0)

-- a FILL: its target exists, and its destination is allowed; version 1 has none
pub record FillFits (version : ℕ) (what : Target) (address size value : ℕ) : Type 0 where
  pub pooled : 2 ≤ version
  pub exists : missing what ≡ false
  pub inside : Inside what address size
  pub value_byte : value < 256

-- a COPY: besides, its pool exists, and what it takes is allowed; version 1 has none
pub record CopyFits (version : ℕ) (what : Target) (pools : List Payload) (address pool source size : ℕ) : Type 0 where
  pub pooled : 2 ≤ version
  pub exists : missing what ≡ false
  pub inside : Inside what address size
  pub known : pool < length pools
  pub takes : Takes what (get_or pools pool no_pool) address source size

abbrev pub OperationFits : (version : ℕ) → List CardRequirement → List Payload → Operation → Type 0
OperationFits version cards pools (Write target address value) = WriteFits (target_of version cards target) address value
OperationFits version cards pools (Fill target address size value) = FillFits version (target_of version cards target) address size value
OperationFits version cards pools (Copy target address pool source size) =
    CopyFits version (target_of version cards target) pools address pool source size

-- a card whose slot is at least a number
pub record CardFits (least : ℕ) (card : CardRequirement) : Type 0 where
  pub rising : least ≤ card.slot
  pub slot_range : card.slot ≤ 7
  pub named : 1 ≤ card.id_length
  pub name_range : card.id_length ≤ 16
  pub name_size : length card.id ≡ 16
  pub name_bytes : Bytes card.id
  pub padded : all_zero (drop card.id_length card.id) ≡ true
  pub offset_range : card.id_offset + card.id_length ≤ 0x2000000
  pub bulk_range : card.bulk_start + card.bulk_length ≤ 0x2000000

-- cards with rising slots
abbrev pub CardsFit : (least : ℕ) → List CardRequirement → Type 0
CardsFit least [] = Unit {0}
CardsFit least (card ∷ cards) = CardFits least card × CardsFit (card.slot + 1) cards

pub record PoolFits (version : ℕ) (pool : Payload) : Type 0 where
  pub kind_size : kind_wrong version pool.kind (length pool.bytes) ≡ false
  pub pool_bytes : Bytes pool.bytes

pub record FrameFits (version : ℕ) (cards : List CardRequirement) (pools : List Payload) (frame : List Operation) : Type 0 where
  pub frame_count : length frame < 256 ^ 2
  pub operations : Each (OperationFits version cards pools) frame

pub record Limits (s : Stream) : Type 0 where
  pub first_version : 1 ≤ s.version
  pub last_version : s.version ≤ 4
  pub period_range : (s.period ≡ 0) ⊎ ((48000 ≤ s.period) × (s.period ≤ 48000000))
  pub period_below : s.version < 4 → s.period ≡ 0
  pub card_count : length s.cards ≤ 8
  pub cards_below : s.version < 4 → s.cards ≡ []
  pub cards_fit : CardsFit 0 s.cards
  pub pool_count : length s.pools ≤ 65536
  pub pools_below : s.version < 2 → s.pools ≡ []
  pub pools_fit : Each (PoolFits s.version) s.pools
  pub opening_fits : Each (OperationFits s.version s.cards s.pools) s.opening
  pub some_frame : 1 ≤ length s.frames
  pub frames_fit : Each (FrameFits s.version s.cards s.pools) s.frames
  pub total_size : length (written s) ≤ file_limit
