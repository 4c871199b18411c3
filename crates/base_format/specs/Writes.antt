-- Playing: the writes of an operation, of the opening, of a frame and of each vsync. "A PCM write is one write, though both cores get
-- it": it stands once in these lists.
use Rattle.std.specs.Prelude.{ℕ, zero, suc, ◌+◌, ◌*◌, ◌%◌, Bool, false, cond, ◌||◌, List, [], ◌∷◌, ◌++◌, length, get_or, replicate, eqb, ltb}
use Rattle.base_format.specs.declared.operation.Operation.{Operation}
use Rattle.base_format.specs.declared.operation.Operation.TheVariants.{Write, Fill, Copy}
use Rattle.base_format.specs.declared.operation.WriteRecord.{WriteRecord}
use Rattle.base_format.specs.Bytes.{part}
use Rattle.base_format.specs.Pool.{Payload, no_pool}
use Rattle.base_format.specs.Stream.{Stream}

-- one write
abbrev pub write : (target address value : ℕ) → WriteRecord
write target address value = record { target = target; address = address; value = value }

-- "FILL and COPY write upward from their address"
unfoldable pub upward : (target address : ℕ) → (values : List ℕ) → List WriteRecord
upward target address [] = []
upward target address (value ∷ values) = write target address value ∷ upward target (address + 1) values

-- the bytes of a pool
abbrev pub payload : List Payload → (pool : ℕ) → List ℕ
payload pools pool = (get_or pools pool no_pool).bytes

-- the writes of an operation, "COPY the pool's bytes from source on"; `bytes` gives the bytes of each pool
unfoldable pub writes_with : (bytes : ℕ → List ℕ) → Operation → List WriteRecord
writes_with bytes (Write target address value) = upward target address (value ∷ [])
writes_with bytes (Fill target address size value) = upward target address (replicate size value)
writes_with bytes (Copy target address pool source size) = upward target address (part (bytes pool) source size)

unfoldable pub writes_of : List Payload → Operation → List WriteRecord
writes_of pools operation = writes_with (payload pools) operation

-- "operations in file order"
unfoldable pub writes_of_all : List Payload → List Operation → List WriteRecord
writes_of_all pools [] = []
writes_of_all pools (operation ∷ operations) = writes_of pools operation ++ writes_of_all pools operations

abbrev pub opening_writes : Stream → List WriteRecord
opening_writes s = writes_of_all s.pools s.opening

-- the writes of a frame, counted from 0
abbrev pub frame_writes : Stream → ℕ → List WriteRecord
frame_writes s k = writes_of_all s.pools (get_or s.frames k [])

abbrev pub target_number : Operation → ℕ
target_number (Write target address value) = target
target_number (Fill target address size value) = target
target_number (Copy target address pool source size) = target

-- "any operation of the file has target 11"
unfoldable pub any_si22 : List Operation → Bool
any_si22 [] = false
any_si22 (operation ∷ operations) = eqb (target_number operation) 11 || any_si22 operations

unfoldable pub any_frame_si22 : List (List Operation) → Bool
any_frame_si22 [] = false
any_frame_si22 (frame ∷ frames) = any_si22 frame || any_frame_si22 frames

abbrev pub uses_si22 : Stream → Bool
uses_si22 s = any_si22 s.opening || any_frame_si22 s.frames

-- zero to 0x800 + "32 × channel + 3 and to + 0x19", for so many channels of a core from one on
unfoldable pub silence : (core count channel : ℕ) → List WriteRecord
silence core zero channel = []
silence core (suc count) channel =
    write core (0x800 + 32 * channel + 3) 0 ∷ write core (0x800 + 32 * channel + 0x19) 0 ∷ silence core count (channel + 1)

-- the closing writes: "(11, 0x0C, 0) first" where some operation has target 11, then the zeros "for core 0, 1 and channel 0 to 7"
unfoldable pub closing_writes : (synth : Bool) → List WriteRecord
closing_writes synth = cond synth (write 11 0x0C 0 ∷ []) [] ++ silence 0 8 0 ++ silence 1 8 0

-- how many they are: one more with target 11
abbrev pub closing_count : (synth : Bool) → ℕ
closing_count synth = cond synth 33 32

unfoldable pub closing : Stream → List WriteRecord
closing s = closing_writes (uses_si22 s)

-- which vsync it is: the first of a start, or one without the opening. These are numbered from 0 over the frames of all passes, so that a
-- number past the last frame is frame 1 again, the closing writes, or nothing
pub data WhichVsync : Type 0 where
  first : WhichVsync
  later : (number : ℕ) → WhichVsync

-- the one behind it
abbrev pub vsync_behind : WhichVsync → WhichVsync
vsync_behind first = later 1
vsync_behind (later number) = later (suc number)

-- its writes. "The first plays opening and frame 1 together." Behind the last frame a repeating file "plays frame 1 again without the opening";
-- any other has the closing writes, "once, then nothing"
unfoldable pub writes_in : Stream → WhichVsync → List WriteRecord
writes_in s first = opening_writes s ++ frame_writes s 0
writes_in s (later number) =
    cond s.repeat (frame_writes s (number % length s.frames))
    (cond (ltb number (length s.frames)) (frame_writes s number) (cond (eqb number (length s.frames)) (closing s) []))

-- its operations
unfoldable pub operations_in : Stream → WhichVsync → List Operation
operations_in s first = s.opening ++ get_or s.frames 0 []
operations_in s (later number) =
    cond s.repeat (get_or s.frames (number % length s.frames) [])
    (cond (ltb number (length s.frames)) (get_or s.frames number []) [])

-- the vsync behind so many others, where no jump is made
abbrev pub vsync_numbered : ℕ → WhichVsync
vsync_numbered zero = first
vsync_numbered (suc k) = later (suc k)

-- its writes and its operations
unfoldable pub vsync : Stream → ℕ → List WriteRecord
vsync s k = writes_in s (vsync_numbered k)

unfoldable pub vsync_operations : Stream → ℕ → List Operation
vsync_operations s k = operations_in s (vsync_numbered k)
