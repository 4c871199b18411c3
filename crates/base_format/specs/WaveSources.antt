-- `wave_source`: "the pool last copied by a kind 1 COPY" to a channel of a core, "set with its first write". The kind is that of the
-- stream's pool. Where no jump is made, a moment of playing is a number of vsyncs that are over and a number of writes of the next.
use Rattle.std.specs.Prelude.{ℕ, zero, suc, ◌+◌, ◌-◌, ◌/◌, cond, ◌&&◌, List, [], ◌∷◌, ◌++◌, eqb, length, get_or, Option, Some, None}
use Rattle.base_format.specs.declared.operation.Operation.{Operation}
use Rattle.base_format.specs.declared.operation.Operation.TheVariants.{Write, Fill, Copy}
use Rattle.base_format.specs.Checked.{ok, refused}
use Rattle.base_format.specs.Pool.{Payload, no_pool}
use Rattle.base_format.specs.Steps.{Answer, of_call, of_jump, vsync_of_frame}
use Rattle.base_format.specs.Stream.{Stream}
use Rattle.base_format.specs.Writes.{WhichVsync, first, vsync_behind, writes_of, operations_in, vsync_operations}

-- the pool that a channel of a core has behind an operation: a kind 1 COPY "to that core and address div 256" sets it, and all else leaves it
unfoldable pub copied_by : List Payload → (core channel : ℕ) → Operation → Option ℕ → Option ℕ
copied_by pools core channel (Write target address value) last = last
copied_by pools core channel (Fill target address size value) last = last
copied_by pools core channel (Copy target address id source size) last =
    cond (eqb (get_or pools id no_pool).kind 1 && eqb target core && eqb (address / 256) channel) (Some id) last

-- and behind operations, one after the other
unfoldable pub last_copied : List Payload → (core channel : ℕ) → List Operation → Option ℕ → Option ℕ
last_copied pools core channel [] last = last
last_copied pools core channel (operation ∷ more) last = last_copied pools core channel more (copied_by pools core channel operation last)

-- the operations whose first write is among so many writes
unfoldable pub begun : List Payload → (writes : ℕ) → List Operation → List Operation
begun pools writes [] = []
begun pools writes (operation ∷ more) = cond (eqb writes 0) [] (operation ∷ begun pools (writes - length (writes_of pools operation)) more)

-- the operations of so many vsyncs
unfoldable pub operations_before : Stream → (vsyncs : ℕ) → List Operation
operations_before s zero = []
operations_before s (suc k) = operations_before s k ++ vsync_operations s k

-- the pool last copied to a channel of a core when so many vsyncs are over, and so many writes of the next are made
unfoldable pub wave_source_at : Stream → (vsyncs writes core channel : ℕ) → Option ℕ
wave_source_at s vsyncs writes core channel =
    last_copied s.pools core channel (operations_before s vsyncs ++ begun s.pools writes (vsync_operations s vsyncs)) None

-- WITH JUMPS

-- the operations whose first write is made by some steps, where a vsync is under way with so many writes made. A jump within a vsync leaves
-- those that are begun: "wave sources stay"
unfoldable pub begun_by : Stream → WhichVsync → (writes : ℕ) → List Answer → List Operation
begun_by s which writes [] = begun s.pools writes (operations_in s which)
begun_by s which writes (of_call (refused number place) ∷ more) = begun_by s which writes more
begun_by s which writes (of_call (ok answer) ∷ more) =
    cond answer.complete (operations_in s which ++ begun_by s (vsync_behind which) 0 more) (begun_by s which (writes + length answer.records) more)
begun_by s which writes (of_jump frame (refused number place) ∷ more) = begun_by s which writes more
begun_by s which writes (of_jump frame (ok next) ∷ more) = begun s.pools writes (operations_in s which) ++ begun_by s (vsync_of_frame frame) 0 more

-- the pool last copied to a channel of a core by the steps of a started player
unfoldable pub wave_source_behind : Stream → List Answer → (core channel : ℕ) → Option ℕ
wave_source_behind s answers core channel = last_copied s.pools core channel (begun_by s first 0 answers) None
