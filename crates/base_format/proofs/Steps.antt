-- One step of each list that is read from a file: what its rules say of the first item, and the rest.
use Prim.Native.Nat.{ℕ, suc, ◌+◌, ◌*◌, ◌≤◌}
use mathlib.Core.Bool.{Bool, true, false, cond, not, ◌||◌, true≢false}
use mathlib.Core.List.{List, ◌∷◌}
use mathlib.Core.Path.{◌≡◌, refl}
use native.Mathlib.Omega.{arith}
use borrow.Author.Tests.{ne_eqb, le-ltb, eqb-true, ltb-false, not-false}
use lib.Dec.{eqb, leb, ltb, lit≤}
use lib.ListN.{length, drop}
use Rattle.base_format.specs.declared.card.CardRequirement.{CardRequirement}
use Rattle.base_format.specs.declared.operation.Operation.{Operation}
use Rattle.base_format.specs.declared.operation.Operation.TheVariants.{Write}
use Rattle.base_format.specs.declared.pool.Pool.{Pool}
use Rattle.base_format.specs.Bytes.{byte, be, part, all_zero}
use Rattle.base_format.specs.Card.{card_at, one_card_wrong, card_wrong, cards_from}
use Rattle.base_format.specs.Checked.{ok}
use Rattle.base_format.specs.Operation.{Setting, Item, address_width, size_of, fields_at, allowed, operation_at, record_at}
use Rattle.base_format.specs.Pool.{Payload, pool_at, bank_limit, kind_wrong, pool_wrong, pools_from}
use Rattle.base_format.specs.Operation.{item_at}
use Rattle.base_format.specs.Stream.{operations_from, frames_from}
use Rattle.base_format.proofs.Checks.{through, passed_test, passed_check, or_false, ok_is, positive}

-- CARDS

pub record CardFine (file : List ℕ) (at least : ℕ) (card : CardRequirement) : Type 0 where
  pub rising : least ≤ card.slot
  pub zeros : all_zero (part file (at + 2) 2) ≡ true
  pub rules : one_card_wrong card ≡ false

pub card_fine : (file : List ℕ) (at least : ℕ) (card : CardRequirement) → card_wrong file at least card ≡ false → CardFine file at least card
unfolding card_wrong
card_fine file at least card e =
    let a = or_false _ (one_card_wrong card) e in
    let b = or_false (ltb card.slot least) (not (all_zero (part file (at + 2) 2))) a.0 in
    record { rising = ltb-false _ _ b.0; zeros = not-false _ b.1; rules = a.1 }

pub record OneCardFine (card : CardRequirement) : Type 0 where
  pub slot_range : card.slot ≤ 7
  pub named : 1 ≤ card.id_length
  pub name_range : card.id_length ≤ 16
  pub padded : all_zero (drop card.id_length card.id) ≡ true
  pub offset_range : card.id_offset + card.id_length ≤ 0x2000000
  pub bulk_range : card.bulk_start + card.bulk_length ≤ 0x2000000

pub one_card_fine : (card : CardRequirement) → one_card_wrong card ≡ false → OneCardFine card
unfolding one_card_wrong
one_card_fine card e =
    let n = card.id_length in
    let a = or_false _ (ltb 0x2000000 (card.bulk_start + card.bulk_length)) e in
    let b = or_false _ (ltb 0x2000000 (card.id_offset + n)) a.0 in
    let c = or_false _ (not (all_zero (drop n card.id))) b.0 in
    let d = or_false _ (ltb 16 n) c.0 in
    let f = or_false (ltb 7 card.slot) (eqb n 0) d.0 in
    record {
      slot_range = ltb-false _ _ f.0;
      named = positive n f.1;
      name_range = ltb-false _ _ d.1;
      padded = not-false _ c.1;
      offset_range = ltb-false _ _ b.1;
      bulk_range = ltb-false _ _ a.1;
    }

pub record CardStep (file : List ℕ) (count at least : ℕ) (cards : List CardRequirement) : Type 0 where
  pub room : at + 32 ≤ length file
  pub fine : CardFine file at least (card_at file at)
  pub others : List CardRequirement
  pub from : cards_from file count (at + 32) (byte file at + 1) ≡ ok others
  pub is : card_at file at ∷ others ≡ cards

pub card_step : (file : List ℕ) (count at least : ℕ) (cards : List CardRequirement) → cards_from file (suc count) at least ≡ ok cards → CardStep file count at least cards
unfolding cards_from
card_step file count at least cards e =
    let a = passed_test 7 at (ltb (length file) (at + 32) || card_wrong file at least (card_at file at)) e in
    let b = or_false (ltb (length file) (at + 32)) (card_wrong file at least (card_at file at)) a.0 in
    let c = through (cards_from file count (at + 32) (byte file at + 1)) _ a.1 in
    record { room = ltb-false _ _ b.0; fine = card_fine file at least (card_at file at) b.1; others = c.value; from = c.is; is = ok_is c.then }

-- POOLS

-- the kinds and their sizes
pub data KindIs (version kind size : ℕ) : Type 0 where
  is_wave : kind ≡ 1 → size ≡ 256 → KindIs version kind size
  is_pcm : kind ≡ 2 → 1 ≤ size → size ≤ 1048576 → KindIs version kind size
  is_bank : kind ≡ 3 → 1 ≤ size → size ≤ bank_limit version → KindIs version kind size

pub kind_is : (version kind size : ℕ) → kind_wrong version kind size ≡ false → KindIs version kind size
unfolding kind_wrong
kind_is version kind size = go (eqb kind 1) (eqb kind 2) (eqb kind 3) refl refl refl
  where
    go : (one two three : Bool) → eqb kind 1 ≡ one → eqb kind 2 ≡ two → eqb kind 3 ≡ three
        → cond one (not (eqb size 256)) (cond two (eqb size 0 || ltb 1048576 size) (cond three (eqb size 0 || ltb (bank_limit version) size) true)) ≡ false
        → KindIs version kind size
    go true two three a b c e = is_wave (eqb-true _ _ a) (eqb-true _ _ (not-false _ e))
    go false true three a b c e =
        let both = or_false (eqb size 0) (ltb 1048576 size) e in
        is_pcm (eqb-true _ _ b) (positive size both.0) (ltb-false _ _ both.1)
    go false false true a b c e =
        let both = or_false (eqb size 0) (ltb (bank_limit version) size) e in
        is_bank (eqb-true _ _ c) (positive size both.0) (ltb-false _ _ both.1)
    go false false false a b c e = absurd (true≢false e)

pub kind_fine : (version kind size : ℕ) → KindIs version kind size → kind_wrong version kind size ≡ false
unfolding kind_wrong
kind_fine version kind size (is_wave e f) = rw (e, f)
kind_fine version kind size (is_pcm e low high) = rw (e, ne_eqb size 0 (λ z. omega (arith, z, low)), le-ltb 1048576 size high)
kind_fine version kind size (is_bank e low high) = rw (e, ne_eqb size 0 (λ z. omega (arith, z, low)), le-ltb (bank_limit version) size high)

-- no bank passes a card's memory
pub bank_limit_lem : (version : ℕ) → bank_limit version ≤ 0x2000000
unfolding bank_limit
bank_limit_lem version = go (eqb version 4) (eqb version 3)
  where
    go : (four three : Bool) → cond four 0x2000000 (cond three 0x400000 0) ≤ 0x2000000
    go true three = lit≤ tt
    go false true = lit≤ tt
    go false false = lit≤ tt

pub record PoolFine (version : ℕ) (file : List ℕ) (at id start : ℕ) (pool : Pool) : Type 0 where
  pub id_here : be 2 file at ≡ id
  pub kind : kind_wrong version pool.kind pool.size ≡ false
  pub codec : byte file (at + 3) ≡ 0
  pub again : be 4 file (at + 8) ≡ pool.size
  pub here : pool.offset ≡ start

pub pool_fine : (version : ℕ) (file : List ℕ) (at id start : ℕ) (pool : Pool) → pool_wrong version file at id start pool ≡ false → PoolFine version file at id start pool
unfolding pool_wrong
pool_fine version file at id start pool e =
    let a = or_false _ (not (eqb pool.offset start)) e in
    let b = or_false _ (not (eqb (be 4 file (at + 8)) pool.size)) a.0 in
    let c = or_false _ (not (eqb (byte file (at + 3)) 0)) b.0 in
    let d = or_false (not (eqb (be 2 file at) id)) (kind_wrong version pool.kind pool.size) c.0 in
    record {
      id_here = eqb-true _ _ (not-false _ d.0);
      kind = d.1;
      codec = eqb-true _ _ (not-false _ c.1);
      again = eqb-true _ _ (not-false _ b.1);
      here = eqb-true _ _ (not-false _ a.1);
    }

pub record PoolStep (version : ℕ) (file : List ℕ) (directory count id start : ℕ) (found : List Payload × ℕ) : Type 0 where
  pub fine : PoolFine version file (directory + id * 16) id start (pool_at file directory id)
  pub within : start + (pool_at file directory id).size ≤ length file
  pub others : List Payload × ℕ
  pub from : pools_from version file directory count (suc id) (start + (pool_at file directory id).size) ≡ ok others
  pub is : (record { kind = (pool_at file directory id).kind; bytes = part file start (pool_at file directory id).size } ∷ others.0, others.1) ≡ found

pub pool_step : (version : ℕ) (file : List ℕ) (directory count id start : ℕ) (found : List Payload × ℕ)
    → pools_from version file directory (suc count) id start ≡ ok found → PoolStep version file directory count id start found
unfolding pools_from
pool_step version file directory count id start found e =
    let pool : Pool = pool_at file directory id in
    let at = directory + id * 16 in
    let a = passed_test 10 at (pool_wrong version file at id start pool) e in
    let b = passed_test 11 at (ltb (length file) (start + pool.size)) a.1 in
    let c = through (pools_from version file directory count (suc id) (start + pool.size)) _ b.1 in
    record { fine = pool_fine version file at id start pool a.0; within = ltb-false _ _ b.0; others = c.value; from = c.is; is = ok_is c.then }

-- OPERATIONS

pub record RecordIs (setting : Setting) (file : List ℕ) (limit at : ℕ) (item : Item) : Type 0 where
  pub room : at + 5 ≤ limit
  pub fine : allowed setting at (Write (byte file at) (be 3 file (at + 1)) (byte file (at + 4))) ≡ ok tt
  pub is : record { operation = Write (byte file at) (be 3 file (at + 1)) (byte file (at + 4)); next = at + 5 } ≡ item

pub record_is : (setting : Setting) (file : List ℕ) (limit at : ℕ) (item : Item) → record_at setting file limit at ≡ ok item → RecordIs setting file limit at item
unfolding record_at
record_is setting file limit at item e =
    let a = passed_test 14 at (ltb limit (at + 5)) e in
    let b = passed_check (allowed setting at (Write (byte file at) (be 3 file (at + 1)) (byte file (at + 4)))) a.1 in
    record { room = ltb-false _ _ a.0; fine = b.0; is = ok_is b.1 }

-- the operation whose fields stand at a place
abbrev pub fields_here : Setting → List ℕ → (at : ℕ) → Operation
fields_here setting file at = fields_at file (address_width setting.version) at (byte file at)

abbrev pub size_here : Setting → List ℕ → (at : ℕ) → ℕ
size_here setting file at = size_of (address_width setting.version) (byte file at)

pub record OperationIs (setting : Setting) (file : List ℕ) (limit at : ℕ) (item : Item) : Type 0 where
  pub known : byte file at ≤ 2
  pub room : at + size_here setting file at ≤ limit
  pub fine : allowed setting at (fields_here setting file at) ≡ ok tt
  pub is : record { operation = fields_here setting file at; next = at + size_here setting file at } ≡ item

pub operation_is : (setting : Setting) (file : List ℕ) (limit at : ℕ) (item : Item) → operation_at setting file limit at ≡ ok item → OperationIs setting file limit at item
unfolding operation_at
operation_is setting file limit at item e =
    let a = passed_test 14 at (leb limit at) e in
    let b = passed_test 13 at (ltb 2 (byte file at)) a.1 in
    let c = passed_test 14 at (ltb limit (at + size_here setting file at)) b.1 in
    let d = passed_check (allowed setting at (fields_here setting file at)) c.1 in
    record { known = ltb-false _ _ b.0; room = ltb-false _ _ c.0; fine = d.0; is = ok_is d.1 }

pub record OperationStep (setting : Setting) (file : List ℕ) (limit count at : ℕ) (found : List Operation × ℕ) : Type 0 where
  pub item : Item
  pub here : item_at setting file limit at ≡ ok item
  pub others : List Operation × ℕ
  pub from : operations_from setting file limit count item.next ≡ ok others
  pub is : (item.operation ∷ others.0, others.1) ≡ found

pub operation_step : (setting : Setting) (file : List ℕ) (limit count at : ℕ) (found : List Operation × ℕ)
    → operations_from setting file limit (suc count) at ≡ ok found → OperationStep setting file limit count at found
unfolding operations_from
operation_step setting file limit count at found e =
    let a = through (item_at setting file limit at) _ e in
    let b = through (operations_from setting file limit count a.value.next) _ a.then in
    record { item = a.value; here = a.is; others = b.value; from = b.is; is = ok_is b.then }

-- FRAMES

pub record FrameStep (setting : Setting) (file : List ℕ) (count at : ℕ) (found : List (List Operation) × ℕ) : Type 0 where
  pub room : at + 2 ≤ length file
  pub frame : List Operation × ℕ
  pub here : operations_from setting file (length file) (be 2 file at) (at + 2) ≡ ok frame
  pub others : List (List Operation) × ℕ
  pub from : frames_from setting file count frame.1 ≡ ok others
  pub is : (frame.0 ∷ others.0, others.1) ≡ found

pub frame_step : (setting : Setting) (file : List ℕ) (count at : ℕ) (found : List (List Operation) × ℕ) → frames_from setting file (suc count) at ≡ ok found → FrameStep setting file count at found
unfolding frames_from
frame_step setting file count at found e =
    let a = passed_test 14 at (ltb (length file) (at + 2)) e in
    let b = through (operations_from setting file (length file) (be 2 file at) (at + 2)) _ a.1 in
    let c = through (frames_from setting file count b.value.1) _ b.then in
    record { room = ltb-false _ _ a.0; frame = b.value; here = b.is; others = c.value; from = c.is; is = ok_is c.then }
