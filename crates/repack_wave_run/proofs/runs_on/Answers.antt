-- A record's head tells its target and its address, since a target has one byte and an address has 3.
use Prim.Native.Nat.{ℕ, ◌+◌, ◌-◌, ◌<◌}
use mathlib.Core.List.{List}
use mathlib.Core.Path.{◌≡◌, sym, ◌∙◌}
use native.Mathlib.Omega.{arith}
use Rattle.base_format.specs.Bytes.{AllBytes, byte, be}
use Rattle.base_format.proofs.Bytes.{be_below}
use Rattle.base_master.proofs.Pieces.{runs_next, runs_not, runs_none}
use Rattle.repack_wave_run.proofs.Heads.{head_same, head_differs}
use Rattle.repack_wave_run.proofs.runs_on.Goals as goal

-- a target has one byte, and an address 3
module _ (records : List ℕ) (bytes : AllBytes records) (place : ℕ) where
  pub address_small : {address : ℕ} → address ≡ be 3 records (place + 1) → address < 16777216
  address_small e = omega (arith, e, be_below 3 records (place + 1) bytes)

pub overflow_add-record_target : goal.overflow_add-record_target
overflow_add-record_target c =
    let bytes : AllBytes c.args.records.now = λ i. (c.type_inv.records i).fits in
    omega (arith, bytes c.loop-i.place, address_small c.args.records.now bytes c.loop-i.place c.read_address-record_address.ensures)

pub returns-then-record_target-record_address : goal.returns-then-record_target-record_address
returns-then-record_target-record_address c =
    let l = c.loop-i in
    let a = c.args in
    let from = a.address + l._i in
    let bytes : AllBytes a.records.now = λ i. (c.type_inv.records i).fits in
    let short = address_small a.records.now bytes l.place c.read_address-record_address.ensures in
    let other = head_differs (byte a.records.now l.place) c.read_address-record_address.result a.target from short (omega arith)
    (λ e. c.if-record_target-record_address.true (e ∙ omega (arith, l.invariant.head_is))) in
    sym (l.invariant.same ∙ runs_not a.records.now (256 - l._i) a.target from l.place (omega arith) (rw (← c.read_address-record_address.ensures) other))

pub loop-i-preserved : goal.loop-i-preserved
loop-i-preserved c =
    let l = c.loop-i in
    let a = c.args in
    let from = a.address + l._i in
    let bytes : AllBytes a.records.now = λ i. (c.type_inv.records i).fits in
    let short = address_small a.records.now bytes l.place c.read_address-record_address.ensures in
    let same = head_same (byte a.records.now l.place) c.read_address-record_address.result a.target from short (omega arith) (c.if-record_target-record_address.false ∙ omega (arith, l.invariant.head_is)) in
    let fewer : 256 - (l._i + 1) ≡ 256 - l._i - 1 = omega arith in
    let next : a.address + (l._i + 1) ≡ from + 1 = omega arith in
    record {
      place_is = omega (arith, l.invariant.place_is);
      head_is = omega (arith, l.invariant.head_is);
      same = rw (fewer, next) (l.invariant.same ∙ runs_next a.records.now (256 - l._i) a.target from l.place (omega arith) same.0 (sym c.read_address-record_address.ensures ∙ same.1));
    }

pub returns : goal.returns
returns c = let none : 256 - c.loop-i._i ≡ 0 = omega arith in rw (c.loop-i.invariant.same, none, runs_none)
