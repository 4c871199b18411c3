-- An entry is written in front of those that are left; the next one's place has 4 bytes too.
use Rattle.std.proofs.Common.{◌≡◌, ◌+◌, ◌-◌, ◌++◌, arith, sym, ap₂, ◌∙◌, ℕ}
use native.Mathlib.Nat.{sub-zero}
use Rattle.base_format.specs.Bytes.{bytes_of, bytes_of_all}
use Rattle.base_format.proofs.Bytes.{length_bytes_of}
use Rattle.bytes_put_fields.proofs.Writing.{starts, wrote, ends}
use Rattle.index_laws.specs.Built.{entries_walk}
use Rattle.index_laws.proofs.Built.{entries_long, entries_next, entries_none}
use Rattle.index_laws.proofs.Frames.{frames_small}
use Rattle.index_put.proofs.put_entries.Goals as goal

pub loop-i-init : goal.loop-i-init
loop-i-init c =
    let a = c.args in
    record {
      small = omega arith;
      writing = rw sub-zero (starts _ 0 a.buffer.now (omega (arith, entries_long a.version a.file.now a.entries a.start)));
    }

pub loop-i-preserved : goal.loop-i-preserved
loop-i-preserved c =
    let a = c.args in
    let at = c.loop-i.at in
    let left : a.entries - c.loop-i.i - 1 ≡ a.entries - (c.loop-i.i + 1) = omega arith in
    let next = entries_next a.version a.file.now (a.entries - c.loop-i.i) at (omega arith) in
    let said = ap₂ (λ (n place : ℕ). bytes_of 4 at ++ bytes_of_all (entries_walk a.version a.file.now n place)) left (sym c.frames_end-at.ensures) in
    record {
      small = rw c.frames_end-at.ensures (frames_small a.version a.file.now 64 at (λ k. (c.type_inv.file k).fits) c.loop-i.invariant.small);
      writing = wrote c.loop-i.invariant.writing (bytes_of 4 at) _ 4 (next ∙ said) (length_bytes_of 4 at) (omega arith) c.put_u32.ensures;
    }

pub returns : goal.returns
returns c = let none : c.args.entries - c.loop-i.i ≡ 0 = omega arith in (ends c.loop-i.invariant.writing (rw (none, entries_none))).0
