-- The entries still to write, behind those that stand, are the whole.
use Rattle.std.proofs.Common.{◌<◌, ◌^◌, ◌-◌, ◌*◌}
use Rattle.base_format.specs.Bytes.{bytes_of_all}
use Rattle.bytes_put_fields.proofs.Writing.{Writing}
use Rattle.index_laws.specs.Built.{entries_walk}
use Rattle.index_put.proofs.put_entries.Given as goal

abbrev pub invariant-loop-i : goal.invariant-loop-i
invariant-loop-i l =
    record {
      small : l.at < 2 ^ 32;
      writing : Writing (bytes_of_all (entries_walk l.version l.file l.entries l.start)) 0 l.initial.buffer
          (bytes_of_all (entries_walk l.version l.file (l.entries - l.i) l.at)) (l.i * 4) l.buffer;
    }
