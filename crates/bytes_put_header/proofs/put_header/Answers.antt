-- Behind the three parts that every pooled version has, nothing is left, or version 4's part is.
use Rattle.std.proofs.Common.{arith, refl, sym, ◌∙◌, [], append-nil}
use Rattle.base_format.specs.Bytes.{bytes_of_all}
use Rattle.base_format.proofs.Fields.{fields_size_lem}
use Rattle.bytes_put_fields.proofs.Writing.{wrote, ends}
use Rattle.bytes_put_header.specs.Fields.{period_fields}
use Rattle.bytes_put_header.proofs.Fields.{last_none, last_period, three_written}
use Rattle.bytes_put_header.proofs.put_header.Goals as goal

pub returns-then-version-lt4 : goal.returns-then-version-lt4
returns-then-version-lt4 c =
    let sizes = rw c.size_field.ensures at c.put_sizes.ensures in
    let three = three_written c.args.header c.requires.1 c.requires.2 c.requires.0 c.put_front.ensures c.put_counts.ensures sizes in
    (ends three (last_none c.args.header c.if-version-lt4.true)).0

pub returns : goal.returns
returns c =
    let sizes = rw c.size_field.ensures at c.put_sizes.ensures in
    let three = three_written c.args.header c.requires.1 c.requires.2 c.requires.0 c.put_front.ensures c.put_counts.ensures sizes in
    let h = c.args.header in
    let period = bytes_of_all (period_fields h.frame_period) in
    let is = last_period h (omega arith) ∙ sym (append-nil period) in
    (ends (wrote three period [] 8 {place' = 48} is (fields_size_lem (period_fields h.frame_period)) refl c.put_period.ensures) refl).0
