-- `join_put_second::put_second` meets its contract: the count, the opening and what stands behind the first count, one behind the other.
use borrow.Author.Rules.{rules}
use native.Mathlib.Omega.{arith}
use mathlib.Core.Path.{◌≡◌, refl, sym, ap, ◌∙◌}
use mathlib.Core.List.{List, [], ◌∷◌, ◌++◌, append-nil}
use Prim.Native.Nat.{ℕ, ◌+◌, ◌≤◌}
use lib.ListN.{length, length-append}
use Rattle.base_format.specs.declared.header.Header.{Header}
use Rattle.base_format.specs.Bytes.{AllBytes, be, u16}
use Rattle.base_format.proofs.Fields.{fields_size_lem}
use Rattle.bytes_read.specs.Put.{put}
use Rattle.bytes_put_items.specs.Items.{count_bytes}
use Rattle.bytes_put_fields.proofs.Writing.{starts, wrote, ends}
use Rattle.check_version.proofs.Answers.{has}
use Rattle.join_put_second.specs.Second.{SecondFits, opening_run, behind_run, second_bytes}
use Rattle.join_put_second.proofs.Second.{in_order_lem, first_count_lem, second_parts, opening_long, behind_long}
use Rattle.join_put_second.proofs.put_second.Statement.{statement}
use Rattle.join_put_second.proofs.put_second.Tie as tie

-- what the count is, and that it fits
count_fits : {file : List ℕ} {header : Header} {before room shift : ℕ} → SecondFits file header before room shift → AllBytes file
    → header.initial_count + be 2 file header.frame_start ≤ 65535
count_fits {file} {header} f bytes = omega (arith, first_count_lem file header bytes (has 2 file header f.here), f.count)

add_count : tie.Need-overflow_add-count
add_count c =
    omega (arith, count_fits c.requires (λ i. (c.shared_slice_known-1.given i).fits), c.read_u16-frame.ensures)

cast_put_count_2 : tie.Need-overflow_cast-count
cast_put_count_2 c =
    omega (arith, count_fits c.requires (λ i. (c.shared_slice_known-1.given i).fits), c.read_u16-frame.ensures)

put_opening_requires : tie.Need-put_opening-requires
put_opening_requires c κs =
    let p = c.requires in
    record { here = p.here; count = p.count; few = p.few; near = p.near; fits = omega (arith, p.fits) }

put_behind_requires : tie.Need-put_behind-requires
put_behind_requires c κs =
    let p = c.requires in
    record { here = p.here; count = p.count; few = p.few; near = p.near; fits = omega (arith, p.fits) }

returns : tie.Need-returns
returns c =
    let a = c.args in
    let file = a.file.now in
    let header = a.header in
    let buffer = a.buffer.now in
    let bytes : AllBytes file = λ i. (c.shared_slice_known-1.given i).fits in
    let h = has 2 file header c.requires.here in
    let order = in_order_lem c.requires bytes in
    let place = header.initial_start + a.shift in
    let count = header.initial_count + be 2 file header.frame_start in
    let opening = opening_run file a.before in
    let behind = behind_run file a.before in
    let long = opening_long file header bytes h a.before in
    let all = behind_long file header bytes h a.before in
    let parts = second_parts file header bytes h a.before in
    let size : length (second_bytes file a.before) ≡ 2 + (length opening + length behind) =
    ap length parts ∙ length-append (count_bytes count) (opening ++ behind) ∙ (λ i. fields_size_lem (u16 count ∷ []) i + length-append opening behind i) in
    let counted = c.put_count.ensures ∙ ap (λ (n : ℕ). put (count_bytes (header.initial_count + n)) place buffer) c.read_u16-frame.ensures in
    let w₀ = starts (second_bytes file a.before) place buffer (omega (arith, size, long, all, c.requires.fits)) in
    let w₁ = wrote w₀ (count_bytes count) (opening ++ behind) 2 {place' = header.initial_start + (a.shift + 2)} parts (fields_size_lem (u16 count ∷ [])) (omega arith) counted in
    let w₂ = wrote w₁ opening behind (length opening) {place' = header.frame_start + 2 + a.shift} refl refl (omega (arith, long)) c.put_opening.ensures in
    let done = wrote w₂ behind [] (length behind) {place' = header.frame_start + 2 + a.shift + length behind} (sym (append-nil behind)) refl refl c.put_behind.ensures in
    (ends done refl).0

pub put_second_spec : {M : Type 1} → statement M
put_second_spec =
    tie.close
    (tie.spec (search rules) (search rules) add_count (search rules) (search rules) cast_put_count_2 (search rules) put_opening_requires put_behind_requires (search rules) returns)
