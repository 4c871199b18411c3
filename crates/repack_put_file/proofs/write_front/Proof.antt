-- Header, directory, PCM bytes and waves, one behind the other.
use Prim.Native.Nat.{◌+◌}
use mathlib.Core.Path.{refl, sym, ap, ◌∙◌}
use mathlib.Core.List.{[], ◌++◌, append-nil}
use native.Mathlib.Omega.{arith}
use borrow.Author.Rules.{rules}
use lib.ListN.{length}
use Rattle.base_format.specs.declared.header.Header.{Header}
use Rattle.base_format.specs.Bytes.{bytes_of_all}
use Rattle.base_format.specs.Written.{header_fields}
use Rattle.bytes_read.specs.Put.{put}
use Rattle.base_master.specs.Result.{pcm_bytes}
use Rattle.repack_put_directory.specs.Directory.{directory_of}
use Rattle.bytes_put_fields.proofs.Writing.{starts, wrote, ends}
use Rattle.repack_put_payloads.specs.Payloads.{waves_bytes}
use Rattle.repack_layout.specs.Layout.{new_header, front_of}
use Rattle.repack_layout.proofs.Numbers.{directory_long, header_long, new_version, front_is, front_size}
use Rattle.repack_put_file.proofs.write_front.Statement.{statement}
use Rattle.repack_put_file.proofs.write_front.Tie as tie

new_header_requires : tie.Need-new_header-requires
new_header_requires c κs =
    let p = c.requires in
    (p.small, omega arith, p.few, p.less)

put_header_requires : tie.Need-put_header-requires
put_header_requires c κs =
    let p = c.requires in
    let a = c.args in
    let says = new_version a.header a.layout in
    rw c.new_header.ensures (omega (arith, says.1), omega (arith, says.0), omega (arith, says.0), rw says.2 (omega arith))

put_directory_requires : tie.Need-put_directory-requires
put_directory_requires c κs =
    let p = c.requires in
    let a = c.args in
    (omega (arith, directory_long a.pcm a.waves a.layout.payloads), p.waves_inside.0, omega arith)

put_pcm_requires : tie.Need-put_pcm-requires
put_pcm_requires c κs =
    let p = c.requires in
    (p.records_fit, omega (arith, p.pcm_is))

add_put_waves : tie.Need-overflow_add-payloads
add_put_waves c =
    let p = c.requires in
    omega arith

put_waves_requires : tie.Need-put_waves-requires
put_waves_requires c κs =
    let p = c.requires in
    (p.waves_inside, omega arith)

returns : tie.Need-returns
returns c =
    let a = c.args in
    let p = c.requires in
    let file = a.file.now in
    let places = a.places.now in
    let h = bytes_of_all (header_fields (new_header a.header a.layout)) in
    let d = directory_of a.pcm a.waves a.layout.payloads in
    let b = pcm_bytes file a.header.initial_count 20 in
    let w = waves_bytes file places 0 a.waves in
    let long = front_size p in
    let header-puts = c.put_header.ensures ∙ ap (λ (x : Header). put (bytes_of_all (header_fields x)) 0 a.buffer.now) c.new_header.ensures in
    let w₀ = starts (front_of file a.header a.pcm a.waves a.layout places) 0 a.buffer.now (omega arith) in
    let w₁ = wrote w₀ h (d ++ (b ++ w)) 40 {place' = 40} (front_is p) (header_long a.header a.layout) refl header-puts in
    let w₂ = wrote w₁ d (b ++ w) (length d) {place' = a.layout.payloads} refl refl (omega (arith, p.payloads_at, directory_long a.pcm a.waves a.layout.payloads)) c.put_directory.ensures in
    let w₃ = wrote w₂ b w a.pcm refl p.pcm_is refl c.put_pcm.ensures in
    let done = wrote w₃ w [] (length w) {place' = a.layout.payloads + a.pcm + length w} (sym (append-nil w)) refl refl c.put_waves.ensures in
    (ends done refl).0

pub write_front_spec : {M : Type 1} → statement M
write_front_spec = tie.close (tie.spec (search rules) new_header_requires put_header_requires put_directory_requires put_pcm_requires add_put_waves put_waves_requires (search rules) returns)
