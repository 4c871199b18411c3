-- A repacked master is its parts, one after the other, each by the numbers that were measured.
use Prim.Native.Nat.{ℕ, ◌+◌, ◌*◌, ◌-◌, ◌≤◌}
use mathlib.Core.Path.{◌≡◌, refl, sym, ap, ◌∙◌}
use mathlib.Core.List.{List, [], ◌++◌, map, append_assoc}
use native.Mathlib.Omega.{arith}
use lib.ListN.{length, take, length-append, length-map}
use lib.Seq.{length-take-le}
use Rattle.base_format.specs.declared.header.Header.{Header}
use Rattle.base_format.specs.declared.operation.Operation.{Operation}
use Rattle.base_format.specs.Bytes.{bytes_of_all}
use Rattle.base_format.specs.Header.{header_size}
use Rattle.base_format.specs.Operation.{size_of}
use Rattle.base_format.specs.Repack.{value, to_pcm, to_cores, pieces, packed_piece, pcm_pools, wave_pool, pcm_fill, pcm_copy, repacked}
use Rattle.base_format.specs.Stream.{Stream}
use Rattle.base_format.specs.Written.{operations_bytes, frames_bytes, directory_bytes, payloads_bytes, cards_bytes, header_in, header_fields, payloads_place, opening_place, frames_place, end_place, body_bytes, written}
use Rattle.base_format.proofs.Fields.{fields_size_lem}
use Rattle.base_format.proofs.Written.{directory_size}
use Rattle.base_master.specs.Places.{records_at, frames_at, master_of}
use Rattle.repack_wave_table.specs.Table.{waves_in}
use Rattle.base_master.specs.Result.{pcm_bytes, core_bytes, frame_bytes, all_waves}
use Rattle.base_master.proofs.Pieces.{records_count}
use Rattle.base_master.proofs.Result.{write_six, frame_bytes_size}
use Rattle.repack_put_directory.specs.Directory.{directory_of}
use Rattle.repack_put_payloads.specs.Payloads.{waves_bytes}
use Rattle.repack_put_opening.specs.Opening.{fill_part, copy_part, opening_part}
use Rattle.repack_put_payloads.proofs.Payloads.{waves_size}
use Rattle.repack_layout.specs.declared.Layout.{Layout}
use Rattle.repack_layout.specs.Layout.{pcm_pool, layout_of, new_header, Known, front_of, FrontFits}
use Rattle.base_master.proofs.Sections.{operations_append, payloads_append, five_size, pcm_payload, record_each, split_count, frames_count}
use Rattle.repack_layout.proofs.Sections.{pcm_pools_lem, pcm_copies, fills_few, copies_few, waves_payload, directory_of_lem}

-- ---- the stream

-- what a master of so many records and frames is repacked to, with its waves
abbrev made : (file : List ℕ) (header : Header) → List (List ℕ) → Stream
made file header waves =
    let pcm = pcm_bytes file header.initial_count 20 in
    record {
      version = 2;
      repeat = header.repeat;
      period = 0;
      cards = [];
      pools = pcm_pools pcm ++ map wave_pool waves;
      opening = pcm_fill (length pcm) ++ to_cores (records_at file header.initial_count 20) ++ pcm_copy (length pcm);
      frames = map (λ (frame : List Operation). map (packed_piece (length (pcm_pools pcm)) waves) (pieces 0 frame)) (frames_at file header.frame_count (20 + header.initial_count * 5));
    }

module _ {file : List ℕ} {header : Header} {places spots numbers : List ℕ} {pcm waves uses size : ℕ} (known : Known file header places spots numbers pcm waves uses size) where
  abbrev records : ℕ
  records = header.initial_count

  abbrev start : ℕ
  start = 20 + records * 5

  abbrev frames : ℕ
  frames = header.frame_count

  abbrev bytes : List ℕ
  bytes = pcm_bytes file records 20

  abbrev found : List (List ℕ)
  found = waves_in file places waves

  abbrev s : Stream
  s = made file header found

  made_is : repacked (master_of file header) ≡ s
  unfolding repacked pcm_bytes
  made_is = ap (made file header) (unfold all_waves in known.measured.waves_are)

  few : waves ≤ length places
  few = omega (arith, known.measured.few, known.measured.places_size)

  taken : length (take waves places) ≡ waves
  taken = length-take-le waves places few

  pools_are : length s.pools ≡ pcm_pool pcm + waves
  pools_are =
      length-append (pcm_pools bytes) (map wave_pool found) ∙ rw (length-map, length-map, taken, pcm_pools_lem bytes, known.pcm_is)

  payloads_are : payloads_bytes s.pools ≡ bytes ++ waves_bytes file places 0 waves
  payloads_are =
      payloads_append (pcm_pools bytes) (map wave_pool found) ∙ rw (pcm_payload bytes) (ap (λ (l : List ℕ). bytes ++ l) (waves_payload file places 0 waves (omega (arith, few))))

  directory_is : (at : ℕ) → directory_bytes 0 at s.pools ≡ directory_of pcm waves at
  directory_is at = directory_of_lem file at bytes (take waves places) ∙ rw (known.pcm_is, taken)

  opening_are : operations_bytes 2 s.opening ≡ opening_part file records pcm
  unfolding opening_part fill_part copy_part core_bytes
  opening_are =
      operations_append 2 (pcm_fill (length bytes) ++ to_cores (records_at file records 20)) (pcm_copy (length bytes))
      ∙ rw (operations_append 2 (pcm_fill (length bytes)) (to_cores (records_at file records 20)), append_assoc, known.pcm_is)

  pub pcm_few : pcm ≤ records
  pcm_few = omega (arith, record_each file records 20, known.pcm_is)

  cores_are : length (to_cores (records_at file records 20)) ≡ records - pcm
  cores_are = unfold pcm_bytes in omega (arith, split_count (records_at file records 20), records_count file records 20, length-map (to_pcm (records_at file records 20)) value, known.pcm_is)

  operations_are : length s.opening ≡ length (pcm_fill pcm) + (records - pcm + pcm_pool pcm)
  operations_are =
      simp (length-append, known.pcm_is, cores_are, pcm_copies) (omega arith)

  frames_are : frames_bytes 2 s.frames ≡ frame_bytes (pcm_pool pcm) found file frames start
  unfolding frame_bytes
  frames_are = rw (pcm_pools_lem bytes, known.pcm_is)

  frames_counted : length s.frames ≡ frames
  frames_counted = length-map (frames_at file frames start) _ ∙ frames_count file frames start

  -- ---- sizes

  payloads_size : length (payloads_bytes s.pools) ≡ pcm + waves * 256
  payloads_size =
      ap length payloads_are ∙ length-append bytes (waves_bytes file places 0 waves) ∙ rw (known.pcm_is, waves_size)

  cores_size : length (core_bytes file records 20) ≡ (records - pcm) * size_of 3 0
  cores_size = rw write_six (omega (arith, record_each file records 20, known.pcm_is))

  opening_size : length (opening_part file records pcm) ≡ length (fill_part pcm) + ((records - pcm) * size_of 3 0 + length (copy_part pcm))
  unfolding opening_part
  opening_size = simp (length-append, cores_size)

  frames_size : length (frame_bytes (pcm_pool pcm) found file frames start) ≡ size
  frames_size = frame_bytes_size (pcm_pool pcm) 0 found [] file frames start ∙ known.measured.size_is

  -- ---- the header

  abbrev layout : Layout
  layout = layout_of records pcm waves size

  opening_place_lem : opening_place s ≡ layout.opening
  unfolding layout_of header_size
  opening_place_lem = rw (payloads_size, pools_are)

  frames_place_lem : frames_place s ≡ layout.frames
  unfolding layout_of
  frames_place_lem = ap (λ (n : ℕ). opening_place s + n) (ap length opening_are ∙ opening_size) ∙ ap (λ (n : ℕ). n + (length (fill_part pcm) + ((records - pcm) * size_of 3 0 + length (copy_part pcm)))) opening_place_lem

  end_place_lem : end_place s ≡ layout.total
  unfolding layout_of
  end_place_lem = ap (λ (n : ℕ). frames_place s + n) (ap length frames_are ∙ frames_size) ∙ ap (λ (n : ℕ). n + size) frames_place_lem

  header_is : header_in s ≡ new_header header layout
  unfolding new_header header_size
  header_is =
      let said : (f p o i t e : ℕ) → Header = λ f p o i t e. record {
        version = 2;
        repeat = header.repeat;
        frame_period = 0;
        card_count = 0;
        frame_count = f;
        pool_count = p;
        initial_count = o;
        directory_offset = 40;
        initial_start = i;
        frame_start = t;
        total_size = e;
      } in
      let pools : length s.pools ≡ layout.pools = unfold layout_of in pools_are in
      let operations : length s.opening ≡ layout.operations = unfold layout_of in operations_are in
      (λ i. said (frames_counted i) (pools i) (operations i) (opening_place_lem i) (frames_place_lem i) (end_place_lem i))

  two_is : header_size s.version ≡ 40
  unfolding header_size
  two_is = refl

  -- ---- the whole

  payloads_place_lem : payloads_place s ≡ layout.payloads
  unfolding layout_of header_size
  payloads_place_lem = rw pools_are

  abbrev pub rest : List ℕ
  rest = opening_part file records pcm ++ frame_bytes (pcm_pool pcm) found file frames start

  written_is : written (repacked (master_of file header)) ≡ front_of file header pcm waves layout places ++ rest
  unfolding written body_bytes front_of cards_bytes
  written_is =
      let said : (h : Header) (d p o f : List ℕ) → List ℕ = λ h d p o f. bytes_of_all (header_fields h) ++ (d ++ (p ++ (o ++ f))) in
      let directory : directory_bytes 0 (payloads_place s) s.pools ≡ directory_of pcm waves layout.payloads = ap (λ (at : ℕ). directory_bytes 0 at s.pools) payloads_place_lem ∙ directory_is layout.payloads in
      ap written made_is ∙ (λ i. said (header_is i) (directory i) (payloads_are i) (opening_are i) (frames_are i)) ∙ simp append_assoc

  written_size : length (written (repacked (master_of file header))) ≡ layout.total
  unfolding written body_bytes cards_bytes
  written_size =
      let h = bytes_of_all (header_fields (header_in s)) in
      let d = directory_bytes 0 (payloads_place s) s.pools in
      let whole = five_size h d (payloads_bytes s.pools) (operations_bytes 2 s.opening) (frames_bytes 2 s.frames) in
      ap (λ (x : Stream). length (written x)) made_is
      ∙ whole
      ∙ omega (arith, fields_size_lem (header_fields (header_in s)), directory_size 0 (payloads_place s) s.pools, two_is)
      ∙ end_place_lem

  -- ---- places

  module _ {l : Layout} (e : l ≡ layout) where
    opening_at : l.opening ≡ l.payloads + (pcm + waves * 256)
    unfolding layout_of
    opening_at = rw e

    payloads_at : l.payloads ≡ 40 + (pcm_pool pcm + waves) * 16
    unfolding layout_of
    payloads_at = rw e

    pub frames_at_lem : l.frames ≡ l.opening + length (opening_part file records pcm)
    unfolding layout_of
    frames_at_lem = rw (e, opening_size)

    pub total_at : l.total ≡ l.frames + length (frame_bytes (pcm_pool pcm) found file frames start)
    unfolding layout_of
    total_at = rw (e, frames_size)

    pub parts_are : written (repacked (master_of file header)) ≡ front_of file header pcm waves l places ++ rest
    parts_are = written_is ∙ ap (λ (x : Layout). front_of file header pcm waves x places ++ rest) (sym e)

    pub total_is : length (written (repacked (master_of file header))) ≡ l.total
    total_is = written_size ∙ ap (λ (x : Layout). x.total) (sym e)

    pub front_fits : (buffer : List ℕ) → l.total ≤ 0xE00000 → l.total ≤ length buffer → FrontFits file header pcm waves l places buffer
    front_fits buffer small room =
        let pools : l.pools ≡ pcm_pool pcm + waves = unfold layout_of in rw e in
        let operations : l.operations ≡ length (pcm_fill pcm) + (records - pcm + pcm_pool pcm) = unfold layout_of in rw e in
        record {
          pcm_is = known.pcm_is;
          records_fit = known.opening_fits;
          waves_inside = (known.measured.few, known.measured.inside);
          payloads_at = payloads_at;
          opening_at = opening_at;
          frames_at = omega (arith, frames_at_lem);
          end_at = omega (arith, total_at);
          few = omega (arith, total_at, frames_at_lem, opening_at, payloads_at);
          less = omega (arith, total_at, frames_at_lem, rw write_six at opening_size, fills_few pcm, copies_few pcm);
          small = small;
          room = room;
        }
