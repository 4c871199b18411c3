-- The segment of an operation stores its writes.
use Prim.Native.Nat.{ℕ, ◌+◌, ◌≤◌, ◌<◌}
use mathlib.Core.Bool.{true, false≢true}
use mathlib.Core.List.{List}
use mathlib.Core.Path.{◌≡◌, refl, sym, ap, ◌∙◌}
use native.Mathlib.Omega.{arith}
use lib.ListN.{length, get_or, take, drop, length-take, length-drop}
use lib.Seq.{get_or-take, get_or-drop, ext_get_or}
use Rattle.base_format.specs.declared.operation.Operation.{Operation}
use Rattle.base_format.specs.declared.operation.Operation.TheVariants.{Write, Fill, Copy}
use Rattle.base_format.specs.declared.operation.WriteRecord.{WriteRecord}
use Rattle.base_format.specs.Bytes.{byte, part}
use Rattle.play_laws.specs.Plan.{count_of, address_of, write_at}
use Rattle.base_format.specs.Player.{bytes_at}
use Rattle.base_format.specs.Pool.{pool_at}
use Rattle.base_format.specs.Writes.{write, writes_with}
use Rattle.base_format.proofs.Writes.{length_upward}
use Rattle.play_laws.proofs.PlannedOperations.{Writes}
use Rattle.play_segments.specs.Operation.{segment_from}
use Rattle.play_store_segment.specs.declared.Segment.{Segment}
use Rattle.play_store_segment.specs.Segment.{records_of, inserted, segment_stored}
use Rattle.play_store_segment.proofs.Segments.{value_at, records_count, record_of_lem, stored_all}

module _ (file : List ℕ) (directory done n : ℕ) where
  -- the segment of so many writes behind those that are done
  abbrev pub segment_at : Operation → Segment
  segment_at operation = segment_from file directory operation (address_of operation + done) done n

  -- its bytes lie in the file
  within : (operation : Operation) → Writes file directory operation → done + n ≤ count_of operation → 0 < n → (segment_at operation).copied ≡ true → (segment_at operation).from + n ≤ length file
  unfolding writes_with
  within (Write target address value) w fits some copied = absurd (false≢true copied)
  within (Fill target address size value) w fits some copied = absurd (false≢true copied)
  within (Copy target address id source size) w fits some copied =
      let offset = (pool_at file directory id).offset in
      let total = (pool_at file directory id).size in
      let long : length (part (part file offset total) source size) ≡ size = sym (length_upward target address _) ∙ w.count in
      omega (arith, long, length-take size (drop source (part file offset total)), length-drop source (part file offset total), length-take total (drop offset file), length-drop offset file)

  each : (operation : Operation) (i : ℕ) → write (segment_at operation).target ((segment_at operation).address + i) (value_at file (segment_at operation) i) ≡ write_at file directory operation (done + i)
  each (Write target address value) i =
      let place : address + done + i ≡ address + (done + i) = omega arith in
      ap (λ (a : ℕ). write target a value) place
  each (Fill target address size value) i =
      let place : address + done + i ≡ address + (done + i) = omega arith in
      ap (λ (a : ℕ). write target a value) place
  each (Copy target address id source size) i =
      let place : address + done + i ≡ address + (done + i) = omega arith in
      let from : (pool_at file directory id).offset + (source + done) + i ≡ (pool_at file directory id).offset + (source + (done + i)) = omega arith in
      ap (λ (a : ℕ). write target a (byte file ((pool_at file directory id).offset + (source + done) + i))) place ∙ ap (λ (a : ℕ). write target (address + (done + i)) (byte file a)) from

  size_is : (operation : Operation) → (segment_at operation).count ≡ n
  size_is (Write target address value) = refl
  size_is (Fill target address size value) = refl
  size_is (Copy target address id source size) = refl

  address_is : (operation : Operation) → (segment_at operation).address ≡ address_of operation + done
  address_is (Write target address value) = refl
  address_is (Fill target address size value) = refl
  address_is (Copy target address id source size) = refl

  module _ (operation : Operation) (w : Writes file directory operation) (fits : done + n ≤ count_of operation) where
    abbrev writes : List WriteRecord
    writes = writes_with (bytes_at file directory) operation

    records_are : records_of file (segment_at operation) n ≡ take n (drop done writes)
    records_are =
        ext_get_or (write 0 0 0) _ _ (count ∙ sym taken) (λ i less. record_of_lem file (segment_at operation) n (within operation w fits) i _ (omega (arith, less, count)) ∙ each operation i ∙ sym (at i (omega (arith, less, count))))
      where
        count : length (records_of file (segment_at operation) n) ≡ n
        count = records_count file (segment_at operation) n (within operation w fits)

        taken : length (take n (drop done writes)) ≡ n
        taken = omega (arith, length-take n (drop done writes), length-drop done writes, w.count)

        at : (i : ℕ) → i < n → get_or (take n (drop done writes)) i (write 0 0 0) ≡ write_at file directory operation (done + i)
        at i less = get_or-take n (drop done writes) i _ less ∙ get_or-drop done writes i _ ∙ w.each (done + i) _ (omega (arith, less))

    -- the run with the writes in it
    pub taken_stored : address_of operation + count_of operation ≤ 0x2000000 → (at : ℕ) (run : List WriteRecord) → at + n ≤ length run
        → segment_stored file (segment_at operation) at run ≡ inserted at (take n (drop done writes)) run
    taken_stored small at run room =
        stored_all file (segment_at operation) at run (λ some. record {
          inside = omega (arith, size_is operation);
          addresses = omega (arith, size_is operation, address_is operation);
          bytes = λ copied. rw (size_is operation) (within operation w fits (omega (arith, some, size_is operation)) copied);
        }) ∙ ap (λ (k : ℕ). inserted at (records_of file (segment_at operation) k) run) (size_is operation) ∙ ap (λ (l : List WriteRecord). inserted at l run) records_are
