-- The walk over operations that were copied makes them the renumbered ones.
use Prim.Native.Nat.{ℕ, zero, suc, ◌+◌, ◌≤◌}
use mathlib.Core.Path.{◌≡◌, refl, sym, ap, ◌∙◌, subst}
use mathlib.Core.List.{List, [], ◌∷◌, ◌++◌, map, append_assoc}
use native.Mathlib.Nat.{le_refl}
use native.Mathlib.Omega.{arith}
use mathlib.Core.Bool.{Bool, false, cond}
use lib.Dec.{eqb}
use lib.ListN.{length, length-append, length-map}
use Rattle.base_format.specs.declared.operation.Operation.{Operation}
use Rattle.base_format.specs.Bytes.{byte, be, bytes_of, bytes_of_all, u16}
use Rattle.base_format.specs.Checked.{ok}
use Rattle.base_format.specs.declared.operation.Item.{Item}
use Rattle.base_format.specs.Operation.{Setting, address_width, fields_at, item_at}
use Rattle.base_format.specs.Stream.{operations_from, frames_from}
use Rattle.base_format.specs.Written.{item_bytes, operations_bytes, frames_bytes}
use Rattle.base_format.proofs.Bytes.{length_bytes_of}
use Rattle.base_format.proofs.Fields.{fields_size_lem}
use Rattle.base_format.proofs.Checks.{ok_is}
use Rattle.base_format.proofs.Steps.{operation_is, operation_step, frame_step}
use Rattle.bytes_read.specs.Put.{put}
use Rattle.index_laws.specs.Frames.{item_size, items_walked}
use Rattle.index_laws.proofs.Frames.{goes_on_lem, operation_next, operations_next}
use Rattle.index_laws.proofs.Places.{item_long, operations_long}
use Rattle.bytes_read.proofs.Laws.{length_put}
use Rattle.bytes_read.proofs.Sequence.{put_append, put_next}
use Rattle.bytes_put_fields.proofs.Changed.{put_changed}
use Rattle.join_stream.specs.Join.{renumbered}
use Rattle.join_stream.proofs.Joined.{item_renumbered_lem, operations_renumbered, frames_renumbered_lem}
use Rattle.join_renumber.specs.Renumbered.{item_renumbered, items_renumbered, frames_renumbered}
use Rattle.join_renumber.proofs.Walk.{copy_renumbered, other_stays}

module _ (before shift : ℕ) (file : List ℕ) where
  -- where an operation, operations or frames stand in a buffer with bytes behind them, the walk from their place in the file makes them renumbered
  abbrev ItemIs : (at : ℕ) → Operation → (rest buffer : List ℕ) → Type 0
  ItemIs at operation rest buffer =
      at + shift + length (item_bytes 2 operation ++ rest) ≤ length buffer
      → item_renumbered before shift file at (put (item_bytes 2 operation ++ rest) (at + shift) buffer)
      ≡ put (item_bytes 2 (renumbered before operation) ++ rest) (at + shift) buffer

  abbrev pub ItemsAre : (count at : ℕ) → List Operation → (rest buffer : List ℕ) → Type 0
  ItemsAre count at operations rest buffer =
      at + shift + length (operations_bytes 2 operations ++ rest) ≤ length buffer
      → items_renumbered before shift file count at (put (operations_bytes 2 operations ++ rest) (at + shift) buffer)
      ≡ put (operations_bytes 2 (map (renumbered before) operations) ++ rest) (at + shift) buffer

  abbrev pub FramesAre : (count at : ℕ) → List (List Operation) → (buffer : List ℕ) → Type 0
  FramesAre count at frames buffer =
      at + shift + length (frames_bytes 2 frames) ≤ length buffer
      → frames_renumbered before shift file count at (put (frames_bytes 2 frames) (at + shift) buffer)
      ≡ put (frames_bytes 2 (map (map (renumbered before)) frames)) (at + shift) buffer

  -- one operation, with bytes behind it
  item_is : (at opcode : ℕ) (rest buffer : List ℕ) → byte file at ≡ opcode → opcode ≤ 2 → ItemIs at (fields_at file 3 at opcode) rest buffer
  unfolding item_bytes fields_at bytes_of_all address_width
  item_is at zero rest buffer e known fits = sym (other_stays before shift file at _ (λ two. omega (arith, e, two)))
  item_is at (suc zero) rest buffer e known fits = sym (other_stays before shift file at _ (λ two. omega (arith, e, two)))
  item_is at (suc (suc zero)) rest buffer e known fits =
      let pool = be 2 file (at + 2 + 3) in
      let address = bytes_of 3 (be 3 file (at + 2)) in
      let head : List ℕ = 2 ∷ byte file (at + 1) ∷ address in
      let tail = bytes_of 4 (be 4 file (at + 4 + 3)) ++ (bytes_of 4 (be 4 file (at + 8 + 3)) ++ []) in
      let apart : (n : ℕ) → (2 ∷ byte file (at + 1) ∷ (address ++ (bytes_of 2 n ++ tail))) ++ rest ≡ head ++ (bytes_of 2 n ++ (tail ++ rest)) = λ n. simp append_assoc in
      let same : length (bytes_of 2 (before + pool)) ≡ length (bytes_of 2 pool) = rw (length_bytes_of, length_bytes_of) in
      let place : at + 5 + shift ≡ at + shift + length head = rw length_bytes_of (omega arith) in
      let number : at + 5 ≡ at + 2 + 3 = omega arith in
      let room : at + shift + length (head ++ (bytes_of 2 pool ++ (tail ++ rest))) ≤ length buffer = subst (λ (l : List ℕ). at + shift + length l ≤ length buffer) (apart pool) fits in
      sym (copy_renumbered before shift file at _ e)
      ∙ (λ i. put (bytes_of 2 (before + be 2 file (number i))) (place i) (put (apart pool i) (at + shift) buffer))
      ∙ put_changed head (bytes_of 2 pool) (bytes_of 2 (before + pool)) (tail ++ rest) (at + shift) buffer same room
      ∙ ap (λ (l : List ℕ). put l (at + shift) buffer) (sym (apart (before + pool)))
  item_is at (suc (suc (suc n))) rest buffer e known fits = absurd (omega arith)

  module _ (setting : Setting) (two : setting.version ≡ 2) (small : length file ≤ 0xE00000) where
    other : eqb setting.version 1 ≡ false
    other = ap (λ (v : ℕ). eqb v 1) two

    -- the operation of an item
    step_is : (limit at : ℕ) (item : Item) (rest buffer : List ℕ) → item_at setting file limit at ≡ ok item → ItemIs at item.operation rest buffer
    unfolding item_at address_width
    step_is limit at item rest buffer e =
        let found = operation_is setting file limit at item (rw other at e) in
        let width = ap (λ (v : ℕ). fields_at file (address_width v) at (byte file at)) (sym two) in
        let is : fields_at file 3 at (byte file at) ≡ item.operation = width ∙ ap (λ (i : Item). i.operation) found.is in
        subst (λ (o : Operation). ItemIs at o rest buffer) is (item_is at (byte file at) rest buffer refl found.known)

    -- the first operation and those behind it
    first_and_more : (limit count at : ℕ) (item : Item) (others : List Operation) (rest buffer : List ℕ) → limit ≤ length file
        → item_at setting file limit at ≡ ok item → ((l : List ℕ) → ItemsAre count item.next others rest l)
        → ItemsAre (suc count) at (item.operation ∷ others) rest buffer
    unfolding operations_bytes items_renumbered address_width
    first_and_more limit count at item others rest buffer within here more fits =
        let old = item_bytes 2 item.operation in
        let new = item_bytes 2 (renumbered before item.operation) in
        let others-old = operations_bytes 2 others in
        let others-new = operations_bytes 2 (map (renumbered before) others) in
        let place = at + shift in
        let next = operation_next setting file limit at item within other here in
        let goes = goes_on_lem file at next.0 small in
        let there : at + item_size 3 file at ≡ item.next = sym (next.1 ∙ ap (λ (v : ℕ). at + item_size (address_width v) file at) two) in
        let copied = put ((old ++ others-old) ++ rest) place buffer in
        let size : item.next ≡ at + length old = item_long setting file limit at item here ∙ ap (λ (v : ℕ). at + length (item_bytes v item.operation)) two in
        let same : length new ≡ length old = item_renumbered_lem before item.operation in
        let same' : length others-new ≡ length others-old = operations_renumbered before others in
        let apart = append_assoc old others-old rest in
        let long : length (old ++ (others-old ++ rest)) ≡ length old + (length others-old + length rest) = simp length-append in
        let long' : length (new ++ (others-old ++ rest)) ≡ length new + (length others-old + length rest) = simp length-append in
        let long'' : length (new ++ (others-new ++ rest)) ≡ length new + (length others-new + length rest) = simp length-append in
        let behind : length (others-old ++ rest) ≡ length others-old + length rest = length-append others-old rest in
        let room : place + length (old ++ (others-old ++ rest)) ≤ length buffer = subst (λ (l : List ℕ). place + length l ≤ length buffer) apart fits in
        let front = put new place buffer in
        let kept = length_put new place buffer in
        let put-at : place + length new ≡ item.next + shift = omega arith in
        ap (λ (b : Bool). cond b (items_renumbered before shift file count (at + item_size 3 file at) (item_renumbered before shift file at copied)) copied) goes
        ∙ (λ i. items_renumbered before shift file count (there i) (item_renumbered before shift file at (put (apart i) place buffer)))
        ∙ ap (items_renumbered before shift file count item.next) (step_is limit at item (others-old ++ rest) buffer here room ∙ put_append new (others-old ++ rest) place buffer (omega arith))
        ∙ ap (λ (k : ℕ). items_renumbered before shift file count item.next (put (others-old ++ rest) k front)) put-at
        ∙ more front (omega arith)
        ∙ ap (λ (k : ℕ). put (others-new ++ rest) k front) (sym put-at)
        ∙ sym (put_append new (others-new ++ rest) place buffer (omega arith))
        ∙ ap (λ (l : List ℕ). put l place buffer) (sym (append_assoc new others-new rest))

    -- so many operations, with bytes behind them
    pub items_are : (limit count at : ℕ) (found : List Operation × ℕ) (rest buffer : List ℕ) → limit ≤ length file
        → operations_from setting file limit count at ≡ ok found → ItemsAre count at found.0 rest buffer
    unfolding operations_from operations_bytes items_renumbered
    items_are limit zero at found rest buffer within e =
        subst (λ (l : List Operation). ItemsAre 0 at l rest buffer) (ap (λ (f : List Operation × ℕ). f.0) (ok_is e)) (λ fits. refl)
    items_are limit (suc count) at found rest buffer within e =
        let step = operation_step setting file limit count at found e in
        subst (λ (l : List Operation). ItemsAre (suc count) at l rest buffer) (ap (λ (f : List Operation × ℕ). f.0) step.is)
        (first_and_more limit count at step.item step.others.0 rest buffer within step.here
        (λ l. items_are limit count step.item.next step.others rest l within step.from))

    -- the operations of a first frame and the frames behind it, without the first count: that one is written anew
    pub behind_count : (count at : ℕ) (frame : List Operation × ℕ) (others : List (List Operation)) (buffer : List ℕ) → at + 2 ≤ length file
        → operations_from setting file (length file) (be 2 file at) (at + 2) ≡ ok frame → ((l : List ℕ) → FramesAre count frame.1 others l)
        → at + 2 + shift + length (operations_bytes 2 frame.0 ++ frames_bytes 2 others) ≤ length buffer
        → frames_renumbered before shift file (suc count) at (put (operations_bytes 2 frame.0 ++ frames_bytes 2 others) (at + 2 + shift) buffer)
        ≡ put (operations_bytes 2 (map (renumbered before) frame.0) ++ frames_bytes 2 (map (map (renumbered before)) others)) (at + 2 + shift) buffer
    unfolding frames_renumbered address_width
    behind_count count at frame others buffer inside here more fits =
        let old = operations_bytes 2 frame.0 in
        let new = operations_bytes 2 (map (renumbered before) frame.0) in
        let others-old = frames_bytes 2 others in
        let others-new = frames_bytes 2 (map (map (renumbered before)) others) in
        let place = at + 2 + shift in
        let goes = goes_on_lem file at (omega arith) small in
        let walked = operations_next setting file (length file) (be 2 file at) (at + 2) frame small (le_refl (length file)) other here in
        let there : items_walked 3 file (be 2 file at) (at + 2) ≡ frame.1 = sym (walked ∙ ap (λ (v : ℕ). items_walked (address_width v) file (be 2 file at) (at + 2)) two) in
        let long-read = operations_long setting file (length file) (be 2 file at) (at + 2) frame here in
        let size : frame.1 ≡ at + 2 + length old = long-read ∙ ap (λ (v : ℕ). at + 2 + length (operations_bytes v frame.0)) two in
        let same = operations_renumbered before frame.0 in
        let same' = frames_renumbered_lem before others in
        let long = length-append old others-old in
        let long' = length-append new others-old in
        let long'' = length-append new others-new in
        let front = put new place buffer in
        let kept = length_put new place buffer in
        let put-at : place + length new ≡ frame.1 + shift = omega arith in
        let copied = put (old ++ others-old) place buffer in
        let done = items_renumbered before shift file (be 2 file at) (at + 2) copied in
        ap (λ (b : Bool). cond b (frames_renumbered before shift file count (items_walked 3 file (be 2 file at) (at + 2)) done) copied) goes
        ∙ ap (λ (k : ℕ). frames_renumbered before shift file count k done) there
        ∙ ap (frames_renumbered before shift file count frame.1)
        (items_are (length file) (be 2 file at) (at + 2) frame others-old buffer (le_refl (length file)) here fits ∙ put_append new others-old place buffer (omega arith))
        ∙ ap (λ (k : ℕ). frames_renumbered before shift file count frame.1 (put others-old k front)) put-at
        ∙ more front (omega arith)
        ∙ ap (λ (k : ℕ). put others-new k front) (sym put-at)
        ∙ sym (put_append new others-new place buffer (omega arith))

    -- a frame, whose count stays, and those behind it
    frame_and_more : (count at : ℕ) (frame : List Operation × ℕ) (others : List (List Operation)) (buffer : List ℕ) → at + 2 ≤ length file
        → operations_from setting file (length file) (be 2 file at) (at + 2) ≡ ok frame → ((l : List ℕ) → FramesAre count frame.1 others l)
        → FramesAre (suc count) at (frame.0 ∷ others) buffer
    unfolding frames_bytes
    frame_and_more count at frame others buffer inside here more fits =
        let number = bytes_of_all (u16 (length frame.0) ∷ []) in
        let number' = bytes_of_all (u16 (length (map (renumbered before) frame.0)) ∷ []) in
        let old = operations_bytes 2 frame.0 ++ frames_bytes 2 others in
        let new = operations_bytes 2 (map (renumbered before) frame.0) ++ frames_bytes 2 (map (map (renumbered before)) others) in
        let two_bytes : length number ≡ 2 = fields_size_lem (u16 (length frame.0) ∷ []) in
        let stays : number ≡ number' = ap (λ (n : ℕ). bytes_of_all (u16 n ∷ [])) (sym (length-map frame.0 (renumbered before))) in
        let same : length new ≡ length old =
        length-append (operations_bytes 2 (map (renumbered before) frame.0)) (frames_bytes 2 (map (map (renumbered before)) others))
        ∙ (λ i. operations_renumbered before frame.0 i + frames_renumbered_lem before others i)
        ∙ sym (length-append (operations_bytes 2 frame.0) (frames_bytes 2 others)) in
        let front = put number (at + shift) buffer in
        let kept = length_put number (at + shift) buffer in
        let long = length-append number old in
        let long' = length-append number new in
        let put-at : at + shift + 2 ≡ at + 2 + shift = omega arith in
        ap (frames_renumbered before shift file (suc count) at) (put_next number old (at + shift) 2 buffer two_bytes fits ∙ ap (λ (k : ℕ). put old k front) put-at)
        ∙ behind_count count at frame others front inside here more (omega arith)
        ∙ ap (λ (k : ℕ). put new k front) (sym put-at)
        ∙ sym (put_next number new (at + shift) 2 buffer two_bytes (omega arith))
        ∙ ap (λ (l : List ℕ). put (l ++ new) (at + shift) buffer) stays

    -- so many frames
    pub frames_are : (count at : ℕ) (found : List (List Operation) × ℕ) (buffer : List ℕ) → frames_from setting file count at ≡ ok found
        → FramesAre count at found.0 buffer
    unfolding frames_from frames_bytes frames_renumbered
    frames_are zero at found buffer e =
        subst (λ (l : List (List Operation)). FramesAre 0 at l buffer) (ap (λ (f : List (List Operation) × ℕ). f.0) (ok_is e)) (λ fits. refl)
    frames_are (suc count) at found buffer e =
        let step = frame_step setting file count at found e in
        subst (λ (l : List (List Operation)). FramesAre (suc count) at l buffer) (ap (λ (f : List (List Operation) × ℕ). f.0) step.is)
        (frame_and_more count at step.frame step.others.0 buffer step.room step.here
        (λ l. frames_are count step.frame.1 step.others l step.from))
