-- What the answer of `compile_song_v2` says of the bytes in the buffer: they are the repacked file, which is accepted, reads as the
-- repacked stream, and passes the comparison with its master.
use Prim.Native.Nat.{ℕ, ◌≤◌}
use mathlib.Core.Path.{◌≡◌, refl, sym, ap, ◌∙◌}
use mathlib.Core.Bool.{true}
use mathlib.Core.List.{List}
use lib.Dec.{ltb}
use lib.ListN.{length, take, drop}
use lib.Seq.{take_at}
use Rattle.std.specs.Prelude.{Ok}
use Rattle.base_format.specs.Bytes.{AllBytes}
use Rattle.base_format.specs.Checked.{Checked, ok, refused, mapped}
use Rattle.base_format.specs.Compare.{compared, agreed}
use Rattle.base_format.specs.Lent.{lent_after}
use Rattle.base_format.specs.Repack.{repack, repack_into}
use Rattle.base_format.specs.Size.{pcm_size}
use Rattle.base_format.proofs.Checks.{ok_is, refused_not_ok, through, passed_test}
use Rattle.theorem_one_reading.proofs.Repacked.{repack_passes}
use Rattle.repack_ordered.specs.Answer.{Repacks}

-- so many bytes at the buffer's start are the repacked file
pub record Compiled (file buffer' : List ℕ) (size : ℕ) : Type 0 where
  pub made : repack file ≡ ok (take size buffer')
  pub long : length (take size buffer') ≡ size

into_made : (file result : List ℕ) (room : ℕ) → repack_into file room ≡ ok result → repack file ≡ ok result
unfolding repack_into
into_made file result room e =
    let first = through (repack file) _ e in
    first.is ∙ (passed_test 24 0 (ltb room (length first.value)) first.then).1

pub compiled : (file buffer buffer' : List ℕ) (size : ℕ) → Repacks file buffer buffer' (Ok size) → Compiled file buffer' size
compiled file buffer buffer' size answer = go (repack_into file (length buffer)) refl
  where
    go : (x : Checked (List ℕ)) → repack_into file (length buffer) ≡ x → Compiled file buffer' size
    go (ok result) e =
        let long : length result ≡ size = sym (ok_is (answer.0 ∙ ap (mapped length) e)) in
        let stands = answer.1 ∙ ap (λ (c : Checked (List ℕ)). lent_after (λ (r : List ℕ). r) c buffer) e in
        let is : take size buffer' ≡ result = ap (take size) stands ∙ take_at result (drop (length result) buffer) size long in
        record { made = into_made file result (length buffer) e ∙ ap ok (sym is); long = ap length is ∙ long }
    go (refused number place) e = absurd (refused_not_ok (sym (answer.0 ∙ ap (mapped length) e)))

-- with images long enough the comparison passes it
pub compiled_passes : (file buffer buffer' : List ℕ) (size image image' : ℕ) → Repacks file buffer buffer' (Ok size) → AllBytes file → pcm_size ≤ image → pcm_size ≤ image'
    → compared file (take size buffer') image image' ≡ agreed true
compiled_passes file buffer buffer' size image image' answer bytes room room' =
    (repack_passes file (take size buffer') image image' bytes (compiled file buffer buffer' size answer).made).1 room room'
