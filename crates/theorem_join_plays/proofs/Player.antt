-- A player of a joined file gives the vsyncs of both pieces.
use Prim.Native.Nat.{ℕ, zero, suc, ◌+◌, ◌*◌, ◌<◌}
use mathlib.Core.List.{List, []}
use mathlib.Core.Path.{◌≡◌, refl, sym, ap, ◌∙◌, subst₂}
use native.Mathlib.Nat.{add-zero}
use native.Mathlib.Omega.{arith}
use lib.ListN.{length, get_or}
use Rattle.base_format.specs.declared.operation.WriteRecord.{WriteRecord}
use Rattle.base_format.specs.Bytes.{AllBytes}
use Rattle.base_format.specs.Checked.{Checked}
use Rattle.base_format.specs.Listener.{Call, AllAdmissible, answers, completed, vsync_records, vsyncs_from}
use Rattle.base_format.specs.Player.{Played}
use Rattle.base_format.specs.State.{started}
use Rattle.base_format.specs.Stream.{Stream}
use Rattle.base_format.specs.Writes.{vsync}
use Rattle.join_stream.specs.Join.{joined}
use Rattle.join_stream.specs.Promises.{PlaysBoth}
use Rattle.join_stream.proofs.Join.{Joins, joins_exactly, join_reads, stream_in_lem}
use Rattle.join_stream.proofs.Played.{join_plays}
use Rattle.theorem_join_plays.specs.Promises.{GaveBoth, JoinPlaysBoth}
use Rattle.theorem_same_sound.proofs.Player.{each_vsync}

-- so many vsyncs of a stream
vsyncs_long : (s : Stream) (k count : ℕ) → length (vsyncs_from s k count) ≡ count
unfolding vsyncs_from
vsyncs_long s k zero = refl
vsyncs_long s k (suc count) = ap suc (vsyncs_long s (suc k) count)

-- and one of them
vsyncs_at : (s : Stream) (k count i : ℕ) → i < count → get_or (vsyncs_from s k count) i [] ≡ vsync s (k + i)
unfolding vsyncs_from
vsyncs_at s k zero i less = absurd (omega arith)
vsyncs_at s k (suc count) zero less = ap (vsync s) (sym (add-zero k))
vsyncs_at s k (suc count) (suc i) less =
    let place : suc k + i ≡ k + suc i = omega arith in
    vsyncs_at s (suc k) count i (omega arith) ∙ ap (vsync s) place

-- every list of calls of a player of a joined file gives the vsyncs of the two streams joined
pub joined_player : {file file' : List ℕ} {room : ℕ} {bytes : List ℕ} → AllBytes file → AllBytes file' → (j : Joins file file' room bytes)
    → (calls : List Call) → AllAdmissible bytes (started bytes) calls
    → vsync_records (answers (started bytes) calls) ≡ vsyncs_from (joined j.a j.b) 0 (completed (answers (started bytes) calls))
joined_player {file} {file'} {room} {bytes} all all' j calls admissible = each_vsync bytes (joined j.a j.b) (join_reads all all' j) calls admissible

-- and so those of both
gave_both : (a b whole : Stream) → PlaysBoth a b whole → (told : List (Checked Played)) → vsync_records told ≡ vsyncs_from whole 0 (completed told) → GaveBoth a b told
gave_both a b whole plays told are =
    record {
      each_completed = ap length are ∙ vsyncs_long whole 0 (completed told);
      firsts = λ k within less. at k less ∙ plays.firsts k within;
      seconds = λ pass k within either less. at _ less ∙ ap (λ (n : ℕ). vsync whole (pass * n + (length a.frames + k))) (sym plays.length_both) ∙ plays.seconds pass k within either;
      again = λ pass k within repeats less. at _ less ∙ ap (λ (n : ℕ). vsync whole (suc pass * n + k)) (sym plays.length_both) ∙ plays.again pass k within repeats;
      closes = λ k once less. at _ less ∙ ap (λ (n : ℕ). vsync whole (n + k)) (sym plays.length_both) ∙ plays.closes k once;
    }
  where
    at : (n : ℕ) → n < completed told → get_or (vsync_records told) n [] ≡ vsync whole n
    at n less = ap (λ (l : List (List WriteRecord)). get_or l n []) are ∙ vsyncs_at whole 0 (completed told) n less ∙ ap (vsync whole) (omega arith)

pub join_plays_both : JoinPlaysBoth
join_plays_both file file' bytes room all all' made calls admissible =
    let j = (joins_exactly file file' room bytes).0 made in
    let told = answers (started bytes) calls in
    subst₂ (λ (a b : Stream). GaveBoth a b told) (sym (stream_in_lem file j.a j.reads)) (sym (stream_in_lem file' j.b j.reads'))
    (gave_both j.a j.b (joined j.a j.b) (join_plays all all' j).1 told (joined_player all all' j calls admissible))
