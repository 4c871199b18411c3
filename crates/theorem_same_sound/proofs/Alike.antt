-- Streams that agree sound the same.
use Prim.Native.Nat.{ℕ, ◌%◌}
use mathlib.Core.Bool.{Bool, true, false, cond}
use mathlib.Core.List.{List, [], ◌∷◌, ◌++◌}
use mathlib.Core.Path.{◌≡◌, refl, sym, ap, ap₂, ◌∙◌}
use lib.Dec.{eqb, ltb}
use lib.ListN.{length, replicate}
use Rattle.base_format.specs.declared.operation.WriteRecord.{WriteRecord}
use Rattle.base_format.specs.Compare.{core_writes, played}
use Rattle.base_format.specs.Listener.{Listener, new_listener}
use Rattle.base_format.specs.Steps.{writes_in_all}
use Rattle.base_format.specs.Stream.{Stream}
use Rattle.base_format.specs.Writes.{opening_writes, frame_writes, uses_si22, silence, closing_writes, closing, WhichVsync, first, later, writes_in}
use Rattle.base_format.specs.Promises.{Agree}
use Rattle.base_format.proofs.Equal.{core_append, played_append}
use Rattle.theorem_same_sound.proofs.Heard.{heard_vsyncs, between}
use Rattle.theorem_same_sound.proofs.Which.{OnlyLater, LaterBehind}

-- two lists of writes that a listener cannot tell apart
pub record Alike (a b : List WriteRecord) : Type 0 where
  pub cores : core_writes a ≡ core_writes b
  pub pcm : (memory : List ℕ) → played memory a ≡ played memory b

alike_refl : {a b : List WriteRecord} → a ≡ b → Alike a b
alike_refl e = record { cores = ap core_writes e; pcm = λ memory. ap (played memory) e }

closing_alike : (synth synth' : Bool) → Alike (closing_writes synth) (closing_writes synth')
unfolding closing_writes silence core_writes played
closing_alike true true = record { cores = refl; pcm = λ memory. refl }
closing_alike true false = record { cores = refl; pcm = λ memory. refl }
closing_alike false true = record { cores = refl; pcm = λ memory. refl }
closing_alike false false = record { cores = refl; pcm = λ memory. refl }

-- a vsync without the opening
alike_later : (s s' : Stream) → Agree s s' → (k : ℕ) → Alike (writes_in s (later k)) (writes_in s' (later k))
unfolding writes_in closing
alike_later s s' a k =
    rw (a.repeat, a.count) (go s'.repeat (ltb k (length s'.frames)) (eqb k (length s'.frames)))
  where
    go : (again within after : Bool)
        → Alike (cond again (frame_writes s (k % length s'.frames)) (cond within (frame_writes s k) (cond after (closing_writes (uses_si22 s)) [])))
        (cond again (frame_writes s' (k % length s'.frames)) (cond within (frame_writes s' k) (cond after (closing_writes (uses_si22 s')) [])))
    go true within after = alike_refl (a.frame _)
    go false true after = alike_refl (a.frame _)
    go false false true = closing_alike _ _
    go false false false = alike_refl refl

-- vsyncs without the opening leave two listeners that held the same with the same
later_alike : (s s' : Stream) → Agree s s' → (vsyncs : List WhichVsync) → OnlyLater vsyncs → (l l' : Listener) → l ≡ l' → heard_vsyncs l (writes_in_all s vsyncs) ≡ heard_vsyncs l' (writes_in_all s' vsyncs)
unfolding heard_vsyncs
later_alike s s' a [] only l l' e = e
later_alike s s' a (first ∷ vsyncs) only l l' e = absurd only
later_alike s s' a (later k ∷ vsyncs) only l l' e =
    let alike = alike_later s s' a k in
    let ended = ap₂ (λ (l : Listener) (v : List WriteRecord). l.ended ++ (v ∷ [])) e alike.cores in
    let pcm = ap (λ (l : Listener). played l.pcm (writes_in s (later k))) e ∙ alike.pcm l'.pcm in
    later_alike s s' a vsyncs only _ _ (ap₂ between ended pcm)

-- the first vsync of a start
first_alike : (s s' : Stream) → Agree s s'
    → between (core_writes (writes_in s first) ∷ []) (played (replicate 1048576 0x80) (writes_in s first))
    ≡ between (core_writes (writes_in s' first) ∷ []) (played (replicate 1048576 0x80) (writes_in s' first))
unfolding writes_in
first_alike s s' a =
    let cores = core_append (opening_writes s) (frame_writes s 0) ∙ ap₂ ◌++◌ a.cores (ap core_writes (a.frame 0)) ∙ sym (core_append (opening_writes s') (frame_writes s' 0)) in
    let pcm = played_append (replicate 1048576 0x80) (opening_writes s) (frame_writes s 0) ∙ ap₂ played a.image (a.frame 0) ∙ sym (played_append _ (opening_writes s') (frame_writes s' 0)) in
    ap₂ (λ (v : List WriteRecord) (pcm : List ℕ). between (v ∷ []) pcm) cores pcm

-- and so do all of them, where only the first has the opening
pub all_alike : (s s' : Stream) → Agree s s' → (vsyncs : List WhichVsync) → LaterBehind vsyncs → heard_vsyncs new_listener (writes_in_all s vsyncs) ≡ heard_vsyncs new_listener (writes_in_all s' vsyncs)
unfolding heard_vsyncs new_listener
all_alike s s' a [] behind = refl
all_alike s s' a (first ∷ vsyncs) behind = later_alike s s' a vsyncs behind _ _ (first_alike s s' a)
all_alike s s' a (later k ∷ vsyncs) behind = later_alike s s' a (later k ∷ vsyncs) behind new_listener new_listener refl
