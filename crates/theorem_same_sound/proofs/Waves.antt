-- `wave_source` at every moment: what a state holds for a channel is the pool last copied to it, by the stream alone.
use Prim.Native.Nat.{ℕ, zero, suc, ◌+◌, ◌-◌, ◌*◌, ◌%◌, ◌/◌, ◌<◌}
use mathlib.Core.Bool.{Bool, true, false, cond, ◌&&◌, true≢false}
use mathlib.Core.List.{List, [], ◌∷◌, ◌++◌}
use Rattle.std.specs.Prelude.{Option, Some, None}
use mathlib.Core.Path.{◌≡◌, refl, sym, ap, subst, ◌∙◌}
use native.Mathlib.Omega.{arith}
use borrow.Author.Tests.{eqb-true, eqb-false, lt-ltb}
use lib.Dec.{eqb, ltb}
use lib.ListN.{length, get_or, set, length-set}
use lib.Seq.{get_or-set_same, get_or-set_other}
use Rattle.base_format.specs.declared.operation.Operation.{Operation}
use Rattle.base_format.specs.declared.operation.Operation.TheVariants.{Write, Fill, Copy}
use Rattle.base_format.specs.declared.player.WaveSource.{WaveSource}
use Rattle.base_format.specs.Checked.{ok, refused}
use Rattle.base_format.specs.Header.{header_of}
use Rattle.base_format.specs.Operation.{allowed}
use Rattle.base_format.specs.Player.{waves_by}
use Rattle.base_format.specs.Pool.{no_pool, pool_at}
use Rattle.base_format.specs.State.{no_wave, pool_in}
use Rattle.base_format.specs.Stream.{Stream, operations_from, frames_from}
use Rattle.base_format.specs.Steps.{Answer, of_call, of_jump, vsync_of_frame}
use Rattle.base_format.specs.WaveSources.{copied_by, last_copied, begun, begun_by}
use Rattle.base_format.specs.Writes.{WhichVsync, first, later, vsync_behind, writes_of, operations_in}
use Rattle.base_format.proofs.Accepted.{Accepted}
use Rattle.base_format.proofs.Checks.{ok_is}
use Rattle.base_format.proofs.Rules.{copy_allowed}
use Rattle.base_format.proofs.Steps.{operation_step, frame_step}
use Rattle.play_laws.proofs.Used.{item_is, pool_is}
use Rattle.play_laws.proofs.PlannedOperations.{wave_channel}
use Rattle.theorem_same_sound.proofs.Course.{waves_on, waves_by_all}
use Rattle.theorem_same_sound.proofs.Gather.{own}

-- WHAT THE RULES LEAVE OF A COPY

-- its pool has the kind of its entry, and a wave goes to one of 2 × 8 channels
abbrev Kept : List ℕ → Stream → Operation → Type 0
Kept file s (Write target address value) = Unit {0}
Kept file s (Fill target address size value) = Unit {0}
Kept file s (Copy target address id source size) =
    let kind = (pool_at file (header_of file).directory_offset id).kind in
    ((get_or s.pools id no_pool).kind ≡ kind) × (kind ≡ 1 → (target < 2) × (address / 256 < 8))

abbrev pub AllKept : List ℕ → Stream → List Operation → Type 0
AllKept file s [] = Unit {0}
AllKept file s (operation ∷ more) = Kept file s operation × AllKept file s more

pub kept_append : (file : List ℕ) (s : Stream) (a b : List Operation) → AllKept file s a → AllKept file s b → AllKept file s (a ++ b)
kept_append file s [] b all all' = all'
kept_append file s (operation ∷ a) b all all' = (all.0, kept_append file s a b all.1 all')

pub kept_begun : (file : List ℕ) (s : Stream) (n : ℕ) (operations : List Operation) → AllKept file s operations → AllKept file s (begun s.pools n operations)
unfolding begun
kept_begun file s n [] all = tt
kept_begun file s n (operation ∷ more) all = go (eqb n 0) (kept_begun file s (n - length (writes_of s.pools operation)) more all.1)
  where
    others : List Operation
    others = begun s.pools (n - length (writes_of s.pools operation)) more

    go : (b : Bool) → AllKept file s others → AllKept file s (cond b [] (operation ∷ others))
    go true all' = tt
    go false all' = (all.0, all')

module _ (file : List ℕ) (s : Stream) (acc : Accepted file (header_of file) s) where
  kept : (place : ℕ) (operation : Operation) → allowed (own file s) place operation ≡ ok tt → Kept file s operation
  unfolding allowed
  kept place (Write target address value) e = tt
  kept place (Fill target address size value) e = tt
  kept place (Copy target address id source size) e =
      let rules = copy_allowed place (header_of file).version (header_of file).pool_count _ address id _ source size e in (
        (pool_is file (header_of file) s acc id rules.known).kind,
        wave_channel place (header_of file).version (header_of file).pool_count s.cards target address id (pool_at file (header_of file).directory_offset id) source size e,
      )

  operations_kept : (limit left cursor : ℕ) (found : List Operation × ℕ) → operations_from (own file s) file limit left cursor ≡ ok found → AllKept file s found.0
  unfolding operations_from
  operations_kept limit zero cursor found e = subst (λ (x : List Operation × ℕ). AllKept file s x.0) (ok_is e) tt
  operations_kept limit (suc left) cursor found e =
      let step = operation_step (own file s) file limit left cursor found e in
      let is = item_is (own file s) file limit cursor step.item step.here in
      subst (λ (x : List Operation × ℕ). AllKept file s x.0) step.is
      (kept is.place step.item.operation is.fine, operations_kept limit left step.item.next step.others step.from)

  frames_kept : (count cursor : ℕ) (found : List (List Operation) × ℕ) → frames_from (own file s) file count cursor ≡ ok found → (k : ℕ) → AllKept file s (get_or found.0 k [])
  unfolding frames_from
  frames_kept zero cursor found e k = subst (λ (x : List (List Operation) × ℕ). AllKept file s (get_or x.0 k [])) (ok_is e) (nothing k)
    where
      nothing : (k : ℕ) → AllKept file s (get_or [] k [])
      nothing zero = tt
      nothing (suc k) = tt
  frames_kept (suc count) cursor found e k =
      let step = frame_step (own file s) file count cursor found e in
      subst (λ (x : List (List Operation) × ℕ). AllKept file s (get_or x.0 k [])) step.is
      (go step.frame.0 step.others.0 k (operations_kept (length file) _ _ step.frame step.here) (frames_kept count step.frame.1 step.others step.from))
    where
      go : (frame : List Operation) (others : List (List Operation)) (k : ℕ) → AllKept file s frame → ((k : ℕ) → AllKept file s (get_or others k [])) → AllKept file s (get_or (frame ∷ others) k [])
      go frame others zero here more = here
      go frame others (suc k) here more = more k

  either : (b : Bool) (x y : List Operation) → AllKept file s x → AllKept file s y → AllKept file s (cond b x y)
  either true x y h h' = h
  either false x y h h' = h'

  vsync_kept : (which : WhichVsync) → AllKept file s (operations_in s which)
  unfolding operations_in
  vsync_kept which = go which
    where
      frame : (k : ℕ) → AllKept file s (get_or s.frames k [])
      frame k = frames_kept (header_of file).frame_count (header_of file).frame_start (s.frames, length file) acc.frames k

      go : (which : WhichVsync) → AllKept file s (operations_in s which)
      go first =
          kept_append file s s.opening _
          (operations_kept _ (header_of file).initial_count (header_of file).initial_start (s.opening, (header_of file).frame_start) acc.opening) (frame 0)
      go (later k) = either s.repeat _ _ (frame (k % length s.frames)) (either (ltb k (length s.frames)) _ _ (frame k) tt)

  pub begun_kept : (which : WhichVsync) (n : ℕ) (told : List Answer) → AllKept file s (begun_by s which n told)
  unfolding begun_by
  begun_kept which n [] = kept_begun file s n (operations_in s which) (vsync_kept which)
  begun_kept which n (of_call (refused number place) ∷ more) = begun_kept which n more
  begun_kept which n (of_call (ok answer) ∷ more) =
      either answer.complete _ _
      (kept_append file s (operations_in s which) (begun_by s (vsync_behind which) 0 more) (vsync_kept which) (begun_kept (vsync_behind which) 0 more))
      (begun_kept which (n + length answer.records) more)
  begun_kept which n (of_jump frame (refused number place) ∷ more) = begun_kept which n more
  begun_kept which n (of_jump frame (ok next) ∷ more) =
      kept_append file s (begun s.pools n (operations_in s which)) (begun_by s (vsync_of_frame frame) 0 more)
      (kept_begun file s n (operations_in s which) (vsync_kept which)) (begun_kept (vsync_of_frame frame) 0 more)

-- THE POOL LAST COPIED

-- sixteen sources, of which one is the channel's
module _ (file : List ℕ) (s : Stream) (core channel : ℕ) (low : core < 2) (few : channel < 8) where
  abbrev seen : List WaveSource → Option ℕ
  seen waves = pool_in (get_or waves (core * 8 + channel) no_wave)

  copied_there : (target address id : ℕ) (waves : List WaveSource) → length waves ≡ 16 → target < 2 → address / 256 < 8
      → seen (set waves (target * 8 + address / 256) (record { copied = true; pool = id })) ≡ cond (eqb target core && eqb (address / 256) channel) (Some id) (seen waves)
  copied_there target address id waves long low' few' = go (eqb target core) refl (eqb (address / 256) channel) refl
    where
      x : WaveSource
      x = record { copied = true; pool = id }

      other : (target * 8 + address / 256 ≡ core * 8 + channel → ⊥) → seen (set waves (target * 8 + address / 256) x) ≡ seen waves
      other apart = ap pool_in (get_or-set_other waves (target * 8 + address / 256) (core * 8 + channel) x no_wave (λ (e : core * 8 + channel ≡ target * 8 + address / 256). apart (sym e)))

      go : (b : Bool) → eqb target core ≡ b → (c : Bool) → eqb (address / 256) channel ≡ c → seen (set waves (target * 8 + address / 256) x) ≡ cond (b && c) (Some id) (seen waves)
      go true e true e' =
          let here : target * 8 + address / 256 ≡ core * 8 + channel = omega (arith, eqb-true target core e, eqb-true (address / 256) channel e') in
          rw here (ap pool_in (get_or-set_same waves (core * 8 + channel) x no_wave (omega (arith, long))))
      go true e false e' = other (λ (h : target * 8 + address / 256 ≡ core * 8 + channel). eqb-false (address / 256) channel e' (omega (arith, eqb-true target core e)))
      go false e c e' = other (λ (h : target * 8 + address / 256 ≡ core * 8 + channel). eqb-false target core e (omega arith))

  one_copied : (operation : Operation) (waves : List WaveSource) → Kept file s operation → length waves ≡ 16
      → (seen (waves_on file operation waves) ≡ copied_by s.pools core channel operation (seen waves)) × (length (waves_on file operation waves) ≡ 16)
  unfolding waves_by copied_by
  one_copied (Write target address value) waves k long = (refl, long)
  one_copied (Fill target address size value) waves k long = (refl, long)
  one_copied (Copy target address id source size) waves k long =
      rw k.0 (go (eqb (pool_at file (header_of file).directory_offset id).kind 1) refl)
    where
      to : List WaveSource
      to = set waves (target * 8 + address / 256) (record { copied = true; pool = id })

      go : (b : Bool) → eqb (pool_at file (header_of file).directory_offset id).kind 1 ≡ b
          → (seen (cond b to waves) ≡ cond (b && eqb target core && eqb (address / 256) channel) (Some id) (seen waves)) × (length (cond b to waves) ≡ 16)
      go true e =
          let place = k.1 (eqb-true _ _ e) in
          (copied_there target address id waves long place.0 place.1, length-set waves _ _ ∙ long)
      go false e = (refl, long)

  pub all_copied : (operations : List Operation) (waves : List WaveSource) → AllKept file s operations → length waves ≡ 16
      → seen (waves_by_all file operations waves) ≡ last_copied s.pools core channel operations (seen waves)
  unfolding waves_by_all last_copied
  all_copied [] waves all long = refl
  all_copied (operation ∷ more) waves all long =
      let one = one_copied operation waves all.0 long in
      all_copied more (waves_on file operation waves) all.1 one.1 ∙ ap (last_copied s.pools core channel more) one.0

-- outside 2 × 8 nothing is copied
pub none_copied : (file : List ℕ) (s : Stream) (core channel : ℕ) → (ltb core 2 && ltb channel 8) ≡ false → (operations : List Operation) → AllKept file s operations
    → last_copied s.pools core channel operations None ≡ None
unfolding last_copied copied_by
none_copied file s core channel out [] all = refl
none_copied file s core channel out (Write target address value ∷ more) all = none_copied file s core channel out more all.1
none_copied file s core channel out (Fill target address size value ∷ more) all = none_copied file s core channel out more all.1
none_copied file s core channel out (Copy target address id source size ∷ more) all =
    rw all.0.0 (ap (last_copied s.pools core channel more) (go (eqb (pool_at file (header_of file).directory_offset id).kind 1) refl (eqb target core) refl (eqb (address / 256) channel) refl))
    ∙ none_copied file s core channel out more all.1
  where
    go : (a : Bool) → eqb (pool_at file (header_of file).directory_offset id).kind 1 ≡ a → (b : Bool) → eqb target core ≡ b → (c : Bool) → eqb (address / 256) channel ≡ c
        → cond (a && b && c) (Some id) None ≡ None
    go true e true e' true e'' =
        let place = all.0.1 (eqb-true (pool_at file (header_of file).directory_offset id).kind 1 e) in
        let core-low : ltb core 2 ≡ true = lt-ltb core 2 (omega (arith, place.0, eqb-true target core e')) in
        let channel-low : ltb channel 8 ≡ true = lt-ltb channel 8 (omega (arith, place.1, eqb-true (address / 256) channel e'')) in
        absurd (true≢false (sym (rw (core-low, channel-low)) ∙ out))
    go true e true e' false e'' = refl
    go true e false e' c e'' = refl
    go false e b e' c e'' = refl
