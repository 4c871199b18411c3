-- `wave_source` after any list of steps: it comes from the operations whose first write was made.
use Prim.Native.Nat.{ℕ, ◌+◌, ◌*◌, ◌<◌}
use mathlib.Core.Bool.{Bool, true, false, cond, ◌&&◌}
use mathlib.Core.List.{List}
use Rattle.std.specs.Prelude.{None}
use mathlib.Core.Path.{◌≡◌, refl, sym, ap, ◌∙◌}
use native.Mathlib.Omega.{arith}
use borrow.Author.Tests.{ltb-true}
use lib.Dec.{ltb}
use lib.ListN.{get_or, replicate, get_or-replicate}
use Rattle.base_format.specs.declared.operation.Operation.{Operation}
use Rattle.base_format.specs.declared.player.StreamPlayer.{StreamPlayer}
use Rattle.base_format.specs.declared.player.WaveSource.{WaveSource}
use Rattle.base_format.specs.Promises.{WaveSourceOfSteps}
use Rattle.base_format.specs.State.{no_wave, pool_in, started, wave_source}
use Rattle.base_format.specs.Steps.{step_answers, reached_by}
use Rattle.base_format.specs.Stream.{Stream}
use Rattle.base_format.specs.WaveSources.{last_copied, begun_by, wave_source_behind}
use Rattle.base_format.specs.Writes.{first}
use Rattle.base_format.proofs.Accepted.{accepted}
use Rattle.base_format.proofs.Checks.{and_true}
use Rattle.theorem_same_sound.proofs.Course.{waves_by_all}
use Rattle.theorem_same_sound.proofs.Steps.{from_start}
use Rattle.theorem_same_sound.proofs.Waves.{AllKept, begun_kept, all_copied, none_copied}

module _ (file : List ℕ) (s : Stream) where
  nothing_yet : (core channel : ℕ) → core < 2 → channel < 8 → pool_in (get_or (replicate 16 no_wave) (core * 8 + channel) no_wave) ≡ None
  nothing_yet core channel low few = ap pool_in (get_or-replicate 16 (core * 8 + channel) no_wave no_wave (omega arith))

  -- a state whose wave sources were set by these operations
  source_is : (state : StreamPlayer) (made : List Operation) → AllKept file s made → state.progress.wave_sources ≡ waves_by_all file made (replicate 16 no_wave)
      → (core channel : ℕ) → wave_source state core channel ≡ last_copied s.pools core channel made None
  unfolding wave_source
  source_is state made kept is core channel = go (ltb core 2 && ltb channel 8) refl
    where
      go : (b : Bool) → (ltb core 2 && ltb channel 8) ≡ b
          → cond b (pool_in (get_or state.progress.wave_sources (core * 8 + channel) no_wave)) None ≡ last_copied s.pools core channel made None
      go true e =
          let inside = and_true _ _ e in
          ap (λ (waves : List WaveSource). pool_in (get_or waves (core * 8 + channel) no_wave)) is
          ∙ all_copied file s core channel (ltb-true core 2 inside.0) (ltb-true channel 8 inside.1) made (replicate 16 no_wave) kept refl
          ∙ ap (last_copied s.pools core channel made) (nothing_yet core channel (ltb-true core 2 inside.0) (ltb-true channel 8 inside.1))
      go false e = sym (none_copied file s core channel e made kept)

pub wave_source_of_steps : WaveSourceOfSteps
unfolding wave_source_behind
wave_source_of_steps file s reads steps admissible core channel =
    let told = step_answers (started file) steps in
    source_is file s (reached_by (started file) steps) (begun_by s first 0 told) (begun_kept file s (accepted file s reads).0 first 0 told)
    ((from_start file s reads steps admissible).sources refl) core channel
