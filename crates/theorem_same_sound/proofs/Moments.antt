-- The wave sources of a state within a vsync: those when the vsync begins, changed by the operations whose first write is made.
use Prim.Native.Nat.{ℕ, ◌+◌}
use mathlib.Core.List.{List, []}
use mathlib.Core.Path.{◌≡◌, sym, ap, subst, ◌∙◌}
use native.Mathlib.Omega.{arith}
use lib.ListN.{length, get_or, length-append}
use Rattle.base_format.specs.declared.operation.Operation.{Operation}
use Rattle.base_format.specs.declared.operation.WriteRecord.{WriteRecord}
use Rattle.base_format.specs.declared.player.Progress.{Progress}
use Rattle.base_format.specs.declared.player.StreamPlayer.{StreamPlayer}
use Rattle.base_format.specs.declared.player.WaveSource.{WaveSource}
use Rattle.base_format.specs.State.{unplayed, player_of}
use Rattle.base_format.specs.Stream.{Stream}
use Rattle.base_format.specs.WaveSources.{begun}
use Rattle.base_format.specs.Writes.{WhichVsync, writes_of_all, frame_writes, writes_in, operations_in}
use Rattle.theorem_same_sound.proofs.Course.{waves_by_all, Due, course_of, begun_none, along_begun, along_made}
use Rattle.theorem_same_sound.proofs.Gather.{At}
use Rattle.theorem_same_sound.proofs.Phases.{InOpening, Phase, at_start_of_all, at_opening, at_frame, at_between, at_closing, at_over, Holds, first_whole, no_operations}

module _ (file : List ℕ) (s : Stream) where
  -- the wave sources that a vsync begins with, changed by the operations that so many of its writes begin
  abbrev pub waves_at : Due → (n : ℕ) → List WaveSource
  waves_at d n = waves_by_all file (begun s.pools n (operations_in s d.which)) d.waves

  -- none of its operations is begun
  at_none : (d : Due) (n : ℕ) (waves : List WaveSource) → begun s.pools n (operations_in s d.which) ≡ [] → waves ≡ d.waves → waves ≡ waves_at d n
  unfolding waves_by_all
  at_none d n waves empty e = rw empty e

  at_first : (d : Due) (n : ℕ) (waves : List WaveSource) (rest : List WriteRecord) → rest ≡ writes_in s d.which → n + length rest ≡ length (writes_in s d.which) → waves ≡ d.waves
      → waves ≡ waves_at d n
  at_first d n waves rest is made e =
      let zero-made : n ≡ 0 = omega (arith, ap length is, made) in
      at_none d n waves (ap (λ (m : ℕ). begun s.pools m (operations_in s d.which)) zero-made ∙ begun_none s (operations_in s d.which)) e

  -- it has none
  at_end : (d : Due) (n : ℕ) (waves : List WaveSource) → operations_in s d.which ≡ [] → waves ≡ d.waves → waves ≡ waves_at d n
  unfolding begun
  at_end d n waves none e = at_none d n waves (ap (begun s.pools n) none) e

  -- within a part
  at_part : (limit end left cursor writes : ℕ) (pending : List WriteRecord) (waves : List WaveSource) (d : Due) (n : ℕ) (later : List Operation)
      → At file s limit end left cursor writes pending waves (course_of s d later) → writes_in s d.which ≡ writes_of_all s.pools (operations_in s d.which)
      → n + (length pending + length (writes_of_all s.pools later)) ≡ length (writes_in s d.which) → waves ≡ waves_at d n
  at_part limit end left cursor writes pending waves d n later at whole made =
      let those = ap (λ (l : List WriteRecord). n + (length l + length (writes_of_all s.pools later))) (sym at.is) ∙ made ∙ ap length whole in
      along_begun file s d later writes n at.operations waves at.sources at.fits (along_made file s d later writes n at.operations waves at.sources at.fits those)

  in_opening : (p : Progress) (d : Due) (rest : List WriteRecord) (n : ℕ) → InOpening file s p d rest → n + length rest ≡ length (writes_in s d.which) → p.wave_sources ≡ waves_at d n
  in_opening p d rest n inOpening made =
      let long : length rest ≡ length inOpening.pending + length (frame_writes s 0) = ap length inOpening.is ∙ length-append inOpening.pending (frame_writes s 0) in
      let whole = subst (λ (t : WhichVsync). writes_in s t ≡ writes_of_all s.pools (operations_in s t)) (sym inOpening.which) (first_whole s) in
      at_part _ _ _ _ _ inOpening.pending p.wave_sources d n (get_or s.frames 0 []) inOpening.at whole (ap (λ (m : ℕ). n + m) (sym long) ∙ made)

  phase_waves : (p : Progress) (d : Due) (rest : List WriteRecord) (n : ℕ) → Phase file s p d rest → n + length rest ≡ length (writes_in s d.which) → p.wave_sources ≡ waves_at d n
  unfolding unplayed writes_of_all
  phase_waves p d rest n (at_start_of_all e due is) made =
      let sources = ap (λ (p : Progress). p.wave_sources) e ∙ ap (λ (d : Due). d.waves) (sym due) in
      at_first d n p.wave_sources rest (is ∙ ap (λ (d : Due). writes_in s d.which) (sym due)) made sources
  phase_waves p d rest n (at_opening phase) made = in_opening p d rest n phase made
  phase_waves p d rest n (at_frame phase) made = at_part _ _ _ _ _ rest p.wave_sources d n [] phase.at phase.whole (omega (arith, made))
  phase_waves p d rest n (at_between phase) made = at_first d n p.wave_sources rest phase.is made phase.sources
  phase_waves p d rest n (at_closing phase) made =
      at_end d n p.wave_sources (ap (operations_in s) phase.which ∙ no_operations s phase.once (length s.frames) (omega arith)) phase.sources
  phase_waves p d rest n (at_over phase) made =
      at_end d n p.wave_sources (ap (operations_in s) phase.which ∙ no_operations s phase.once phase.number (omega (arith, phase.last))) phase.sources

  -- of the vsync that begins with `d` so many writes are made
  pub state_waves : (state : StreamPlayer) (d : Due) (rest : List WriteRecord) (n : ℕ) → Holds file s state d rest → n + length rest ≡ length (writes_in s d.which)
      → state.progress.wave_sources ≡ waves_at d n
  unfolding player_of
  state_waves state d rest n holds made =
      ap (λ (st : StreamPlayer). st.progress.wave_sources) holds.is ∙ phase_waves holds.progress d rest n holds.phase made
