-- The state of a start, by what the file check says.
use Rattle.std.proofs.Common.{◌≡◌, List, ℕ, ap, ◌∙◌}
use Rattle.base_format.specs.declared.rule.Refusal.{Refusal}
use Rattle.base_format.specs.Checked.{ok}
use Rattle.base_format.specs.Rule.{refusal}
use Rattle.base_format.specs.State.{player_of, refused_player, started_as, started}
use Rattle.base_format.specs.Stream.{read}
use Rattle.check_file.specs.declared.check.Recorded.{Recorded}
use Rattle.check_file.specs.Answer.{recorded}
use Rattle.check_file.proofs.Answers.{accepted_as_lem, refused_as_lem}
use Rattle.play_start.specs.Start.{recorded_player, verdict_in}

-- an accepted file is recorded
pub started_accepted : (file : List ℕ) (found : Recorded) → ok found ≡ recorded file → (ok tt ≡ verdict_in (read file)) × (recorded_player found ≡ started file)
unfolding started_as player_of
started_accepted file found e = let a = accepted_as_lem file e in (rw a.reads, ap recorded_player a.is ∙ rw a.reads)

-- a refused file gives the refused player
pub started_refused : (file : List ℕ) (why : Refusal) → refusal why ≡ recorded file → (refusal why ≡ verdict_in (read file)) × (refused_player ≡ started file)
unfolding started_as
started_refused file why e = let found = refused_as_lem file why e in (rw found, rw found)
