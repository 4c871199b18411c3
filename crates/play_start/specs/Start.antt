-- What a start says of a file.
use Rattle.std.specs.Prelude.{false}
use Rattle.base_format.specs.declared.player.StreamPlayer.{StreamPlayer}
use Rattle.base_format.specs.Checked.{Checked, mapped}
use Rattle.base_format.specs.State.{unplayed}
use Rattle.base_format.specs.Stream.{Stream}
use Rattle.check_file.specs.declared.check.Recorded.{Recorded}

-- the verdict on a file that is read
abbrev pub verdict_in : Checked Stream → Checked (Unit {0})
verdict_in found = mapped (λ (s : Stream). tt) found

-- the state of a file that was recorded
abbrev pub recorded_player : Recorded → StreamPlayer
recorded_player found =
    record { header = found.header; cards = found.cards; uses_si22 = found.uses_si22; progress = unplayed false found.header.frame_start }
