-- The checks of `read` as the code makes them: no list is built.
use Rattle.std.specs.Prelude.{ℕ, List}
use Rattle.base_format.specs.declared.header.Header.{Header}
use Rattle.base_format.specs.Card.{cards_from}
use Rattle.base_format.specs.Checked.{Checked, ok, mapped, ◌>>=◌, ◌>>◌}
use Rattle.base_format.specs.Header.{header_from}
use Rattle.base_format.specs.Operation.{setting_of}
use Rattle.base_format.specs.State.{table_of}
use Rattle.check_tables.specs.Layout.{layout_from}
use Rattle.check_body.specs.Walk.{body_from}
use Rattle.check_file.specs.declared.check.Recorded.{Recorded}

-- what is recorded behind the header
abbrev pub behind_header : List ℕ → Header → Checked Recorded
behind_header file header = do
  cards ← mapped table_of (cards_from file header.card_count 48 0)
  layout_from header file
  uses ← body_from (setting_of file header cards) header file
  ok (record { header = header; cards = cards; uses_si22 = uses })

-- what is recorded of a file
abbrev pub file_walked : List ℕ → Checked Recorded
file_walked file = header_from file >>= behind_header file
