-- A law of the definitions.
use Rattle.std.specs.Prelude.{◌≡◌, ℕ, List, [], false, Some}
use Rattle.csv.specs.Machine.{Read}
use Rattle.port_core.specs.Lines.{HasNoLineFeed}
use Rattle.fixture_sheet.specs.Fields.{csv_read, has_return}

-- csv reads a line whole: after the record that it reads nothing of the line is left
abbrev pub LinesAreOneRecord : Type 0
LinesAreOneRecord = (text : List ℕ) → HasNoLineFeed text → has_return text ≡ false
    → (read : Read) → csv_read text ≡ Some read → read.2 ≡ []
