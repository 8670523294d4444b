use Rattle.std.proofs.Common.{◌≡◌, take}
use Rattle.csv.specs.Records.{fields_of as row_fields}
use Rattle.fixture_sheet.specs.Fields.{without_padding}
use Rattle.fixture_sheet.proofs.fields.kept.Given as goal

-- the fields so far that count
abbrev pub invariant-loop-place : goal.invariant-loop-place
invariant-loop-place l =
    take l.kept (row_fields l.row) ≡ without_padding (take l.place (row_fields l.row))
