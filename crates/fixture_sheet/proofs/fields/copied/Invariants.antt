use Rattle.std.proofs.Common.{◌≡◌, take, map}
use Rattle.csv.specs.Records.{fields_of as row_fields}
use Rattle.fixture_sheet.proofs.fields.copied.Given as goal

-- the fields so far
abbrev pub invariant-loop-place : goal.invariant-loop-place
invariant-loop-place l =
    map (λ bytes. bytes.items) l.list.items ≡ take l.place (row_fields l.row)
