use Rattle.std.proofs.Common.{◌≡◌, ◌≤◌, ◌++◌, map, drop}
use Rattle.std.specs.List.{between}
use Rattle.fixture_sheet.specs.inside.PlainLines.{between_commas, with_prefix}
use Rattle.fixture_sheet.proofs.plain_line.cut_fields.Given as goal

-- the fields so far, and then those of the rest, with the bytes since the last comma before them
abbrev pub invariant-loop-place : goal.invariant-loop-place
invariant-loop-place l = record {
  inside : l.start ≤ l.place;
  cut : map (λ bytes. bytes.items) l.list.items
      ++ with_prefix (between l.start l.place l.text) (between_commas (drop l.place l.text))
      ≡ between_commas l.text;
}
