use Rattle.std.proofs.Common.{◌≡◌, ◌≤◌, take}
use Rattle.fixture_sheet.specs.inside.PlainLines.{without_commas}
use Rattle.fixture_sheet.proofs.plain_line.without_commas.Given as goal

-- the prefix so far without the commas at its end
abbrev pub invariant-loop-place : goal.invariant-loop-place
invariant-loop-place l = record {
  inside : l.end ≤ l.place;
  front : take l.end l.text ≡ without_commas (take l.place l.text);
}
