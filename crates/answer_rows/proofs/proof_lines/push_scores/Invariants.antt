use Rattle.std.proofs.Common.{◌≡◌, ◌++◌, take}
use Rattle.cert_text.specs.ExampleLines.{score_lines}
use Rattle.answer_rows.proofs.proof_lines.push_scores.Given as goal

-- the lines of the fixtures so far come after those before
abbrev pub invariant-loop-fixture : goal.invariant-loop-fixture
invariant-loop-fixture l = l.lines.items
    ≡ l.fn.lines.items
    ++ score_lines 0 (take l.fixture l.season.scores) (take l.fixture l.finish.scores)
