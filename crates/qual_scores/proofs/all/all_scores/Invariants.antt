use Rattle.std.proofs.Common.{take}
use Rattle.qual_scores.specs.inside.AddedScores.{AreScoresOfLines}
use Rattle.qual_scores.proofs.all.all_scores.Given as goal

-- the numbers about the lines so far
abbrev pub invariant-loop-line : goal.invariant-loop-line
invariant-loop-line l =
    AreScoresOfLines l.sheet l.season (take l.line-index l.sheet.lines) l.found.items
