use Rattle.std.proofs.Common.{◌≡◌, drop}
use Rattle.league_core.specs.declared.question.Question.{Question}
use Rattle.par_check.specs.Shapes.{shape_of_scores}
use Rattle.par_check.proofs.item_head.next_score.Given as goal

-- the fixtures passed so far have scores
abbrev pub invariant-loop-it : goal.invariant-loop-it
invariant-loop-it l =
    (question : Question)
    → shape_of_scores question l.from (drop l.from l.report.basis.season.scores)
    ≡ shape_of_scores question l.it (drop l.it l.report.basis.season.scores)
