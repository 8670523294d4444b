-- By which of the two there are.
use Rattle.std.proofs.Common.{Option, subst}
use Rattle.score_box.specs.declared.cell.goals.ScoreRange.{ScoreRange}
use Rattle.near_box.specs.inside.CellMatches.{IsRangeIfAny}
use Rattle.near_box.proofs.HullLemmas.{none_of_first, none_of_second}
use Rattle.near_box.proofs.left.either.Goals as goal

pub returns-in-None : goal.returns-in-None
returns-in-None c = λ cell one other mine theirs.
    let Mine : Option ScoreRange → Type 0 = λ goals. IsRangeIfAny cell one goals in
    none_of_first cell one other c.args.second (subst Mine c.in-None.is mine) theirs

pub returns-in-None-second : goal.returns-in-None-second
returns-in-None-second c = λ cell one other mine theirs.
    let Mine : Option ScoreRange → Type 0 = λ goals. IsRangeIfAny cell one goals in
    let Theirs : Option ScoreRange → Type 0 = λ goals. IsRangeIfAny cell other goals in
    none_of_second cell one other c.in-Some.goals (subst Mine c.in-Some.is mine)
    (subst Theirs c.in-None-second.is theirs)

pub returns-in-Some-second : goal.returns-in-Some-second
returns-in-Some-second c = λ cell one other mine theirs.
    let Mine : Option ScoreRange → Type 0 = λ goals. IsRangeIfAny cell one goals in
    let Theirs : Option ScoreRange → Type 0 = λ goals. IsRangeIfAny cell other goals in
    c.around.ensures cell one other (subst Mine c.in-Some.is mine)
    (subst Theirs c.in-Some-second.is theirs)
