-- Of two kinds of scores of which one has none the other has all.
use Rattle.std.proofs.Common.{Option, subst}
use Rattle.key_bounds.specs.declared.row_ends.RowEnds.{RowEnds}
use Rattle.key_bounds.specs.inside.RowEnds.{AreEndsIfAny}
use Rattle.key_bounds.proofs.HullLemmas.{hull_ends, ends_of_one, ends_of_other}
use Rattle.key_bounds.proofs.outcomes.either.Goals as goal

pub returns-in-None : goal.returns-in-None
returns-in-None c = λ one other away mine theirs.
    let At : Option RowEnds → Type 0 = λ found. AreEndsIfAny one away found in
    ends_of_other one other away c.args.second (subst At c.in-None.is mine) theirs

pub returns-in-None-second : goal.returns-in-None-second
returns-in-None-second c = λ one other away mine theirs.
    let At : Option RowEnds → Type 0 = λ found. AreEndsIfAny one away found in
    let Other : Option RowEnds → Type 0 = λ found. AreEndsIfAny other away found in
    ends_of_one one other away c.in-Some.ends (subst Other c.in-None-second.is theirs)
    (subst At c.in-Some.is mine)

pub returns-in-Some-second : goal.returns-in-Some-second
returns-in-Some-second c = λ one other away mine theirs.
    let At : Option RowEnds → Type 0 = λ found. AreEndsIfAny one away found in
    let Other : Option RowEnds → Type 0 = λ found. AreEndsIfAny other away found in
    hull_ends one other away c.in-Some.ends c.in-Some-second.more c.around.result
    c.around.ensures (subst At c.in-Some.is mine) (subst Other c.in-Some-second.is theirs)
