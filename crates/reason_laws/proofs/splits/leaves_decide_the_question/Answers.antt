use Rattle.reason_laws.proofs.SplitLemmas.{leaves_show, leaves_decide}
use Rattle.reason_laws.proofs.splits.leaves_decide_the_question.Goals as goal

pub returns-clause-season : goal.returns-clause-season
returns-clause-season c = leaves_show

pub returns-clause-zone : goal.returns-clause-zone
returns-clause-zone c =
    λ sheet season question zone tree. leaves_decide sheet season question tree zone
