use Rattle.std.proofs.Common.{rules, tests}
use Rattle.std.proofs.lemmas.Iterator.{cases_from_all, YieldsList-from_slice}
use Rattle.score_box.specs.inside.Cells.{HasOneScore}
use Rattle.score_box.proofs.BoxLemmas.{all_decided}
use Rattle.score_box.proofs.zone_box.have_one_score.Goals as goal

pub returns : goal.returns
returns c =
    all_decided c.all.result HasOneScore (λ cell. ¬ HasOneScore cell) c.args.cells.now
    (λ cell one more. more one)
    (cases_from_all _ _ _ HasOneScore (λ cell. ¬ HasOneScore cell) c.all.ensures.ran
    (YieldsList-from_slice c.args.cells.now cc) (λ x q k. search (rules, tests))
    (λ x q k. search (rules, tests)))
