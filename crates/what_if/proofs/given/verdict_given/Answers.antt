use Rattle.league_core.specs.declared.question.Claim.TheVariants.{Inside}
use Rattle.league_core.specs.game.Questions.{full_question}
use Rattle.what_if.proofs.HintLemmas.{nowhere_below}
use Rattle.what_if.proofs.PartLemmas.{clinched_by, lost_by, right_by}
use Rattle.what_if.proofs.given.verdict_given.Goals as goal

pub returns-in-Some-Nowhere-clause-right : goal.returns-in-Some-Nowhere-clause-right
returns-in-Some-Nowhere-clause-right c =
    let known = rw (c.in-Some-Nowhere.is, c.in-Some-Nowhere.field-0-is) at c.known.ensures in
    lost_by c.args.stage.now.sheet c.args.stage.now.season c.args.base.now c.args.line c.args.club
    c.new-proof.result c.requires.club
    (nowhere_below c.args.stage.now.sheet c.args.stage.now.season
    (full_question c.args.club c.args.line Inside) c.args.base.now
    (rw c.full_question-question.ensures at known))
    c.new-proof.ensures.items

pub returns-in-Refuted-clause-right : goal.returns-in-Refuted-clause-right
returns-in-Refuted-clause-right c =
    clinched_by c.args.stage.now.sheet c.args.stage.now.season c.args.base.now c.args.line
    c.args.club c.in_ok-outside.outside c.requires.club
    (rw c.full_question-other.ensures at c.in_ok-outside.ensures.part) c.in-Refuted.is

pub returns-clause-right : goal.returns-clause-right
returns-clause-right c =
    right_by c.args.stage.now.sheet c.args.stage.now.season c.args.base.now c.args.line
    c.args.club c.in_ok-inside.inside c.in_ok-outside.outside c.in_ok-proof.proof
    c.word_of-word.result c.requires.club
    (rw c.full_question-question.ensures at c.in_ok-inside.ensures.part)
    (rw c.full_question-other.ensures at c.in_ok-outside.ensures.part)
    c.word_of-word.ensures c.in_ok-proof.ensures
