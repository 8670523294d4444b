use Rattle.what_if.proofs.HintLemmas.{found_below}
use Rattle.what_if.proofs.hints.Hints.moved.Goals as goal

pub returns-in-Some : goal.returns-in-Some
returns-in-Some c =
    let found = rw c.in-Some.is at c.in_ok-finish.ensures in
    found_below c.args.self.now.played.now.sheet c.args.self.now.played.now.season
    c.in_ok-start.start c.args.question.now c.args.base.now c.in-Some.finish c.in-Some.lots
    (rw c.sheet-sheet.ensures.sheet at found) (c.is_member.ensures c.if-is_member.true)
