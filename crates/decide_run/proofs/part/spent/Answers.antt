use Rattle.decide_run.proofs.WidePartLemmas.{spent_wide}
use Rattle.decide_run.proofs.part.spent.Goals as goal

pub returns : goal.returns
returns c =
    spent_wide c.args.played.now.sheet c.args.played.now.season c.args.question.now
    c.args.nodes.items c.in_ok-lines.lines c.requires c.in_ok-lines.ensures
