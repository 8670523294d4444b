use Rattle.decide_run.proofs.WidePartLemmas.{refuted_wide}
use Rattle.decide_run.proofs.part.refuted.Goals as goal

pub returns : goal.returns
returns c =
    refuted_wide c.args.played.now.sheet c.args.played.now.season c.args.question.now
    c.args.nodes.items c.in_ok-lines.lines c.requires c.in_ok-lines.ensures
