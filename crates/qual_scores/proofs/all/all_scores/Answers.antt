use Rattle.qual_scores.proofs.AllLemmas.{scores_in_range}
use Rattle.qual_scores.proofs.all.all_scores.Goals as goal

pub returns-clause-in_range : goal.returns-clause-in_range
returns-clause-in_range c =
    scores_in_range c.args.sheet.now c.args.season.now c.loop-line.found.items
    c.loop-line.invariant.each
