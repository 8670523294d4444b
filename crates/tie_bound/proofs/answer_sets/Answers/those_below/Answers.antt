use Rattle.std.proofs.Common.{◌∙◌}
use Rattle.tie_bound.proofs.AnswerSetLemmas.{below_of}
use Rattle.tie_bound.proofs.answer_sets.Answers.those_below.Goals as goal

pub returns : goal.returns
returns c club = c.without.ensures club ∙ below_of c.args.self club
