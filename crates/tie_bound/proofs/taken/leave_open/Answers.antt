use Rattle.league_core.specs.declared.sure.Sure.TheVariants.{Unknown}
use Rattle.league_core.specs.game.ClubSets.{clubs_in}
use Rattle.tie_bound.specs.inside.Answers.{answer_at}
use Rattle.tie_bound.proofs.AnswerLemmas.{step_as}
use Rattle.tie_bound.proofs.taken.leave_open.Goals as goal

pub returns : goal.returns
returns c =
    step_as (clubs_in c.args.group) (answer_at c.open.result) (λ rival. Unknown) c.args.answers
    c.then_in.result c.then_in.ensures (λ club has. c.open.ensures club)
