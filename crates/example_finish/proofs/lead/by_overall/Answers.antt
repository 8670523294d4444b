use Rattle.league_core.specs.game.Ahead.{by_overall}
use Rattle.league_core.specs.game.ClubSets.{clubs_in}
use Rattle.example_finish.specs.inside.ProposalViews.{sheet_asked, finish_asked}
use Rattle.example_finish.specs.inside.ProposedTotals.{by_criterion}
use Rattle.example_finish.specs.declared.criterion.Criterion.TheVariants.{Overall}
use Rattle.example_finish.proofs.CriterionLemmas.{by_overall_is}
use Rattle.example_finish.proofs.GroupStandingLemmas.{standing_agrees}
use Rattle.example_finish.proofs.lead.by_overall.Goals as goal

pub returns : goal.returns
returns c =
    let sheet = sheet_asked c.args.proposed.now in
    let finish = finish_asked c.args.proposed.now in
    let group = clubs_in c.args.group in
    standing_agrees
    (by_criterion Overall c.sheet.result.now c.season.result.now c.totals_over-all.result)
    (by_overall sheet finish) group c.args.club c.by.result
    (λ x has. by_overall_is sheet c.sheet.result.now c.season.result.now finish group
    c.totals_over-all.result x c.args.club c.sheet.ensures.sheet c.totals_over-all.ensures has
    c.requires.among)
    c.by.ensures
