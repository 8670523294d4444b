use Rattle.league_core.specs.game.HeadToHead.{by_head_to_head}
use Rattle.league_core.specs.game.ClubSets.{clubs_in}
use Rattle.example_finish.specs.inside.ProposalViews.{sheet_asked, finish_asked}
use Rattle.example_finish.specs.inside.ProposedTotals.{by_criterion}
use Rattle.example_finish.specs.declared.criterion.Criterion.TheVariants.{Record}
use Rattle.example_finish.proofs.CriterionLemmas.{by_record_is}
use Rattle.example_finish.proofs.GroupStandingLemmas.{standing_agrees}
use Rattle.example_finish.proofs.lead.by_record.Goals as goal

pub returns : goal.returns
returns c =
    let sheet = sheet_asked c.args.proposed.now in
    let finish = finish_asked c.args.proposed.now in
    let group = clubs_in c.args.group in
    standing_agrees (by_criterion Record c.sheet.result.now c.season.result.now
    c.totals_among-table.result)
    (by_head_to_head sheet finish group) group c.args.club c.by.result
    (λ x has. by_record_is sheet c.sheet.result.now c.season.result.now finish group
    c.totals_among-table.result x c.args.club c.totals_among-table.ensures has
    c.requires.among)
    c.by.ensures
