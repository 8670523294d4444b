use Rattle.std.proofs.Common.{sym, subst}
use Rattle.league_core.specs.declared.club_set.ClubSet.{ClubSet}
use Rattle.league_core.specs.declared.sheet.Order.TheVariants.{OverallFirst}
use Rattle.league_core.specs.game.ClubSets.{clubs_in}
use Rattle.league_core.specs.game.Ahead.{standing_by}
use Rattle.example_finish.specs.inside.ProposalViews.{sheet_asked, finish_asked}
use Rattle.example_finish.specs.inside.GroupStandings.{IsStandingOf}
use Rattle.example_finish.proofs.GroupStandingLemmas.{standing_overall_first}
use Rattle.example_finish.proofs.lead.stand_overall_first.Goals as goal

pub returns : goal.returns
returns c =
    let sheet = sheet_asked c.args.proposed.now in
    let finish = finish_asked c.args.proposed.now in
    let group = c.args.group in
    subst (λ (level : ClubSet). IsStandingOf (standing_by OverallFirst sheet finish (clubs_in
    group))
    (clubs_in group) c.args.club (record { ahead = c.then.result.ahead; level = level }))
    (sym c.then.ensures.level)
    (standing_overall_first sheet finish group c.args.club c.by_goals-outer.result
    c.lead-inner.result c.then.result.ahead c.by_goals-outer.ensures c.lead-inner.ensures
    c.then.ensures.ahead)
