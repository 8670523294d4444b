use Rattle.std.proofs.Common.{ap, ◌∙◌, sym, length}
use Rattle.cup_sheet.specs.Cups.{clubs_together}
use Rattle.cup_feed.specs.inside.GroupLimits.{fixtures_together}
use Rattle.cup_feed.proofs.FeedLemmas.{length-clubs_of_groups, length-fixtures_from, seasons_cut}
use Rattle.cup_feed.proofs.seasons.seasons_of.Goals as goal

pub seasons_by_group-requires-clause-fixtures : goal.seasons_by_group-requires-clause-fixtures
seasons_by_group-requires-clause-fixtures c =
    ap length c.scores.ensures.scores
    ∙ c.requires.of_sheet.scores
    ∙ length-fixtures_from 0 c.args.cup.now.groups
    ∙ ap fixtures_together (sym c.as_slice-groups.ensures)

pub seasons_by_group-requires-clause-clubs : goal.seasons_by_group-requires-clause-clubs
seasons_by_group-requires-clause-clubs c =
    ap length c.deductions.ensures.deductions
    ∙ c.requires.of_sheet.deductions
    ∙ length-clubs_of_groups c.args.cup.now.groups
    ∙ ap clubs_together (sym c.as_slice-groups.ensures)

pub returns-clause-of_groups : goal.returns-clause-of_groups
returns-clause-of_groups c =
    seasons_cut c.args.cup.now c.args.season.now c.in_ok-seasons.seasons
    c.as_slice-groups.result.now c.scores.result.now c.deductions.result.now
    c.requires.of_sheet c.as_slice-groups.ensures c.scores.ensures.scores
    c.deductions.ensures.deductions c.in_ok-seasons.ensures.value
