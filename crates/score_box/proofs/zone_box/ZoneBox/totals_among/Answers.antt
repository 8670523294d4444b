use Rattle.std.proofs.Common.{length, subst, ap, arith}
use Rattle.league_core.specs.game.ClubSets.{clubs_in}
use Rattle.league_core.specs.game.Sums.{sum_among}
use Rattle.score_box.specs.inside.ZoneBoxViews.{ZoneBoxView}
use Rattle.score_box.specs.inside.Totals.{AreTotals}
use Rattle.score_box.proofs.TotalLemmas.{among-is}
use Rattle.score_box.proofs.zone_box.ZoneBox.totals_among.Goals as goal

pub returns-clause-sums : goal.returns-clause-sums
returns-clause-sums c =
    let box = c.self.inside in
    let limits = c.self.invariant.league.limits in
    let clubs = ap (λ (s : ZoneBoxView). length s.sheet.clubs) c.self.view_is in
    let Are : ZoneBoxView → Type 0 = λ v. AreTotals
    (λ worth. sum_among (clubs_in c.args.group) worth v.sheet v.season c.args.club)
    c.of_group.result in
    subst Are c.self.view_is
    (among-is box.sheet.now box.season.now box.tables.clubs.items box.tables.pairs.items
    c.args.group.bits c.args.club c.of_group.result limits c.self.invariant.tables c.requires.club
    (λ member is.
    let low = c.requires.group member is in omega (arith, low, clubs, limits.most_clubs))
    c.of_group.ensures.sums)
