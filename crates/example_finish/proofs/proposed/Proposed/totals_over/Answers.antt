use Rattle.std.proofs.Common.{ℕ, List, sym, subst}
use Rattle.league_core.specs.game.Sheets.{IsWithinLimits}
use Rattle.league_core.specs.game.ClubSets.{clubs_in}
use Rattle.score_box.specs.inside.ZoneBoxViews.{ZoneBoxView}
use Rattle.example_finish.specs.inside.ProposalViews.{sheet_asked, season_asked, finish_asked}
use Rattle.example_finish.specs.inside.ProposedTotals.{AreTotalsFor, AreTotalsOver}
use Rattle.example_finish.proofs.ProposedTotalLemmas.{over_from_among, among_from_over}
use Rattle.example_finish.proofs.ProposedTotalLemmas.{group_of_all}
use Rattle.example_finish.proofs.ProposedTotalLemmas.{all_clubs}
use Rattle.example_finish.proofs.proposed.Proposed.totals_over.Goals as goal

pub add_proposed-requires-clause-of_group : goal.add_proposed-requires-clause-of_group
add_proposed-requires-clause-of_group c =
    let all = all_clubs (sheet_asked c.args.self.now) c.sheet.result.now
    (clubs_in c.first-all.result) c.len.result
    c.sheet.ensures.sheet c.len.ensures c.first-all.ensures in
    group_of_all (sheet_asked c.args.self.now) (clubs_in c.first-all.result) all

pub add_proposed-requires-clause-played : goal.add_proposed-requires-clause-played
add_proposed-requires-clause-played c =
    let sheet = sheet_asked c.args.self.now in
    let season = season_asked c.args.self.now in
    let all = all_clubs sheet c.sheet.result.now (clubs_in c.first-all.result) c.len.result
    c.sheet.ensures.sheet c.len.ensures c.first-all.ensures in
    let limits : IsWithinLimits sheet = subst IsWithinLimits c.sheet.ensures.sheet
    c.sheet.ensures.limits in
    let rows = clubs_in c.args.group in
    let over : AreTotalsOver sheet season rows c.played_over-table.result =
    subst (λ (setting : ZoneBoxView). AreTotalsOver setting.sheet setting.season rows
    c.played_over-table.result) c.zone_box.ensures
    c.played_over-table.ensures.totals in
    subst (λ (group : List ℕ). AreTotalsFor sheet season group rows c.played_over-table.result)
    (sym all) (among_from_over sheet season rows c.played_over-table.result limits over)

pub returns : goal.returns
returns c =
    let sheet = sheet_asked c.args.self.now in
    let finish = finish_asked c.args.self.now in
    let all = all_clubs sheet c.sheet.result.now (clubs_in c.first-all.result) c.len.result
    c.sheet.ensures.sheet c.len.ensures c.first-all.ensures in
    let limits : IsWithinLimits sheet = subst IsWithinLimits c.sheet.ensures.sheet
    c.sheet.ensures.limits in
    let rows = clubs_in c.args.group in
    over_from_among sheet finish rows c.add_proposed.new.table limits
    (subst (λ (group : List ℕ). AreTotalsFor sheet finish group rows c.add_proposed.new.table) all
    c.add_proposed.ensures)
