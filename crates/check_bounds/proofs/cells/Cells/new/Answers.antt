-- The extremes of a season's domains, and what they add up to.
use Rattle.std.proofs.Common.{◌≡◌, List, [], subst, sym}
use Rattle.league_core.specs.declared.sheet.Fixture.{Fixture}
use Rattle.league_core.specs.declared.sheet.Sheet.{Sheet}
use Rattle.league_core.specs.declared.season.Score.{Score}
use Rattle.league_core.specs.game.Results.{Results}
use Rattle.league_core.specs.game.Seasons.{IsLeague}
use Rattle.league_core.specs.game.Sums.{match_points, worth_to}
use Rattle.league_core.specs.search.Options.{options_from, options_in}
use Rattle.std.proofs.Common.{Option}
use Rattle.check_bounds.specs.declared.score_domain.ScoreDomain.{ScoreDomain}
use Rattle.check_bounds.specs.inside.Zones.{AreScoreDomainsOf}
use Rattle.check_bounds.specs.inside.Tables.{ArePlayedOver, IsTableOf}
use Rattle.check_bounds.specs.inside.Cells.{FitScoreDomains}
use Rattle.check_bounds.specs.inside.OpenCounts.{AreOpenCounts}
use Rattle.check_bounds.proofs.ScoreDomainLemmas.{played_over}
use Rattle.check_bounds.proofs.CellLemmas.{fit_zone}
use Rattle.check_bounds.proofs.cells.Cells.new.Goals as goal

-- extremes that fit the domains of a season are played
played : (sheet : Sheet) (season : Results) (scores : List (Option Score))
    (scopes lent : List ScoreDomain) (corners : List (List Score)) → IsLeague sheet season
    → scores ≡ season.scores → lent ≡ scopes
    → AreScoreDomainsOf scopes (options_from sheet.goal_limit [] 0 scores)
    → FitScoreDomains lent corners
    → ArePlayedOver sheet.fixtures corners
played sheet season scores scopes lent corners league scores_are lent_are are fit =
    let Options : List (Option Score) → Type 0 =
    λ scores. AreScoreDomainsOf scopes (options_from sheet.goal_limit [] 0 scores) in
    let Fit : List ScoreDomain → Type 0 = λ scopes. FitScoreDomains scopes corners in
    played_over sheet season [] corners league
    (fit_zone scopes corners (options_in sheet season []) (subst Fit lent_are fit)
    (subst Options scores_are are))

pub sums_of-won-requires : goal.sums_of-won-requires
sums_of-won-requires c =
    let sheet = c.args.sheet.now in
    let corners = c.in_ok-corners.corners.items in
    let Fixtures : List Fixture → Type 0 =
    λ fixtures. ArePlayedOver fixtures c.as_slice-3.result.now in
    let ExtremeScores : List (List Score)
    → Type 0 = λ corners. ArePlayedOver sheet.fixtures corners in
    subst Fixtures (sym c.as_slice-2.ensures)
    (subst ExtremeScores (sym c.as_slice-3.ensures.value)
    (played sheet c.args.season.now c.scores.result.now c.in_ok-scopes.scopes.items
    c.as_slice.result.now corners c.requires c.scores.ensures.scores c.as_slice.ensures.value
    c.in_ok-scopes.ensures c.in_ok-corners.ensures))

pub invariant_of-result : goal.invariant_of-result
invariant_of-result c =
    let sheet = c.args.sheet.now in
    let corners = c.in_ok-corners.corners.items in
    let Fit : List ScoreDomain → Type 0 = λ scopes. FitScoreDomains scopes corners in
    let Fixtures : List Fixture → Type 0 = λ fixtures. IsTableOf (worth_to match_points) fixtures
    c.as_slice-3.result.now c.sums_of-won.result in
    let ExtremeScores : List (List Score) → Type 0 = λ corners. IsTableOf (worth_to match_points)
    sheet.fixtures corners c.sums_of-won.result in
    let Loosely : List (List Score) → Type 0 = λ corners. AreOpenCounts corners c.of-loose.result in
    record {
      limits = c.requires.limits;
      played = played sheet c.args.season.now c.scores.result.now c.in_ok-scopes.scopes.items
          c.as_slice.result.now corners c.requires c.scores.ensures.scores c.as_slice.ensures.value
          c.in_ok-scopes.ensures c.in_ok-corners.ensures;
      fit = subst Fit c.as_slice.ensures.value c.in_ok-corners.ensures;
      won = subst ExtremeScores c.as_slice-3.ensures.value
          (subst Fixtures c.as_slice-2.ensures c.sums_of-won.ensures);
      loose = subst Loosely c.as_slice-4.ensures.value c.of-loose.ensures;
    }
