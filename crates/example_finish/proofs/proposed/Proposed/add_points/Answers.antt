use Rattle.std.proofs.Common.{◌≡◌, ◌<◌, ◌*◌, ◌+◌, ℕ, List, length, get_or, sym, ap, ◌∙◌}
use Rattle.std.proofs.Common.{subst, arith}
use Rattle.league_core.specs.game.Seasons.{IsSeasonOf}
use Rattle.league_core.specs.game.Sheets.{IsWithinLimits}
use Rattle.score_box.specs.inside.ZoneBoxViews.{HasFinish}
use Rattle.score_box.specs.inside.Unplayed.{unplayed_in}
use Rattle.score_box.proofs.SplitLemmas.{unplayed_few, unplayed_in_range}
use Rattle.example_finish.specs.inside.ProposalViews.{ProposedView, sheet_asked, season_asked}
use Rattle.example_finish.proofs.ProposedPointLemmas.{with_one_match, with_all_matches}
use Rattle.example_finish.proofs.ProposedPointLemmas.{points_wider}
use Rattle.example_finish.proofs.proposed.Proposed.add_points.Goals as goal

pub add_points_of-requires-clause-in_range : goal.add_points_of-requires-clause-in_range
add_points_of-requires-clause-in_range c =
    let scores = (season_asked c.args.self.now).scores in
    let all : c.unplayed-unplayed.result.now ≡ unplayed_in scores =
    c.unplayed-unplayed.ensures
    ∙ ap (λ (asked : ProposedView). unplayed_in (season_asked asked).scores)
    c.self.view_is in
    let within : c.loop-i.i < length (unplayed_in scores) = omega (
      arith,
      ap (λ (ks : List ℕ).
          length ks) all,
    ) in
    subst (λ (ks : List ℕ). get_or ks c.loop-i.i 0 < length scores) (sym all)
    (unplayed_in_range scores c.loop-i.i 0 within)

pub add_points_of-requires-clause-near : goal.add_points_of-requires-clause-near
add_points_of-requires-clause-near c =
    let scores = (season_asked c.args.self.now).scores in
    let all : c.unplayed-unplayed.result.now ≡ unplayed_in scores =
    c.unplayed-unplayed.ensures
    ∙ ap (λ (asked : ProposedView). unplayed_in (season_asked asked).scores)
    c.self.view_is in
    let of_sheet : IsSeasonOf (sheet_asked c.args.self.now) (season_asked c.args.self.now) =
    subst (IsSeasonOf (sheet_asked c.args.self.now)) c.season-season.ensures.season
    c.season-season.ensures.of_sheet in
    let limits : IsWithinLimits (sheet_asked c.args.self.now) =
    subst IsWithinLimits c.sheet-sheet.ensures.sheet c.sheet-sheet.ensures.limits in
    points_wider (200000 + 3 * c.loop-i.i) 1000000 c.loop-i.points
    (omega (
      arith,
      ap (λ (ks : List ℕ). length ks) all,
      unplayed_few scores,
      of_sheet.scores,
      limits.most_fixtures,
    ))
    c.loop-i.invariant.near

pub loop-i-preserved : goal.loop-i-preserved
loop-i-preserved c =
    let scores = (season_asked c.args.self.now).scores in
    let all : c.unplayed-unplayed.result.now ≡ unplayed_in scores =
    c.unplayed-unplayed.ensures
    ∙ ap (λ (asked : ProposedView). unplayed_in (season_asked asked).scores)
    c.self.view_is in
    with_one_match c.args.self.now (unplayed_in scores) c.loop-i.i
    (get_or c.unplayed-unplayed.result.now c.loop-i.i 0) c.loop-i.points
    c.add_points_of.new.points
    (omega (arith, ap (λ (ks : List ℕ). length ks) all)) (ap (λ (ks : List ℕ). get_or ks c.loop-i.i
    0) all) c.loop-i.invariant c.add_points_of.ensures

pub returns-clause-points : goal.returns-clause-points
returns-clause-points c =
    let scores = (season_asked c.args.self.now).scores in
    let all : c.unplayed-unplayed.result.now ≡ unplayed_in scores =
    c.unplayed-unplayed.ensures
    ∙ ap (λ (asked : ProposedView). unplayed_in (season_asked asked).scores)
    c.self.view_is in
    with_all_matches c.args.self.now c.loop-i.i c.loop-i.points
    (subst (IsSeasonOf (sheet_asked c.args.self.now)) c.season-season.ensures.season
    c.season-season.ensures.of_sheet)
    (subst (λ (asked : ProposedView). HasFinish asked.setting) c.self.view_is
    c.self.invariant.has_finish)
    (omega (arith, ap (λ (ks : List ℕ). length ks) all)) c.loop-i.invariant

pub returns-clause-near : goal.returns-clause-near
returns-clause-near c =
    let scores = (season_asked c.args.self.now).scores in
    let all : c.unplayed-unplayed.result.now ≡ unplayed_in scores =
    c.unplayed-unplayed.ensures
    ∙ ap (λ (asked : ProposedView). unplayed_in (season_asked asked).scores)
    c.self.view_is in
    let of_sheet : IsSeasonOf (sheet_asked c.args.self.now) (season_asked c.args.self.now) =
    subst (IsSeasonOf (sheet_asked c.args.self.now)) c.season-season.ensures.season
    c.season-season.ensures.of_sheet in
    let limits : IsWithinLimits (sheet_asked c.args.self.now) =
    subst IsWithinLimits c.sheet-sheet.ensures.sheet c.sheet-sheet.ensures.limits in
    points_wider (200000 + 3 * c.loop-i.i) 1000000 c.loop-i.points
    (omega (
      arith,
      ap (λ (ks : List ℕ). length ks) all,
      unplayed_few scores,
      of_sheet.scores,
      limits.most_fixtures,
    ))
    c.loop-i.invariant.near
