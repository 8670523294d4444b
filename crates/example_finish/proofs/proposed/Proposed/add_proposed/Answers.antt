use Rattle.std.proofs.Common.{◌≡◌, ◌<◌, ◌*◌, ◌+◌, ℕ, List, length, get_or, sym, ap, ◌∙◌}
use Rattle.std.proofs.Common.{subst, arith}
use Rattle.league_core.specs.game.Seasons.{IsSeasonOf}
use Rattle.league_core.specs.game.Sheets.{IsWithinLimits}
use Rattle.league_core.specs.game.ClubSets.{clubs_in}
use Rattle.score_box.specs.inside.ZoneBoxViews.{HasFinish}
use Rattle.score_box.specs.inside.Unplayed.{unplayed_in}
use Rattle.score_box.proofs.SplitLemmas.{unplayed_few, unplayed_in_range}
use Rattle.example_finish.specs.inside.ProposalViews.{ProposedView, sheet_asked, season_asked}
use Rattle.example_finish.proofs.ProposedTotalLemmas.{with_one_more, with_all, all_wider}
use Rattle.example_finish.proofs.proposed.Proposed.add_proposed.Goals as goal

pub add_if_counted-requires-clause-in_range : goal.add_if_counted-requires-clause-in_range
add_if_counted-requires-clause-in_range c =
    let scores = (season_asked c.args.self.now).scores in
    let all : c.unplayed-unplayed.result.now ≡ unplayed_in scores =
    c.unplayed-unplayed.ensures
    ∙ ap (λ (asked : ProposedView). unplayed_in (season_asked asked).scores)
    c.self.view_is in
    let within : c.loop-i.i < length (unplayed_in scores) = omega (
      arith,
      ap (λ (ks : List ℕ).
          length ks) all,
    ) in
    subst (λ (ks : List ℕ). get_or ks c.loop-i.i 0 < length scores) (sym all)
    (unplayed_in_range scores c.loop-i.i 0 within)

pub add_if_counted-requires-clause-near : goal.add_if_counted-requires-clause-near
add_if_counted-requires-clause-near c =
    let scores = (season_asked c.args.self.now).scores in
    let all : c.unplayed-unplayed.result.now ≡ unplayed_in scores =
    c.unplayed-unplayed.ensures
    ∙ ap (λ (asked : ProposedView). unplayed_in (season_asked asked).scores)
    c.self.view_is in
    let of_sheet : IsSeasonOf (sheet_asked c.args.self.now) (season_asked c.args.self.now) =
    subst (IsSeasonOf (sheet_asked c.args.self.now)) c.season-season.ensures.season
    c.season-season.ensures.of_sheet in
    let limits : IsWithinLimits (sheet_asked c.args.self.now) =
    subst IsWithinLimits c.sheet-sheet.ensures.sheet c.sheet-sheet.ensures.limits in
    all_wider (5000000 + 255 * c.loop-i.i) 100000000 c.loop-i.table
    (omega (
      arith,
      ap (λ (ks : List ℕ). length ks) all,
      unplayed_few scores,
      of_sheet.scores,
      limits.most_fixtures,
    ))
    c.loop-i.invariant.near

pub loop-i-preserved : goal.loop-i-preserved
loop-i-preserved c =
    let scores = (season_asked c.args.self.now).scores in
    let all : c.unplayed-unplayed.result.now ≡ unplayed_in scores =
    c.unplayed-unplayed.ensures
    ∙ ap (λ (asked : ProposedView). unplayed_in (season_asked asked).scores)
    c.self.view_is in
    with_one_more c.args.self.now (clubs_in c.args.group) (clubs_in c.args.rows)
    (unplayed_in scores) c.loop-i.i
    (get_or c.unplayed-unplayed.result.now c.loop-i.i 0) c.loop-i.table c.add_if_counted.new.table
    (omega (arith, ap (λ (ks : List ℕ). length ks) all)) (ap (λ (ks : List ℕ). get_or ks c.loop-i.i
    0) all) c.loop-i.invariant
    c.add_if_counted.ensures.sums c.add_if_counted.ensures.near

pub returns : goal.returns
returns c =
    let scores = (season_asked c.args.self.now).scores in
    let all : c.unplayed-unplayed.result.now ≡ unplayed_in scores =
    c.unplayed-unplayed.ensures
    ∙ ap (λ (asked : ProposedView). unplayed_in (season_asked asked).scores)
    c.self.view_is in
    with_all c.args.self.now (clubs_in c.args.group) (clubs_in c.args.rows) c.loop-i.i
    c.loop-i.table
    (subst (IsSeasonOf (sheet_asked c.args.self.now)) c.season-season.ensures.season
    c.season-season.ensures.of_sheet)
    (subst (λ (asked : ProposedView). HasFinish asked.setting) c.self.view_is
    c.self.invariant.has_finish)
    (omega (arith, ap (λ (ks : List ℕ). length ks) all)) c.loop-i.invariant
