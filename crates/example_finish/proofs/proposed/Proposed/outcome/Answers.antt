use Rattle.std.proofs.Common.{◌<◌, None, [], length, get_or, ap, ap₂, Bool, sym, ◌∙◌, subst, arith}
use Rattle.league_core.specs.declared.sheet.Fixture.{Fixture}
use Rattle.league_core.specs.search.Options.{options_in}
use Rattle.league_core.specs.search.Proposals.{first_option}
use Rattle.league_core.specs.game.Seasons.{IsSeasonOf}
use Rattle.example_finish.specs.inside.ProposalViews.{ProposedView, sheet_asked, season_asked}
use Rattle.example_finish.specs.inside.ProposalViews.{finish_asked}
use Rattle.example_finish.specs.inside.FirstOutcomes.{HasOutcome}
use Rattle.example_finish.proofs.ProposedLemmas.{outcome_in_finish, option_at}
use Rattle.example_finish.proofs.proposed.Proposed.outcome.Goals as goal

pub returns : goal.returns
returns c =
    let wishes = c.self.inside.wishes in
    let wished = c.self.invariant.wished_are in
    let inside : ProposedView =
    record { setting = c.self.inside.zone_box.now; question = c.self.inside.question.now } in
    let sheet = inside.setting.sheet in
    let season = inside.setting.season in
    let zone = inside.setting.zone in
    let fixture = c.args.fixture in
    let options = get_or (options_in sheet season zone) fixture [] in
    let of_sheet : IsSeasonOf sheet season =
    subst (λ (asked : ProposedView). IsSeasonOf (sheet_asked asked) (season_asked asked)) (sym
    c.self.view_is)
    (subst (IsSeasonOf (sheet_asked c.args.self.now)) c.season-season.ensures.season
    c.season-season.ensures.of_sheet) in
    let within : fixture < length season.scores =
    subst (λ (asked : ProposedView). fixture < length (season_asked asked).scores)
    (sym c.self.view_is)
    c.requires in
    let sides = c.sides-sides.ensures.sides
    ∙ ap (λ (asked : ProposedView). get_or (sheet_asked asked).fixtures fixture
    (record { home = 0; away = 0 })) (sym c.self.view_is) in
    subst (λ (asked : ProposedView). HasOutcome (get_or (finish_asked asked).scores fixture None)
    c.first_outcome.result) c.self.view_is
    (outcome_in_finish wishes sheet season zone inside.question fixture
    (record { home = 0; away = 0 }) c.first_outcome.result of_sheet
    c.self.invariant.has_finish within c.self.invariant.wishes_are
    (λ score is. c.first_outcome.ensures options score c.cell.ensures
    c.outcomes_left-left.ensures.among
    (ap₂ (λ (x y : Bool). first_option x y options)
    (c.is_wished-home.ensures ∙ wished.each c.sides-sides.result.home
    c.sides-sides.ensures.of_match.home)
    (c.is_wished-away.ensures ∙ wished.each c.sides-sides.result.away
    c.sides-sides.ensures.of_match.away)
    ∙ ap (λ (match : Fixture). option_at wishes sheet season zone fixture match) sides ∙ is)))

pub is_wished-home-requires : goal.is_wished-home-requires
is_wished-home-requires c =
    omega (arith, c.self.invariant.wished_are.long, c.sides-sides.ensures.of_match.home)

pub is_wished-away-requires : goal.is_wished-away-requires
is_wished-away-requires c =
    omega (arith, c.self.invariant.wished_are.long, c.sides-sides.ensures.of_match.away)
