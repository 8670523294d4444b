use Rattle.std.proofs.Common.{◌≡◌, ◌<◌, Some, None, length, get_or, ap, sym, ◌∙◌, subst}
use Rattle.league_core.specs.declared.sheet.Fixture.{Fixture}
use Rattle.league_core.specs.game.Seasons.{IsSeasonOf}
use Rattle.example_finish.specs.inside.ProposalViews.{ProposedView, sheet_asked, season_asked}
use Rattle.example_finish.specs.inside.ProposalViews.{finish_asked}
use Rattle.example_finish.proofs.ProposedLemmas.{taken_in_finish, option_at}
use Rattle.example_finish.proofs.proposed.Proposed.score.Goals as goal

pub returns : goal.returns
returns c =
    let wishes = c.self.inside.wishes in
    let inside : ProposedView =
    record { setting = c.self.inside.zone_box.now; question = c.self.inside.question.now } in
    let fixture = c.args.fixture in
    let of_sheet : IsSeasonOf (sheet_asked inside) (season_asked inside) =
    subst (λ (asked : ProposedView). IsSeasonOf (sheet_asked asked) (season_asked asked)) (sym
    c.self.view_is)
    (subst (IsSeasonOf (sheet_asked c.args.self.now)) c.season-season.ensures.season
    c.season-season.ensures.of_sheet) in
    let within : fixture < length (season_asked inside).scores =
    subst (λ (asked : ProposedView). fixture < length (season_asked asked).scores)
    (sym c.self.view_is)
    c.requires in
    let sides = c.sides-sides.ensures.sides
    ∙ ap (λ (asked : ProposedView). get_or (sheet_asked asked).fixtures fixture
    (record { home = 0; away = 0 })) (sym c.self.view_is) in
    subst (λ (asked : ProposedView). get_or (finish_asked asked).scores fixture None
    ≡ Some c.option_of.result) c.self.view_is
    (taken_in_finish wishes inside.setting.sheet inside.setting.season inside.setting.zone
    inside.question fixture (record { home = 0; away = 0 }) c.option_of.result of_sheet within
    c.self.invariant.wishes_are
    (ap (λ (sides : Fixture). option_at wishes inside.setting.sheet inside.setting.season
    inside.setting.zone fixture sides) (sym sides) ∙ c.option_of.ensures))
